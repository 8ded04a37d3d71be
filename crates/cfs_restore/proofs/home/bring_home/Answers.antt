use Rattle.std.proofs.Common.{ℕ, length, map, arith, subst}
use Rattle.std.proofs.lemmas.List.{length-map}
use Rattle.cfs_plan.specs.Readings.{files_in}
use Rattle.cfs_recover.proofs.Lists.{full-all}
use Rattle.cfs_recover.proofs.Swept.{stands-moments}
use Rattle.cfs_replay.specs.Plans.{IsWithin}
use Rattle.cfs_survey.specs.Surveys.{words_of}
use Rattle.cfs_restore.proofs.Causes.{lacked-cause}
use Rattle.cfs_restore.proofs.Moments.{plan-on}
use Rattle.cfs_restore.proofs.Stores.{are-read, are-slots, have-words, place-in}
use Rattle.cfs_restore.proofs.home.bring_home.Goals as goal

pub returns-in_err-plan-clause-moments : goal.returns-in_err-plan-clause-moments
returns-in_err-plan-clause-moments g c = λ start first stands.
    stands-moments (files_in c.args.survey.now) start first (map g.R.Region.seen c.args.regions.now)
    (map g.B.Block.seen c.args.blocks.now) (g.P.Power.asked c.args.power.now) stands

pub returns-in_err-plan-clause-cause : goal.returns-in_err-plan-clause-cause
returns-in_err-plan-clause-cause g c = lacked-cause _ _ c.from_residual.ensures.1

pub returns-in_err-buffer-clause-moments : goal.returns-in_err-buffer-clause-moments
returns-in_err-buffer-clause-moments g c = λ start first stands.
    stands-moments (files_in c.args.survey.now) start first (map g.R.Region.seen c.args.regions.now)
    (map g.B.Block.seen c.args.blocks.now) (g.P.Power.asked c.args.power.now) stands

pub returns-in_err-buffer-clause-cause : goal.returns-in_err-buffer-clause-cause
returns-in_err-buffer-clause-cause g c = lacked-cause _ _ c.from_residual-in_err-buffer.ensures.1

pub replay-requires-clause-place : goal.replay-requires-clause-place
replay-requires-clause-place g c =
    omega (arith, place-in c.requires.store, length-map c.args.regions.now g.R.Region.seen)

pub replay-requires-clause-within : goal.replay-requires-clause-within
replay-requires-clause-within g c =
    let regions = map g.R.Region.seen c.args.regions.now in
    let blocks = map g.B.Block.seen c.args.blocks.now in
    subst (λ (n : ℕ). IsWithin c.in_ok-plan.plan n (length c.args.blocks.now))
    (length-map c.args.regions.now g.R.Region.seen)
    (subst (λ (n : ℕ). IsWithin c.in_ok-plan.plan (length regions) n)
    (length-map c.args.blocks.now g.B.Block.seen)
    (c.in_ok-plan.ensures.within regions blocks
    (are-read c.requires.store (words_of c.args.words.now) c.requires.read)))

pub replay-requires-clause-entries : goal.replay-requires-clause-entries
replay-requires-clause-entries g c =
    c.in_ok-plan.ensures.can (map g.R.Region.seen c.args.regions.now)
    (map g.B.Block.seen c.args.blocks.now)
    (are-read c.requires.store (words_of c.args.words.now) c.requires.read)

pub replay-requires-clause-slots : goal.replay-requires-clause-slots
replay-requires-clause-slots g c = are-slots c.requires.store

pub replay-requires-clause-words : goal.replay-requires-clause-words
replay-requires-clause-words g c = have-words c.requires.store

pub returns-in_err-replay-clause-moments : goal.returns-in_err-replay-clause-moments
returns-in_err-replay-clause-moments g c = λ start first stands.
    c.replay.ensures.moments (files_in c.args.survey.now) start first stands
    (plan-on (files_in c.args.survey.now) (words_of c.args.words.now) c.in_ok-plan.plan start first
    (map g.R.Region.seen c.args.regions.now) (map g.B.Block.seen c.args.blocks.now)
    (full-all g.B.Block.seen c.args.blocks.now g.met.B.Block.full) c.in_ok-plan.ensures.plan
    (are-read c.requires.store (words_of c.args.words.now) c.requires.read) stands)

pub returns-clause-moments : goal.returns-clause-moments
returns-clause-moments g c = λ start first stands.
    c.replay.ensures.moments (files_in c.args.survey.now) start first stands
    (plan-on (files_in c.args.survey.now) (words_of c.args.words.now) c.in_ok-plan.plan start first
    (map g.R.Region.seen c.args.regions.now) (map g.B.Block.seen c.args.blocks.now)
    (full-all g.B.Block.seen c.args.blocks.now g.met.B.Block.full) c.in_ok-plan.ensures.plan
    (are-read c.requires.store (words_of c.args.words.now) c.requires.read) stands)

pub returns-clause-home : goal.returns-clause-home
returns-clause-home g c = λ start first stands.
    c.in_ok-replay.ensures.home (files_in c.args.survey.now) start first stands
    (plan-on (files_in c.args.survey.now) (words_of c.args.words.now) c.in_ok-plan.plan start first
    (map g.R.Region.seen c.args.regions.now) (map g.B.Block.seen c.args.blocks.now)
    (full-all g.B.Block.seen c.args.blocks.now g.met.B.Block.full) c.in_ok-plan.ensures.plan
    (are-read c.requires.store (words_of c.args.words.now) c.requires.read) stands)
