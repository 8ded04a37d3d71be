use Rattle.std.proofs.Common.{map}
use Rattle.cfs_restore.specs.Held.{files_held}
use Rattle.cfs_plan.specs.Readings.{files_in}
use Rattle.cfs_restore.proofs.Moments.{files-told, home-behind, home-then}
use Rattle.cfs_restore.proofs.Still.{still-stands}
use Rattle.cfs_restore.proofs.Stores.{store-after}
use Rattle.cfs_restore.proofs.whole.restore.Goals as goal

pub returns-in_err-words-clause-moments : goal.returns-in_err-words-clause-moments
returns-in_err-words-clause-moments g c = λ start first stands.
    (still-stands (files_held (map g.R.Region.seen c.args.regions.now)
    (map g.B.Block.seen c.args.blocks.now)) start first _ _
    (map g.R.Region.seen c.args.regions.now) _
    (map g.B.Block.seen c.args.blocks.now) _ stands c.survey_store.ensures.leaves).1

pub returns-in_err-bring_home-clause-moments : goal.returns-in_err-bring_home-clause-moments
returns-in_err-bring_home-clause-moments g c = λ start first stands.
    home-then (files_held (map g.R.Region.seen c.args.regions.now)
    (map g.B.Block.seen c.args.blocks.now)) (files_in c.in_ok-words.survey) start first
    (map g.R.Region.seen c.args.regions.now) _ _ (map g.B.Block.seen c.args.blocks.now) _ _
    (files-told _ c.in_ok-words.survey _ _ c.in_ok-words.ensures.read (record {
      tree = c.in_ok-words.ensures.tree;
      stands = c.in_ok-words.ensures.stands;
      changes = c.in_ok-words.ensures.changes;
      blocks = c.in_ok-words.ensures.blocks;
      entries = c.in_ok-words.ensures.entries;
    }))
    stands c.survey_store.ensures.leaves c.bring_home.ensures.moments

pub returns-in_err-bring_home-clause-store : goal.returns-in_err-bring_home-clause-store
returns-in_err-bring_home-clause-store g c =
    store-after c.requires.store c.survey_store.ensures.leaves c.survey_store.ensures.numbers
    c.bring_home.ensures.lengths c.bring_home.ensures.devices c.bring_home.ensures.numbers

pub returns-clause-moments : goal.returns-clause-moments
returns-clause-moments g c = λ start first stands.
    home-then (files_held (map g.R.Region.seen c.args.regions.now)
    (map g.B.Block.seen c.args.blocks.now)) (files_in c.in_ok-words.survey) start first
    (map g.R.Region.seen c.args.regions.now) _ _ (map g.B.Block.seen c.args.blocks.now) _ _
    (files-told _ c.in_ok-words.survey _ _ c.in_ok-words.ensures.read (record {
      tree = c.in_ok-words.ensures.tree;
      stands = c.in_ok-words.ensures.stands;
      changes = c.in_ok-words.ensures.changes;
      blocks = c.in_ok-words.ensures.blocks;
      entries = c.in_ok-words.ensures.entries;
    }))
    stands c.survey_store.ensures.leaves c.bring_home.ensures.moments

pub returns-clause-home : goal.returns-clause-home
returns-clause-home g c = λ start first stands.
    home-behind (files_held (map g.R.Region.seen c.args.regions.now)
    (map g.B.Block.seen c.args.blocks.now)) (files_in c.in_ok-words.survey) start first
    (map g.R.Region.seen c.args.regions.now) _ _ (map g.B.Block.seen c.args.blocks.now) _ _
    (files-told _ c.in_ok-words.survey _ _ c.in_ok-words.ensures.read (record {
      tree = c.in_ok-words.ensures.tree;
      stands = c.in_ok-words.ensures.stands;
      changes = c.in_ok-words.ensures.changes;
      blocks = c.in_ok-words.ensures.blocks;
      entries = c.in_ok-words.ensures.entries;
    }))
    stands c.survey_store.ensures.leaves c.in_ok-bring_home.ensures.home

pub returns-clause-store : goal.returns-clause-store
returns-clause-store g c =
    store-after c.requires.store c.survey_store.ensures.leaves c.survey_store.ensures.numbers
    c.bring_home.ensures.lengths c.bring_home.ensures.devices c.bring_home.ensures.numbers
