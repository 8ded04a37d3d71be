use Rattle.std.proofs.Common.{ℕ, ◌+◌, ◌∙◌, List, map, take, get_or, refl, sym, ap, subst, arith}
use Rattle.std.proofs.lemmas.List.{length-map, take_all}
use Rattle.cfs_pmem.proofs.AllMomentLemmas.{all_after}
use Rattle.cfs_home.specs.Disks.{Disk}
use Rattle.cfs_recover.specs.Begins.{Stands}
use Rattle.cfs_recover.specs.Swept.{all_shut, with_shut}
use Rattle.cfs_recover.specs.Words.{HaveFirstWords}
use Rattle.cfs_recover.proofs.BlockCalls.{same-cause}
use Rattle.cfs_recover.proofs.Lists.{take-none}
use Rattle.cfs_recover.proofs.Settled.{first-words}
use Rattle.cfs_recover.proofs.Swept.{all-one-more, dead-moments, dead-stands, dead-still}
use Rattle.cfs_recover.proofs.Swept.{shut-one-more, stands-moments}
use Rattle.cfs_recover.proofs.sweep.close_dead.Goals as goal

pub close_gate-requires-clause-within : goal.close_gate-requires-clause-within
close_gate-requires-clause-within g c =
    c.loop-at.invariant.words (323 + get_or c.args.places.now c.loop-at.at-index 0)
    (omega (
      arith,
      c.requires.within c.loop-at.at-index c.loop-at-test.true,
      length-map c.loop-at.regions g.R.Region.seen,
    ))

pub loop-at-init : goal.loop-at-init
loop-at-init g c = record {
  so_far = sym (ap (λ (xs : List ℕ). with_shut xs (map g.R.Region.seen c.args.regions.now))
      (take-none c.args.places.now));
  words = c.requires.words;
  moments = λ files start first blocks stands dead.
      stands-moments files start first (map g.R.Region.seen c.args.regions.now) blocks _ stands;
  stands = λ files start first blocks stands dead.
      subst (λ (xs : List ℕ). Stands files start (all_shut xs first)
      (map g.R.Region.seen c.args.regions.now) blocks)
      (sym (take-none c.args.places.now)) stands;
  lengths = refl;
  devices = refl;
  counts = refl;
}

pub returns-in_err-close_gate-clause-moments : goal.returns-in_err-close_gate-clause-moments
returns-in_err-close_gate-clause-moments g c = λ files start first blocks stands dead.
    let places = c.args.places.now in
    let i = c.loop-at.at-index in
    all_after (c.loop-at.invariant.moments files start first blocks stands dead)
    (dead-moments files start (all_shut (take i places) first)
    (map g.R.Region.seen c.loop-at.regions) blocks
    (c.loop-at.invariant.stands files start first blocks stands dead) (get_or places i 0)
    (map g.R.Region.seen c.close_gate.new.regions) _ _
    (dead-still files (take i places) first (get_or places i 0) (dead i c.loop-at-test.true))
    c.close_gate.ensures.moments)

pub loop-at-preserved : goal.loop-at-preserved
loop-at-preserved g c = record {
  so_far = shut-one-more c.args.places.now c.loop-at.at-index _ _ _ c.loop-at-test.true
      c.loop-at.invariant.so_far c.in_ok-close_gate.ensures.ok;
  words = subst HaveFirstWords (sym c.in_ok-close_gate.ensures.ok)
      (first-words (323 + get_or c.args.places.now c.loop-at.at-index 0) 0
      (map g.R.Region.seen c.loop-at.regions) c.loop-at.invariant.words);
  moments = λ files start first blocks stands dead.
      let places = c.args.places.now in
      let i = c.loop-at.at-index in
      all_after (c.loop-at.invariant.moments files start first blocks stands dead)
      (dead-moments files start (all_shut (take i places) first)
      (map g.R.Region.seen c.loop-at.regions) blocks
      (c.loop-at.invariant.stands files start first blocks stands dead) (get_or places i 0)
      (map g.R.Region.seen c.close_gate.new.regions) _ _
      (dead-still files (take i places) first (get_or places i 0) (dead i c.loop-at-test.true))
      c.close_gate.ensures.moments);
  stands = λ files start first blocks stands dead.
      let places = c.args.places.now in
      let i = c.loop-at.at-index in
      subst (λ (disk : Disk). Stands files start disk
      (map g.R.Region.seen c.close_gate.new.regions) blocks)
      (all-one-more places i first c.loop-at-test.true)
      (dead-stands files start (all_shut (take i places) first)
      (map g.R.Region.seen c.loop-at.regions) blocks
      (c.loop-at.invariant.stands files start first blocks stands dead) (get_or places i 0)
      (map g.R.Region.seen c.close_gate.new.regions)
      (dead-still files (take i places) first (get_or places i 0) (dead i c.loop-at-test.true))
      c.in_ok-close_gate.ensures.ok
      (omega (
        arith,
        c.requires.within i c.loop-at-test.true,
        length-map c.loop-at.regions g.R.Region.seen,
      ))
      c.close_gate.ensures.devices);
  lengths = c.close_gate.ensures.lengths ∙ c.loop-at.invariant.lengths;
  devices = c.close_gate.ensures.devices ∙ c.loop-at.invariant.devices;
  counts = c.in_ok-close_gate.ensures.cause.passed ∙ c.loop-at.invariant.counts;
}

pub returns-clause-stands : goal.returns-clause-stands
returns-clause-stands g c = λ files start first blocks stands dead.
    subst (λ (xs : List ℕ). Stands files start (all_shut xs first)
    (map g.R.Region.seen c.loop-at.regions) blocks)
    (take_all c.loop-at.at-index c.args.places.now
    (omega (arith, c.loop-at-test.false)))
    (c.loop-at.invariant.stands files start first blocks stands dead)

pub returns-clause-cause : goal.returns-clause-cause
returns-clause-cause g c = same-cause _ _ c.loop-at.invariant.counts
