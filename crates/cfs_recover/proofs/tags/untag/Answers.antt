use Rattle.std.proofs.Common.{ℕ, ◌∙◌, List, map, take, get_or, refl, sym, ap, subst, arith}
use Rattle.std.proofs.lemmas.List.{length-map, take_all}
use Rattle.cfs_pmem.proofs.AllMomentLemmas.{all_after}
use Rattle.cfs_home.specs.Disks.{Disk}
use Rattle.cfs_recover.specs.Begins.{Stands}
use Rattle.cfs_recover.specs.Untagged.{all_untagged, with_untagged}
use Rattle.cfs_recover.proofs.BlockCalls.{same-cause}
use Rattle.cfs_recover.proofs.Lists.{full-all, take-none}
use Rattle.cfs_recover.proofs.Swept.{stands-moments}
use Rattle.cfs_recover.proofs.Untagged.{none-still, untag-moments, untag-one-more, untag-stands}
use Rattle.cfs_recover.proofs.Untagged.{untagged-one-more}
use Rattle.cfs_recover.proofs.tags.untag.Goals as goal

pub loop-at-init : goal.loop-at-init
loop-at-init g c = record {
  so_far = sym (ap (λ (xs : List ℕ). with_untagged xs (map g.B.Block.seen c.args.blocks.now))
      (take-none c.args.places.now));
  moments = λ files start first regions stands none.
      stands-moments files start first regions (map g.B.Block.seen c.args.blocks.now) _ stands;
  stands = λ files start first regions stands none.
      subst (λ (xs : List ℕ). Stands files start (all_untagged xs first) regions
      (map g.B.Block.seen c.args.blocks.now))
      (sym (take-none c.args.places.now)) stands;
  devices = refl;
  numbers = refl;
  counts = refl;
}

pub returns-in_err-untag_block-clause-moments : goal.returns-in_err-untag_block-clause-moments
returns-in_err-untag_block-clause-moments g c = λ files start first regions stands none.
    let places = c.args.places.now in
    let i = c.loop-at.at-index in
    all_after (c.loop-at.invariant.moments files start first regions stands none)
    (untag-moments files start (all_untagged (take i places) first) regions
    (map g.B.Block.seen c.loop-at.blocks)
    (c.loop-at.invariant.stands files start first regions stands none) (get_or places i 0)
    (map g.B.Block.seen c.untag_block.new.blocks) _ _
    (none-still files (take i places) first (get_or places i 0) (none i c.loop-at-test.true))
    c.untag_block.ensures.moments)

pub loop-at-preserved : goal.loop-at-preserved
loop-at-preserved g c = record {
  so_far = untag-one-more c.args.places.now c.loop-at.at-index _ _ _ c.loop-at-test.true
      c.loop-at.invariant.so_far c.in_ok-untag_block.ensures.ok;
  moments = λ files start first regions stands none.
      let places = c.args.places.now in
      let i = c.loop-at.at-index in
      all_after (c.loop-at.invariant.moments files start first regions stands none)
      (untag-moments files start (all_untagged (take i places) first) regions
      (map g.B.Block.seen c.loop-at.blocks)
      (c.loop-at.invariant.stands files start first regions stands none) (get_or places i 0)
      (map g.B.Block.seen c.untag_block.new.blocks) _ _
      (none-still files (take i places) first (get_or places i 0) (none i c.loop-at-test.true))
      c.untag_block.ensures.moments);
  stands = λ files start first regions stands none.
      let places = c.args.places.now in
      let i = c.loop-at.at-index in
      subst (λ (disk : Disk). Stands files start disk regions
      (map g.B.Block.seen c.untag_block.new.blocks))
      (untagged-one-more places i first c.loop-at-test.true)
      (untag-stands files start (all_untagged (take i places) first) regions
      (map g.B.Block.seen c.loop-at.blocks)
      (c.loop-at.invariant.stands files start first regions stands none) (get_or places i 0)
      (map g.B.Block.seen c.untag_block.new.blocks)
      (none-still files (take i places) first (get_or places i 0) (none i c.loop-at-test.true))
      c.in_ok-untag_block.ensures.ok
      (full-all g.B.Block.seen c.loop-at.blocks g.met.B.Block.full)
      (omega (
        arith,
        c.requires.within i c.loop-at-test.true,
        length-map c.loop-at.blocks g.B.Block.seen,
      ))
      c.untag_block.ensures.devices);
  devices = c.untag_block.ensures.devices ∙ c.loop-at.invariant.devices;
  numbers = c.untag_block.ensures.numbers ∙ c.loop-at.invariant.numbers;
  counts = c.in_ok-untag_block.ensures.cause.passed ∙ c.loop-at.invariant.counts;
}

pub returns-clause-stands : goal.returns-clause-stands
returns-clause-stands g c = λ files start first regions stands none.
    subst (λ (xs : List ℕ). Stands files start (all_untagged xs first) regions
    (map g.B.Block.seen c.loop-at.blocks))
    (take_all c.loop-at.at-index c.args.places.now
    (omega (arith, c.loop-at-test.false)))
    (c.loop-at.invariant.stands files start first regions stands none)

pub returns-clause-cause : goal.returns-clause-cause
returns-clause-cause g c = same-cause _ _ c.loop-at.invariant.counts
