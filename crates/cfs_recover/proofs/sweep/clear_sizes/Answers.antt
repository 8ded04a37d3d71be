use Rattle.std.proofs.Common.{ℕ, ◌+◌, ◌∙◌, List, map, take, get_or, refl, sym, ap, subst, arith}
use Rattle.std.proofs.lemmas.List.{length-map, take_all}
use Rattle.cfs_pmem.proofs.AllMomentLemmas.{all_after}
use Rattle.cfs_home.specs.Disks.{Disk}
use Rattle.cfs_recover.specs.Begins.{Stands}
use Rattle.cfs_recover.specs.Swept.{all_empty, with_no_sizes}
use Rattle.cfs_recover.specs.Words.{HaveFirstWords}
use Rattle.cfs_recover.proofs.BlockCalls.{same-cause}
use Rattle.cfs_recover.proofs.Lists.{take-none}
use Rattle.cfs_recover.proofs.Settled.{first-words}
use Rattle.cfs_recover.proofs.Swept.{empty-one-more, none-moments, none-stands, sizes-one-more}
use Rattle.cfs_recover.proofs.Swept.{stands-moments}
use Rattle.cfs_recover.proofs.sweep.clear_sizes.Goals as goal

pub set_size-requires-clause-within : goal.set_size-requires-clause-within
set_size-requires-clause-within g c =
    c.loop-node.invariant.words (67 + get_or c.args.nodes.now c.loop-node.node-index 0)
    (omega (
      arith,
      c.requires.nodes c.loop-node.node-index c.loop-node-test.true,
      c.requires.place,
      length-map c.loop-node.regions g.R.Region.seen,
    ))

pub loop-node-init : goal.loop-node-init
loop-node-init g c = record {
  so_far = sym (ap (λ (xs : List ℕ). with_no_sizes xs (map g.R.Region.seen c.args.regions.now))
      (take-none c.args.nodes.now));
  words = c.requires.words;
  moments = λ files start first blocks stands none.
      stands-moments files start first (map g.R.Region.seen c.args.regions.now) blocks _ stands;
  stands = λ files start first blocks stands none.
      subst (λ (xs : List ℕ). Stands files start (all_empty xs first)
      (map g.R.Region.seen c.args.regions.now) blocks)
      (sym (take-none c.args.nodes.now)) stands;
  lengths = refl;
  devices = refl;
  counts = refl;
}

pub returns-in_err-set_size-clause-moments : goal.returns-in_err-set_size-clause-moments
returns-in_err-set_size-clause-moments g c = λ files start first blocks stands none.
    let nodes = c.args.nodes.now in
    let i = c.loop-node.node-index in
    all_after (c.loop-node.invariant.moments files start first blocks stands none)
    (none-moments files start (all_empty (take i nodes) first)
    (map g.R.Region.seen c.loop-node.regions) blocks
    (c.loop-node.invariant.stands files start first blocks stands none) (get_or nodes i 0)
    (map g.R.Region.seen c.set_size.new.regions) _ _ (none i c.loop-node-test.true)
    (c.requires.nodes i c.loop-node-test.true)
    (omega (
      arith,
      c.requires.nodes i c.loop-node-test.true,
      c.requires.place,
      length-map c.loop-node.regions g.R.Region.seen,
    ))
    c.loop-node.invariant.words c.set_size.ensures.moments)

pub loop-node-preserved : goal.loop-node-preserved
loop-node-preserved g c = record {
  so_far = sizes-one-more c.args.nodes.now c.loop-node.node-index _ _ _ c.loop-node-test.true
      c.loop-node.invariant.so_far c.in_ok-set_size.ensures.ok;
  words = subst HaveFirstWords (sym c.in_ok-set_size.ensures.ok)
      (first-words (67 + get_or c.args.nodes.now c.loop-node.node-index 0) 0
      (map g.R.Region.seen c.loop-node.regions) c.loop-node.invariant.words);
  moments = λ files start first blocks stands none.
      let nodes = c.args.nodes.now in
      let i = c.loop-node.node-index in
      all_after (c.loop-node.invariant.moments files start first blocks stands none)
      (none-moments files start (all_empty (take i nodes) first)
      (map g.R.Region.seen c.loop-node.regions) blocks
      (c.loop-node.invariant.stands files start first blocks stands none) (get_or nodes i 0)
      (map g.R.Region.seen c.set_size.new.regions) _ _ (none i c.loop-node-test.true)
      (c.requires.nodes i c.loop-node-test.true)
      (omega (
        arith,
        c.requires.nodes i c.loop-node-test.true,
        c.requires.place,
        length-map c.loop-node.regions g.R.Region.seen,
      ))
      c.loop-node.invariant.words c.set_size.ensures.moments);
  stands = λ files start first blocks stands none.
      let nodes = c.args.nodes.now in
      let i = c.loop-node.node-index in
      subst (λ (disk : Disk). Stands files start disk
      (map g.R.Region.seen c.set_size.new.regions) blocks)
      (empty-one-more nodes i first c.loop-node-test.true)
      (none-stands files start (all_empty (take i nodes) first)
      (map g.R.Region.seen c.loop-node.regions) blocks
      (c.loop-node.invariant.stands files start first blocks stands none) (get_or nodes i 0)
      (map g.R.Region.seen c.set_size.new.regions) (none i c.loop-node-test.true)
      c.in_ok-set_size.ensures.ok (c.requires.nodes i c.loop-node-test.true)
      (omega (
        arith,
        c.requires.nodes i c.loop-node-test.true,
        c.requires.place,
        length-map c.loop-node.regions g.R.Region.seen,
      ))
      c.loop-node.invariant.words c.set_size.ensures.devices);
  lengths = c.set_size.ensures.lengths ∙ c.loop-node.invariant.lengths;
  devices = c.set_size.ensures.devices ∙ c.loop-node.invariant.devices;
  counts = c.in_ok-set_size.ensures.cause.passed ∙ c.loop-node.invariant.counts;
}

pub returns-clause-stands : goal.returns-clause-stands
returns-clause-stands g c = λ files start first blocks stands none.
    subst (λ (xs : List ℕ). Stands files start (all_empty xs first)
    (map g.R.Region.seen c.loop-node.regions) blocks)
    (take_all c.loop-node.node-index c.args.nodes.now
    (omega (arith, c.loop-node-test.false)))
    (c.loop-node.invariant.stands files start first blocks stands none)

pub returns-clause-cause : goal.returns-clause-cause
returns-clause-cause g c = same-cause _ _ c.loop-node.invariant.counts
