use Rattle.std.proofs.Common.{ℕ, ◌+◌, ◌++◌, ◌∷◌, ◌∙◌, List, map, drop}
use Rattle.std.proofs.Common.{get_or, refl, sym, subst, arith}
use Rattle.std.proofs.lemmas.List.{drop_all, length-map}
use Rattle.std.proofs.lemmas.Result.{err_from_is_err_and}
use Rattle.cfs_pmem.specs.AllMoments.{AreDistinct}
use Rattle.cfs_pmem.proofs.AllMomentLemmas.{all_after}
use Rattle.cfs_slot.specs.Payload.{HaveCause}
use Rattle.cfs_recover.proofs.BlockCalls.{same-cause}
use Rattle.cfs_recover.proofs.Swept.{stands-moments}
use Rattle.cfs_replay.specs.declared.pending.Pending.{Pending}
use Rattle.cfs_replay.specs.Entries.{HaveLeft}
use Rattle.cfs_replay.specs.Pieces.{tags_in}
use Rattle.cfs_replay.proofs.Replays.{all-left, can-still, failed-at, first-left, left-behind}
use Rattle.cfs_replay.proofs.Replays.{none-replayed, slots-still, words-still}
use Rattle.cfs_replay.proofs.entries.replay_entries.Goals as goal

pub loop-pending-init : goal.loop-pending-init
loop-pending-init g c = record {
  moments = λ files start first stands order.
      stands-moments files start first (map g.R.Region.seen c.args.regions.now)
      (map g.B.Block.seen c.args.blocks.now) _ stands;
  left = λ files start first stands order.
      subst (λ (es : List Pending). HaveLeft files start first es
      (map g.R.Region.seen c.args.regions.now) (map g.B.Block.seen c.args.blocks.now))
      (all-left c.args.entries.now)
      (none-replayed files start first c.args.entries.now (map g.R.Region.seen c.args.regions.now)
      (map g.B.Block.seen c.args.blocks.now) stands order);
  lengths = refl;
  tags = refl;
  can = c.requires.entries;
  devices = refl;
  size = c.requires.buffer;
  numbers = refl;
  counts = refl;
}

pub replay_entry-requires-clause-node : goal.replay_entry-requires-clause-node
replay_entry-requires-clause-node g c =
    (c.loop-pending.invariant.can c.loop-pending.pending-index
    (record { node = 0; ino = 0; slot = 0 }) c.loop-pending-test.true).node

pub replay_entry-requires-clause-ino : goal.replay_entry-requires-clause-ino
replay_entry-requires-clause-ino g c =
    (c.loop-pending.invariant.can c.loop-pending.pending-index
    (record { node = 0; ino = 0; slot = 0 }) c.loop-pending-test.true).ino

pub replay_entry-requires-clause-slot : goal.replay_entry-requires-clause-slot
replay_entry-requires-clause-slot g c =
    (c.loop-pending.invariant.can c.loop-pending.pending-index
    (record { node = 0; ino = 0; slot = 0 }) c.loop-pending-test.true).slot

pub replay_entry-requires-clause-whole : goal.replay_entry-requires-clause-whole
replay_entry-requires-clause-whole g c =
    (c.loop-pending.invariant.can c.loop-pending.pending-index
    (record { node = 0; ino = 0; slot = 0 }) c.loop-pending-test.true).whole

pub replay_entry-requires-clause-finds : goal.replay_entry-requires-clause-finds
replay_entry-requires-clause-finds g c =
    (c.loop-pending.invariant.can c.loop-pending.pending-index
    (record { node = 0; ino = 0; slot = 0 }) c.loop-pending-test.true).finds

pub replay_entry-requires-clause-queue : goal.replay_entry-requires-clause-queue
replay_entry-requires-clause-queue g c =
    let room = (c.loop-pending.invariant.can c.loop-pending.pending-index
    (record { node = 0; ino = 0; slot = 0 }) c.loop-pending-test.true).queue in
    omega (arith, room, length-map c.loop-pending.regions g.R.Region.seen)

pub replay_entry-requires-clause-slots : goal.replay_entry-requires-clause-slots
replay_entry-requires-clause-slots g c =
    slots-still (map g.R.Region.seen c.args.regions.now)
    (map g.R.Region.seen c.loop-pending.regions) c.loop-pending.invariant.lengths c.requires.slots

pub replay_entry-requires-clause-words : goal.replay_entry-requires-clause-words
replay_entry-requires-clause-words g c =
    words-still (map g.R.Region.seen c.args.regions.now)
    (map g.R.Region.seen c.loop-pending.regions) c.loop-pending.invariant.lengths c.requires.words

pub replay_entry-requires-clause-distinct : goal.replay_entry-requires-clause-distinct
replay_entry-requires-clause-distinct g c =
    subst AreDistinct (sym c.loop-pending.invariant.devices) c.requires.distinct

pub returns-in_err-replay_entry-clause-moments : goal.returns-in_err-replay_entry-clause-moments
returns-in_err-replay_entry-clause-moments g c = λ files start first stands order.
    let i : ℕ = c.loop-pending.pending-index in
    let es : List Pending = c.args.entries.now in
    let e : Pending = get_or es i (record { node = 0; ino = 0; slot = 0 }) in
    let left : HaveLeft files start first (e ∷ drop (i + 1) es)
    (map g.R.Region.seen c.loop-pending.regions) (map g.B.Block.seen c.loop-pending.blocks) =
    subst (λ (rest : List Pending). HaveLeft files start first rest
    (map g.R.Region.seen c.loop-pending.regions) (map g.B.Block.seen c.loop-pending.blocks))
    (first-left es i (record { node = 0; ino = 0; slot = 0 }) c.loop-pending-test.true)
    (c.loop-pending.invariant.left files start first stands order) in
    all_after (c.loop-pending.invariant.moments files start first stands order)
    (c.replay_entry.ensures.home.moments files start left.now left.stands left.order.0)

pub returns-in_err-replay_entry-clause-lengths : goal.returns-in_err-replay_entry-clause-lengths
returns-in_err-replay_entry-clause-lengths g c =
    c.replay_entry.ensures.home.lengths ∙ c.loop-pending.invariant.lengths

pub returns-in_err-replay_entry-clause-devices : goal.returns-in_err-replay_entry-clause-devices
returns-in_err-replay_entry-clause-devices g c =
    c.replay_entry.ensures.home.devices ∙ c.loop-pending.invariant.devices

pub returns-in_err-replay_entry-clause-cause : goal.returns-in_err-replay_entry-clause-cause
returns-in_err-replay_entry-clause-cause g c =
    let failed = err_from_is_err_and c.from_residual.result c.from_residual.ensures.1 in
    subst (λ (ns : List ℕ). HaveCause ns
    (map g.R.Region.faults c.replay_entry.new.regions
    ++ map g.B.Block.faults c.replay_entry.new.blocks) c.from_residual.result)
    c.loop-pending.invariant.counts
    (failed-at (map g.R.Region.faults c.loop-pending.regions
    ++ map g.B.Block.faults c.loop-pending.blocks)
    (map g.R.Region.faults c.replay_entry.new.regions
    ++ map g.B.Block.faults c.replay_entry.new.blocks) failed.0 failed.1
    c.in_err-replay_entry.ensures.cause.later c.in_err-replay_entry.ensures.cause.failed)

pub loop-pending-preserved : goal.loop-pending-preserved
loop-pending-preserved g c = record {
  moments = λ files start first stands order.
      let i : ℕ = c.loop-pending.pending-index in
      let es : List Pending = c.args.entries.now in
      let e : Pending = get_or es i (record { node = 0; ino = 0; slot = 0 }) in
      let left : HaveLeft files start first (e ∷ drop (i + 1) es)
      (map g.R.Region.seen c.loop-pending.regions) (map g.B.Block.seen c.loop-pending.blocks) =
      subst (λ (rest : List Pending). HaveLeft files start first rest
      (map g.R.Region.seen c.loop-pending.regions) (map g.B.Block.seen c.loop-pending.blocks))
      (first-left es i (record { node = 0; ino = 0; slot = 0 }) c.loop-pending-test.true)
      (c.loop-pending.invariant.left files start first stands order) in
      all_after (c.loop-pending.invariant.moments files start first stands order)
      (c.replay_entry.ensures.home.moments files start left.now left.stands left.order.0);
  left = λ files start first stands order.
      let i : ℕ = c.loop-pending.pending-index in
      let es : List Pending = c.args.entries.now in
      let e : Pending = get_or es i (record { node = 0; ino = 0; slot = 0 }) in
      let left : HaveLeft files start first (e ∷ drop (i + 1) es)
      (map g.R.Region.seen c.loop-pending.regions) (map g.B.Block.seen c.loop-pending.blocks) =
      subst (λ (rest : List Pending). HaveLeft files start first rest
      (map g.R.Region.seen c.loop-pending.regions) (map g.B.Block.seen c.loop-pending.blocks))
      (first-left es i (record { node = 0; ino = 0; slot = 0 }) c.loop-pending-test.true)
      (c.loop-pending.invariant.left files start first stands order) in
      left-behind files start first e (drop (i + 1) es) (map g.R.Region.seen c.loop-pending.regions)
      (map g.R.Region.seen c.replay_entry.new.regions) (map g.B.Block.seen c.loop-pending.blocks)
      (map g.B.Block.seen c.replay_entry.new.blocks) left
      (c.in_ok-replay_entry.ensures.home.stands files start left.now left.stands left.order.0);
  lengths = c.replay_entry.ensures.home.lengths ∙ c.loop-pending.invariant.lengths;
  tags = c.in_ok-replay_entry.ensures.home.tags ∙ c.loop-pending.invariant.tags;
  can = λ k d less.
      can-still c.args.found.now (tags_in (map g.B.Block.seen c.loop-pending.blocks))
      (tags_in (map g.B.Block.seen c.replay_entry.new.blocks))
      (map g.R.Region.seen c.loop-pending.regions) (map g.R.Region.seen c.replay_entry.new.regions)
      _
      (get_or c.args.entries.now k d) c.in_ok-replay_entry.ensures.home.slots
      c.replay_entry.ensures.home.lengths c.in_ok-replay_entry.ensures.home.tags
      (c.loop-pending.invariant.can k d less);
  devices = c.replay_entry.ensures.home.devices ∙ c.loop-pending.invariant.devices;
  size = c.replay_entry.ensures.buffer;
  numbers = c.replay_entry.ensures.numbers ∙ c.loop-pending.invariant.numbers;
  counts = c.in_ok-replay_entry.ensures.cause.passed ∙ c.loop-pending.invariant.counts;
}

pub returns-clause-replayed : goal.returns-clause-replayed
returns-clause-replayed g c = λ files start first stands order.
    subst (λ (es : List Pending). HaveLeft files start first es
    (map g.R.Region.seen c.loop-pending.regions) (map g.B.Block.seen c.loop-pending.blocks))
    (drop_all c.loop-pending.pending-index c.args.entries.now
    (omega (arith, c.loop-pending-test.false)))
    (c.loop-pending.invariant.left files start first stands order)

pub returns-clause-cause : goal.returns-clause-cause
returns-clause-cause g c = same-cause _ _ c.loop-pending.invariant.counts
