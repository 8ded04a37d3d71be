use Rattle.std.proofs.Common.{ℕ, ◌∙◌, ◌++◌, List, length, map, ap, sym, subst}
use Rattle.std.proofs.lemmas.List.{length-map}
use Rattle.std.proofs.lemmas.Result.{err_from_is_err_and}
use Rattle.cfs_pmem.proofs.AllMomentLemmas.{all_after}
use Rattle.cfs_pmem.specs.Objects.{all_devices}
use Rattle.cfs_slot.specs.Payload.{HaveCause}
use Rattle.cfs_recover.specs.Brought.{with_blocks}
use Rattle.cfs_recover.specs.Held.{AllLieWithin}
use Rattle.cfs_recover.proofs.BlockCalls.{on-ok}
use Rattle.cfs_recover.proofs.Brought.{bytes-brought}
use Rattle.cfs_recover.proofs.Lists.{cause-front, distinct-back, distinct-blocks}
use Rattle.cfs_recover.proofs.Lists.{distinct-front, failed-back, full-all, within-all}
use Rattle.cfs_recover.proofs.home.bring_home.Goals as goal

pub bring_bytes-requires-clause-distinct : goal.bring_bytes-requires-clause-distinct
bring_bytes-requires-clause-distinct g c =
    distinct-back (all_devices (map g.R.Region.seen c.args.regions.now))
    (all_devices (map g.B.Block.seen c.args.blocks.now)) c.requires.distinct

pub settle-requires-clause-distinct : goal.settle-requires-clause-distinct
settle-requires-clause-distinct g c =
    distinct-front (all_devices (map g.R.Region.seen c.args.regions.now))
    (all_devices (map g.B.Block.seen c.args.blocks.now)) c.requires.distinct

pub returns-in_err-bring_bytes-clause-moments : goal.returns-in_err-bring_bytes-clause-moments
returns-in_err-bring_bytes-clause-moments g c = λ files file live rest start first takes.
    c.bring_bytes.ensures.moments files file c.args.entry.slot live rest start first
    (map g.R.Region.seen c.args.regions.now) takes.begins takes.cut.touch

pub returns-in_err-bring_bytes-clause-devices : goal.returns-in_err-bring_bytes-clause-devices
returns-in_err-bring_bytes-clause-devices g c =
    ap (λ (ns : List (List ℕ)). all_devices (map g.R.Region.seen c.args.regions.now) ++ ns)
    c.bring_bytes.ensures.devices

pub returns-in_err-bring_bytes-clause-cause : goal.returns-in_err-bring_bytes-clause-cause
returns-in_err-bring_bytes-clause-cause g c =
    let failed = err_from_is_err_and c.from_residual.result c.from_residual.ensures.1 in
    failed-back (map g.R.Region.faults c.args.regions.now)
    (map g.B.Block.faults c.args.blocks.now) (map g.B.Block.faults c.bring_bytes.new.blocks)
    failed.0 failed.1 c.in_err-bring_bytes.ensures.cause.later
    c.in_err-bring_bytes.ensures.cause.failed

pub returns-clause-moments : goal.returns-clause-moments
returns-clause-moments g c = λ files file live rest start first takes.
    let moments = c.bring_bytes.ensures.moments files file c.args.entry.slot live rest start first
    (map g.R.Region.seen c.args.regions.now) takes.begins takes.cut.touch in
    all_after moments
    (c.settle.ensures.moments files file live rest start
    (with_blocks (map g.B.Block.seen c.bring_bytes.new.blocks) first)
    (map g.B.Block.seen c.bring_bytes.new.blocks)
    (bytes-brought files file c.args.entry live rest start first
    (map g.R.Region.seen c.args.regions.now) (map g.B.Block.seen c.args.blocks.now)
    (map g.B.Block.seen c.bring_bytes.new.blocks) c.args.pieces.now c.args.bytes.now _ _ takes
    (full-all g.B.Block.seen c.args.blocks.now g.met.B.Block.full)
    (subst (λ (n : ℕ). AllLieWithin n (length c.args.bytes.now) c.args.pieces.now)
    (sym (length-map c.args.blocks.now g.B.Block.seen))
    (within-all (length c.args.blocks.now) (length c.args.bytes.now) c.args.pieces.now
    c.requires.within))
    c.in_ok-bring_bytes.ensures.ok
    (distinct-blocks (map g.R.Region.seen c.args.regions.now)
    (map g.B.Block.seen c.args.blocks.now) (map g.B.Block.seen c.bring_bytes.new.blocks)
    c.bring_bytes.ensures.devices c.requires.distinct)
    moments))

pub returns-clause-stands : goal.returns-clause-stands
returns-clause-stands g c =
    on-ok c.settle.result
    (λ stands. λ files file live rest start first takes.
    stands files file live rest start
    (with_blocks (map g.B.Block.seen c.bring_bytes.new.blocks) first)
    (map g.B.Block.seen c.bring_bytes.new.blocks)
    (bytes-brought files file c.args.entry live rest start first
    (map g.R.Region.seen c.args.regions.now) (map g.B.Block.seen c.args.blocks.now)
    (map g.B.Block.seen c.bring_bytes.new.blocks) c.args.pieces.now c.args.bytes.now _ _ takes
    (full-all g.B.Block.seen c.args.blocks.now g.met.B.Block.full)
    (subst (λ (n : ℕ). AllLieWithin n (length c.args.bytes.now) c.args.pieces.now)
    (sym (length-map c.args.blocks.now g.B.Block.seen))
    (within-all (length c.args.blocks.now) (length c.args.bytes.now) c.args.pieces.now
    c.requires.within))
    c.in_ok-bring_bytes.ensures.ok
    (distinct-blocks (map g.R.Region.seen c.args.regions.now)
    (map g.B.Block.seen c.args.blocks.now) (map g.B.Block.seen c.bring_bytes.new.blocks)
    c.bring_bytes.ensures.devices c.requires.distinct)
    (c.bring_bytes.ensures.moments files file c.args.entry.slot live rest start first
    (map g.R.Region.seen c.args.regions.now) takes.begins takes.cut.touch)))
    c.settle.ensures.stands

pub returns-clause-devices : goal.returns-clause-devices
returns-clause-devices g c =
    ap (λ (ns : List (List ℕ)). ns ++ all_devices (map g.B.Block.seen c.bring_bytes.new.blocks))
    c.settle.ensures.devices
    ∙ ap (λ (ns : List (List ℕ)). all_devices (map g.R.Region.seen c.args.regions.now) ++ ns)
    c.bring_bytes.ensures.devices

pub returns-clause-cause : goal.returns-clause-cause
returns-clause-cause g c =
    subst (λ (ns : List ℕ). HaveCause
    (map g.R.Region.faults c.args.regions.now ++ ns)
    (map g.R.Region.faults c.settle.new.regions
    ++ map g.B.Block.faults c.bring_bytes.new.blocks) c.settle.result)
    c.in_ok-bring_bytes.ensures.cause.passed
    (cause-front (map g.R.Region.faults c.args.regions.now)
    (map g.R.Region.faults c.settle.new.regions)
    (map g.B.Block.faults c.bring_bytes.new.blocks) c.settle.result c.settle.ensures.cause)
