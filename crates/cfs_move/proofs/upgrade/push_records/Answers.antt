use Rattle.std.proofs.Common.{arith}
use Rattle.cfs_move.proofs.Writings.{record_more, records_none}
use Rattle.cfs_move.proofs.upgrade.push_records.Goals as goal

pub loop-position-init : goal.loop-position-init
loop-position-init c = records_none c.args.old.now c.args.image.now.items

pub loop-position-preserved : goal.loop-position-preserved
loop-position-preserved c =
    record_more _ _ _ _ _ _ _ _ c.loop-position.invariant c.in_ok-extend_from_slice.ensures.items
    (omega arith) c.old_record_at-from.ensures
    c.in_ok-extend_from_slice-2.ensures.items
