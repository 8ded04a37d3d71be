use Rattle.std.proofs.Common.{arith}
use Rattle.cfs_fsck.proofs.KindLemmas.{kinds_more}
use Rattle.cfs_fsck.proofs.kinds.kinds_of.Goals as goal

pub loop-node-preserved : goal.loop-node-preserved
loop-node-preserved c =
    kinds_more c.args.nodes.now c.loop-node.node-index _ c.loop-node.kinds c.note_kind.new.kinds
    (omega arith) c.node-item.is c.in_ok-note_kind.ensures c.loop-node.invariant
