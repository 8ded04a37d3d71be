use Rattle.std.proofs.Common.{take}
use Rattle.cfs_fsck.specs.Files.{AreKinds}
use Rattle.cfs_fsck.proofs.kinds.kinds_of.Given as goal

abbrev pub invariant-loop-node : goal.invariant-loop-node
invariant-loop-node l = AreKinds (take l.node-index l.nodes) l.kinds
