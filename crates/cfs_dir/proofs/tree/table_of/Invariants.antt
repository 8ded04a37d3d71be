use Rattle.std.proofs.Common.{take}
use Rattle.cfs_dir.specs.Table.{IsTableOf}
use Rattle.cfs_dir.proofs.tree.table_of.Given as goal

abbrev pub invariant-loop-node : goal.invariant-loop-node
invariant-loop-node l = IsTableOf l.table l.index (take l.node-index l.nodes)
