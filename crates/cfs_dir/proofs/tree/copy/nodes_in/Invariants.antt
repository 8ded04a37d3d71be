use Rattle.std.proofs.Common.{◌≡◌, take}
use Rattle.cfs_dir.specs.Table.{nodes_of}
use Rattle.cfs_dir.proofs.tree.copy.nodes_in.Given as goal

abbrev pub invariant-loop-rec : goal.invariant-loop-rec
invariant-loop-rec l = l.list.items ≡ nodes_of (take l.rec l.nodes)
