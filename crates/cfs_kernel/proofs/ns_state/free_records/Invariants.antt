use Rattle.cfs_kernel.proofs.Begun.{AreFound}
use Rattle.cfs_kernel.proofs.ns_state.free_records.Given as goal

abbrev pub invariant-loop-rec : goal.invariant-loop-rec
invariant-loop-rec l = AreFound l.tree.nodes l.free l.rec
