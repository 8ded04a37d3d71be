use Rattle.cfs_block.proofs.Bits.{Clearing}
use Rattle.cfs_block.proofs.written.clear.Given as goal

abbrev pub invariant-loop-i : goal.invariant-loop-i
invariant-loop-i l = Clearing l.fn.dirty.to l.initial.written.items l.written.items l.i
