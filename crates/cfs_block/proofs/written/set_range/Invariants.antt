use Rattle.cfs_block.proofs.Bits.{Setting}
use Rattle.cfs_block.proofs.written.set_range.Given as goal

abbrev pub invariant-loop-i : goal.invariant-loop-i
invariant-loop-i l = Setting l.from l.to l.initial.written.items l.written.items l.i
