use Rattle.std.proofs.Common.{◌≡◌, replicate}
use Rattle.cfs_tracker.specs.declared.cell.Cell.TheVariants as kinds
use Rattle.cfs_tracker.proofs.new.holes.Given as goal

abbrev pub invariant-loop-block : goal.invariant-loop-block
invariant-loop-block g l = l.cells.items ≡ replicate l.block kinds.Hole
