use Rattle.std.proofs.Common.{◌≡◌, ◌+◌, ◌≤◌, length, take}
use Rattle.cfs_extent.specs.Runs.{next_start, numbers_of}
use Rattle.cfs_extent.proofs.seat.seek.Given as goal

abbrev pub invariant-loop-index : goal.invariant-loop-index
invariant-loop-index l =
    (l.before ≡ length (numbers_of (take l.index l.runs)))
    × (next_start 0 (take l.index l.runs) ≤ l.block + 1)
