use Rattle.std.proofs.Common.{◌≡◌, drop}
use Rattle.cfs_granted.specs.Rows.{first_number}
use Rattle.cfs_granted.proofs.rows.first_number.Given as goal

abbrev pub invariant-loop-row : goal.invariant-loop-row
invariant-loop-row l =
    first_number l.rows ≡ first_number (drop l.row-index l.rows)
