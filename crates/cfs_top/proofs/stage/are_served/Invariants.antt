use Rattle.std.proofs.Common.{◌≡◌, drop}
use Rattle.cfs_top.specs.Stage as stage
use Rattle.cfs_top.proofs.stage.are_served.Given as goal

abbrev pub invariant-lines : goal.invariant-lines
invariant-lines l = stage.are_served 0 l.lines ≡ stage.are_served l.before (drop l.before l.lines)
