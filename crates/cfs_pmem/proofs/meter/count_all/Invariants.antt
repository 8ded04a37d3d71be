use Rattle.std.proofs.Common.{◌≡◌, ◌++◌, map, take, drop}
use Rattle.cfs_pmem.specs.Meter.{counted}
use Rattle.cfs_pmem.proofs.meter.count_all.Given as goal

abbrev pub invariant-loop-plan : goal.invariant-loop-plan
invariant-loop-plan l =
    l.plan-items ≡ map (counted l.device l.writing) (take l.plan-index l.initial.plan-items) ++ drop l.plan-index l.initial.plan-items
