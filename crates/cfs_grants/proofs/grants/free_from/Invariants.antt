use Rattle.std.proofs.Common.{◌≡◌, drop}
use Rattle.cfs_grants.specs.Grants.{free_from, free_queue}
use Rattle.cfs_grants.proofs.grants.free_from.Given as goal

abbrev pub invariant-loop-queue : goal.invariant-loop-queue
invariant-loop-queue l = free_queue l.rows ≡ free_from l.queue (drop l.queue l.rows)
