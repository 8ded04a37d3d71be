use Rattle.cfs_lock.specs.Passes.{IsOutside, IsPassOf}
use Rattle.cfs_lock_bench.proofs.turns.turns.Given as goal

abbrev pub invariant-loop : goal.invariant-loop
invariant-loop g l = IsPassOf l.lock l.pass × IsOutside l.pass
