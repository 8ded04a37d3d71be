use Rattle.std.proofs.Common.{◌≡◌}
use Rattle.cfs_lock.specs.Passes.{IsOutside, IsPassOf}
use Rattle.cfs_fake.proofs.adding.add_all.Given as goal

abbrev pub invariant-loop-made : goal.invariant-loop-made
invariant-loop-made g l = IsPassOf l.lock l.pass × IsOutside l.pass × (l.pass.number ≡ l.initial.pass.number)
