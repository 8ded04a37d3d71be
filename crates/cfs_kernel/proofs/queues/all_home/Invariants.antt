use Rattle.std.proofs.Common.{◌≡◌, map}
use Rattle.std.specs.Prelude.{Some}
use Rattle.cfs_kernel.proofs.queues.all_home.Given as goal

abbrev pub invariant-loop-queue : goal.invariant-loop-queue
invariant-loop-queue g l = l.home.items ≡ map (λ queue. Some queue) l.yielded
