use Rattle.std.proofs.Common.{◌≡◌, length, map}
use Rattle.std.specs.Prelude.{Some}
use Rattle.cfs_kernel.specs.Queues.{AreWhole}
use Rattle.cfs_fresh.proofs.state.queues_to.Given as goal

abbrev pub invariant-loop-number : goal.invariant-loop-number
invariant-loop-number l = record {
  count : length l.queues.items ≡ l.number;
  whole : AreWhole (map (λ queue. Some queue) l.queues.items);
}
