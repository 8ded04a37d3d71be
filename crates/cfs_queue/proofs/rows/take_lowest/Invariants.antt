use Rattle.std.proofs.Common.{◌≡◌, length}
use Rattle.cfs_slot.specs.Regions.{of_slots}
use Rattle.cfs_queue.specs.Rows.{seen_all}
use Rattle.cfs_queue.specs.Taking.{TakesMany}
use Rattle.cfs_queue.proofs.rows.take_lowest.Given as goal

abbrev pub invariant-loop : goal.invariant-loop
invariant-loop g l = record {
  taken : TakesMany (seen_all l.initial.rows.items) (of_slots l.slots) (seen_all l.rows.items);
  count : length (of_slots l.slots) ≡ l.counter;
}
