use Rattle.std.proofs.Common.{◌≡◌, length}
use Rattle.cfs_vec.specs.Items.{items_of}
use Rattle.cfs_slot.specs.Regions.{devices_in, of_slots}
use Rattle.cfs_queue.specs.Queue.{devices_from, first_of}
use Rattle.cfs_parts_tests.proofs.queue.queue.Given as goal

abbrev pub invariant-loop-at : goal.invariant-loop-at
invariant-loop-at l = record {
  devices : devices_in (λ r. r.seen) (of_slots l.slots) ≡ devices_from l.at (first_of l.number);
  count : length (items_of l.slots) ≡ l.at;
}
