use Rattle.std.proofs.Common.{◌≡◌, drop, take}
use Rattle.std.specs.Vec.Iter.{into_iter_items}
use Rattle.cfs_slot.specs.Regions.{of_slots}
use Rattle.cfs_mount.proofs.queues.next_queue.Given as goal

abbrev pub invariant-loop : goal.invariant-loop
invariant-loop l = record {
  left : into_iter_items l.slots ≡ drop l.counter (into_iter_items l.initial.slots);
  made : of_slots l.queue ≡ take l.counter (into_iter_items l.initial.slots);
}
