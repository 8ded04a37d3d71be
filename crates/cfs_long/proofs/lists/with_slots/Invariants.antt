use Rattle.std.proofs.Common.{◌+◌, ◌≤◌, ◌≡◌, ◌++◌, length, map, reverse}
use Rattle.cfs_vec.specs.Items.{items_of}
use Rattle.cfs_slot.specs.Regions.{of_slot, of_slots}
use Rattle.cfs_long.proofs.lists.with_slots.Given as goal

abbrev pub invariant-loop-slot : goal.invariant-loop-slot
invariant-loop-slot g l = record {
  moved : of_slots l.slots ++ map (λ s. of_slot s) (reverse (items_of l.others)) ≡ of_slots l.fn.slots ++ map (λ s. of_slot s) (reverse (items_of l.fn.others));
  room : length (items_of l.slots) + length (items_of l.others) ≤ 16;
}

abbrev pub decreases-loop-slot : goal.decreases-loop-slot
decreases-loop-slot g l = length (items_of l.others)
