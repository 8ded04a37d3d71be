use Rattle.std.proofs.Common.{◌+◌, ◌≤◌, ◌≡◌, ◌++◌, length, map, reverse}
use Rattle.cfs_vec.specs.Items.{items_of}
use Rattle.cfs_slot.specs.Regions.{of_part, of_parts, of_slots}
use Rattle.cfs_long.proofs.lists.with_parts.Given as goal

abbrev pub invariant-loop-part : goal.invariant-loop-part
invariant-loop-part g l = record {
  moved : of_slots l.slots ++ map (λ p. of_part p) (reverse (items_of l.parts)) ≡ of_slots l.fn.slots ++ of_parts l.fn.parts;
  room : length (items_of l.slots) + length (items_of l.parts) ≤ 16;
}

abbrev pub decreases-loop-part : goal.decreases-loop-part
decreases-loop-part g l = length (items_of l.parts)
