use Rattle.std.proofs.Common.{◌+◌, ◌≤◌, ◌≡◌, ◌∷◌, ◌++◌, length, map, reverse}
use Rattle.cfs_vec.specs.Items.{items_of}
use Rattle.cfs_slot.specs.Regions.{of_part, of_parts}
use Rattle.cfs_slot.proofs.slots.all_regions.Given as goal

abbrev pub invariant-loop-part : goal.invariant-loop-part
invariant-loop-part g l = record {
  moved : items_of l.regions ++ map (λ p. of_part p) (reverse (items_of l.tails)) ≡ l.fn.head ∷ of_parts l.fn.tails;
  room : length (items_of l.regions) + length (items_of l.tails) ≤ 16;
}

abbrev pub decreases-loop-part : goal.decreases-loop-part
decreases-loop-part g l = length (items_of l.tails)
