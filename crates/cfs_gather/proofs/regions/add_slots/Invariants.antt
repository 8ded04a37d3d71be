use Rattle.std.proofs.Common.{◌≡◌, ◌++◌, length, map, reverse}
use Rattle.cfs_slot.specs.Regions.{of_slot, of_slots}
use Rattle.cfs_vec.specs.Items.{items_of}
use Rattle.cfs_gather.proofs.regions.add_slots.Given as goal

abbrev pub invariant-loop-slot : goal.invariant-loop-slot
invariant-loop-slot g l =
    map g.R.Region.seen l.regions.items
    ++ map (λ slot. g.R.Region.seen (of_slot slot)) (reverse (items_of l.slots)) ≡
    map g.R.Region.seen l.fn.regions.items ++ map g.R.Region.seen (of_slots l.fn.slots)

abbrev pub decreases-loop-slot : goal.decreases-loop-slot
decreases-loop-slot g l = length (items_of l.slots)
