use Rattle.std.proofs.Common.{◌≡◌, ◌*◌, ◌≤◌, ◌^◌, take}
use Rattle.cfs_slot.specs.Regions.{of_parts, slot_numbers}
use Rattle.cfs_slot.specs.Tails.{set_of}
use Rattle.cfs_slot.proofs.slots.set_of_tails.Given as goal

abbrev pub invariant-loop-at : goal.invariant-loop-at
invariant-loop-at g l = record {
  value : l.set ≡ set_of (take l.at (slot_numbers g.R.Region.seen (of_parts l.tails)));
  few : l.set ≤ 2 ^ 15 * l.at;
}
