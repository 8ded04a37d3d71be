use Rattle.std.proofs.Common.{◌+◌, ◌/◌, ◌≤◌, ◌≡◌, ◌++◌, Bool, List, length}
use Rattle.cfs_pmem.specs.declared.trace.Asked.{Asked}
use Rattle.cfs_vec.specs.Items.{items_of}
use Rattle.cfs_slot.specs.Regions.{of_parts}
use Rattle.cfs_long.specs.After.{from_last}
use Rattle.cfs_long.specs.Chain.{StagesTails}
use Rattle.cfs_long.proofs.chain.stage_tails.Given as goal

-- what is staged of the bytes that are left, from here on, is staged of all of them
abbrev pub invariant-loop-slot : goal.invariant-loop-slot
invariant-loop-slot g l = record {
  so_far : (whole : Bool) (last : List Asked) (news : List g.row.R.Denot)
      → StagesTails g.R.Region.seen g.R.Region.faults g.R.Region.obeys_power l.fn.ino l.fn.grant l.left whole (g.P.Power.asked l.power) (from_last l.slots) last news
      → StagesTails g.R.Region.seen g.R.Region.faults g.R.Region.obeys_power l.fn.ino l.fn.grant l.fn.bytes whole (g.P.Power.asked l.initial.power) (from_last l.fn.slots)
      last (of_parts l.parts ++ news);
  count : length (items_of l.slots) ≡ (length l.left + 4095) / 4096;
  room : length (items_of l.parts) + length (items_of l.slots) ≤ 15;
}

abbrev pub decreases-loop-slot : goal.decreases-loop-slot
decreases-loop-slot g l = length (items_of l.slots)
