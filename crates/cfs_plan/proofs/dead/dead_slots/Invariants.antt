use Rattle.std.proofs.Common.{◌≡◌, List, [], get_or}
use Rattle.std.specs.Prelude.{filter}
use Rattle.std.specs.List.{range_with_len}
use Rattle.cfs_home.specs.Disks.{File}
use Rattle.cfs_plan.specs.Files.{IsRecordMap}
use Rattle.cfs_plan.specs.Lists.{is_dead}
use Rattle.cfs_plan.proofs.dead.dead_slots.Given as goal

abbrev pub invariant-loop-at : goal.invariant-loop-at
invariant-loop-at l =
    (files : List File) → IsRecordMap files l.records →
    l.dead.items ≡ filter (λ at. is_dead files (get_or l.slots at [])) (range_with_len 0 l.at)
