use Rattle.std.proofs.Common.{◌≡◌, List, get_or}
use Rattle.std.specs.Prelude.{filter}
use Rattle.std.specs.List.{range_with_len}
use Rattle.cfs_home.specs.Disks.{File}
use Rattle.cfs_plan.specs.Files.{IsRecordMap}
use Rattle.cfs_plan.specs.Lists.{is_stray}
use Rattle.cfs_plan.proofs.untagged.stray_blocks.Given as goal

abbrev pub invariant-loop-at : goal.invariant-loop-at
invariant-loop-at l =
    (files : List File) → IsRecordMap files l.records →
    l.stray.items ≡ filter (λ at. is_stray files (get_or l.tags at 0)) (range_with_len 0 l.at)
