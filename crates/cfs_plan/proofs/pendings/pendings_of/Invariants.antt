use Rattle.std.proofs.Common.{◌≡◌, List, take}
use Rattle.cfs_home.specs.Disks.{File}
use Rattle.cfs_plan.specs.Files.{IsRecordMap}
use Rattle.cfs_plan.specs.Pendings.{pendings}
use Rattle.cfs_plan.proofs.pendings.pendings_of.Given as goal

abbrev pub invariant-loop-entry : goal.invariant-loop-entry
invariant-loop-entry l =
    (files : List File) → IsRecordMap files l.records →
    l.pendings.items ≡ pendings files (take l.entry-index l.entries)
