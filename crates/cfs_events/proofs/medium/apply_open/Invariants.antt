use Rattle.std.proofs.Common.{◌≡◌, drop}
use Rattle.cfs_file.specs.Log.{file_of}
use Rattle.cfs_core.specs.Medium.{open_entries}
use Rattle.cfs_events.proofs.medium.apply_open.Given as goal

abbrev pub invariant-loop-entry : goal.invariant-loop-entry
invariant-loop-entry l =
    file_of l.file (open_entries l.tracks l.image (drop l.entry-index l.log))
    ≡ file_of l.initial.file (open_entries l.tracks l.image l.log)
