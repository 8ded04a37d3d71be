use Rattle.std.proofs.Common.{◌≡◌, drop}
use Rattle.cfs_file.specs.Log.{file_of}
use Rattle.cfs_file.proofs.file.file_after.Given as goal

abbrev pub invariant-loop-entry : goal.invariant-loop-entry
invariant-loop-entry l = file_of l.file (drop l.entry-index l.entries) ≡ file_of l.base l.entries
