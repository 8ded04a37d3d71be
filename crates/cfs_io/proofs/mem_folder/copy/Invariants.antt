use Rattle.std.proofs.Common.{◌≡◌, take}
use Rattle.cfs_io.proofs.mem_folder.copy.Given as goal

abbrev pub invariant-loop-file : goal.invariant-loop-file
invariant-loop-file l = l.new.items ≡ take l.file-index l.files
