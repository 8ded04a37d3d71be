use Rattle.std.proofs.Common.{◌≡◌, not, filter, take}
use Rattle.std.specs.Str.{bytes_eq}
use Rattle.cfs_io.proofs.mem_folder.without.Given as goal

abbrev pub invariant-loop-file : goal.invariant-loop-file
invariant-loop-file l = l.new.items ≡ filter (λ file. not (bytes_eq file.0 l.name)) (take l.file-index l.files)
