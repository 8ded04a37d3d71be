use Rattle.std.proofs.Common.{◌≡◌, ◌++◌, take}
use Rattle.cfs_dir.specs.Path.{behind_slashes}
use Rattle.cfs_words.proofs.printing.print_path.Given as goal

abbrev pub invariant-names : goal.invariant-names
invariant-names l = l.text.items ≡ l.initial.text.items ++ behind_slashes (take l.name-index l.names)
