use Rattle.std.proofs.Common.{◌≡◌, ◌++◌, take}
use Rattle.std.specs.String.{string_bytes}
use Rattle.cfs_print.specs.Text.{entry_pieces, pieces_text}
use Rattle.cfs_print.proofs.print.print_entries.Given as goal

abbrev pub invariant-entries : goal.invariant-entries
invariant-entries l = string_bytes l.text ≡ string_bytes l.initial.text ++ pieces_text (entry_pieces (take l.entry-index l.entries))
