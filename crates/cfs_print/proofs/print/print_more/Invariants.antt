use Rattle.std.proofs.Common.{◌≡◌, ◌++◌, take}
use Rattle.std.specs.String.{string_bytes}
use Rattle.cfs_print.specs.Text.{more_places, pieces_text}
use Rattle.cfs_print.proofs.print.print_more.Given as goal

abbrev pub invariant-places : goal.invariant-places
invariant-places l = string_bytes l.text ≡ string_bytes l.initial.text ++ pieces_text (more_places (take l.place-index l.places))
