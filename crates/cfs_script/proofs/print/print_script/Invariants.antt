use Rattle.std.proofs.Common.{◌≡◌, take}
use Rattle.cfs_script.specs.Printing.{lines_text}
use Rattle.cfs_script.proofs.print.print_script.Given as goal

abbrev pub invariant-lines : goal.invariant-lines
invariant-lines l = l.text.items ≡ lines_text (take l.line-index l.line-items)
