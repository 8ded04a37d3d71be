use Rattle.std.proofs.Common.{ℕ, map, take}
use Rattle.std.specs.Fmt.{decimal}
use Rattle.cfs_words.specs.Printing.{Adds}
use Rattle.cfs_words.proofs.printing.print_numbers.Given as goal

abbrev pub invariant-numbers : goal.invariant-numbers
invariant-numbers l = Adds l.initial.text.items l.text.items (map (λ n. decimal n) (take l.number-index l.numbers))
