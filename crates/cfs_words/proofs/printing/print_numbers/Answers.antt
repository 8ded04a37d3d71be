use Rattle.cfs_words.proofs.Prints.{numbers_more}
use Rattle.cfs_words.proofs.printing.print_numbers.Goals as goal

pub numbers-preserved : goal.numbers-preserved
numbers-preserved c = numbers_more _ _ _ c.args.numbers.now c.numbers.number-index c.numbers-test.true c.numbers.invariant c.in_ok-print_number.ensures
