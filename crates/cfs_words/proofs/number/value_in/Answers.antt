use Rattle.std.proofs.Common.{◌+◌, arith}
use Rattle.std.proofs.lemmas.Str.Parse.{digits_value-take-le}
use Rattle.std.proofs.lemmas.Bool.Decides.{nat_tests}
use Rattle.cfs_words.proofs.Numbers.{digits_value-next}
use Rattle.cfs_words.proofs.number.value_in.Goals as goal

pub returns-then-value-gt-LARGEST_NUMBER : goal.returns-then-value-gt-LARGEST_NUMBER
returns-then-value-gt-LARGEST_NUMBER c =
    let next = digits_value-next c.args.digits.now c.loop-digit.digit-index c.requires c.loop-digit-test.true in
    let whole = digits_value-take-le 10 c.args.digits.now (c.loop-digit.digit-index + 1) (omega arith) in
    grind (arith, nat_tests)

pub loop-digit-preserved : goal.loop-digit-preserved
loop-digit-preserved c =
    let next = digits_value-next c.args.digits.now c.loop-digit.digit-index c.requires c.loop-digit-test.true in
    record { small = omega arith; value = omega arith }
