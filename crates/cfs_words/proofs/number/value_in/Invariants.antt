use Rattle.std.proofs.Common.{◌≡◌, ◌≤◌, take}
use Rattle.std.specs.Str.Parse.{digits_value}
use Rattle.cfs_words.specs.declared.number.TheConstants.{LARGEST_NUMBER}
use Rattle.cfs_words.proofs.number.value_in.Given as goal

abbrev pub invariant-loop-digit : goal.invariant-loop-digit
invariant-loop-digit l = record {
  small : l.value ≤ LARGEST_NUMBER;
  value : l.value ≡ digits_value 10 (take l.digit-index l.digits);
}
