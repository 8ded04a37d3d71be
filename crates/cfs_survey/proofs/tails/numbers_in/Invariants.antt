use Rattle.std.proofs.Common.{◌≡◌, ◌≤◌, ◌-◌, ◌++◌, length}
use Rattle.cfs_slot.specs.Tails.{numbers_from}
use Rattle.cfs_survey.proofs.tails.numbers_in.Given as goal

abbrev pub invariant-loop-number : goal.invariant-loop-number
invariant-loop-number l = record {
  parts : numbers_from 16 0 l.set ≡ l.numbers.items ++ numbers_from (16 - l.number) l.number l.rest;
  few : length l.numbers.items ≤ l.number;
}
