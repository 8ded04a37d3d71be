use Rattle.std.proofs.Common.{◌-◌, ◌+◌, arith}
use Rattle.cfs_slot.specs.Tails.{numbers_from, numbers_in}
use Rattle.cfs_survey.proofs.SlotLemmas.{numbers_done, numbers_more}
use Rattle.cfs_survey.proofs.tails.numbers_in.Goals as goal

pub loop-number-preserved : goal.loop-number-preserved
loop-number-preserved c = record {
  parts = numbers_more (16 - c.loop-number.number) (16 - (c.loop-number.number + 1))
      c.loop-number.number c.loop-number.rest c.loop-number.numbers.items
      c.note_number.new.numbers.items (numbers_from 16 0 c.args.set) (omega arith)
      c.loop-number.invariant.parts c.note_number.ensures.items;
  few = omega arith;
}

pub returns : goal.returns
unfolding numbers_in
returns c =
    numbers_done (16 - c.loop-number.number) c.loop-number.number c.loop-number.rest
    c.loop-number.numbers.items (numbers_from 16 0 c.args.set) (omega arith)
    c.loop-number.invariant.parts
