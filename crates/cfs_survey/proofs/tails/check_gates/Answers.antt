use Rattle.std.proofs.Common.{◌∙◌, Some, sym, ap, arith}
use Rattle.std.specs.List.{flat_map}
use Rattle.std.proofs.lemmas.List.{take_all}
use Rattle.std.proofs.lemmas.Result.{err_from_is_err_and}
use Rattle.cfs_image.specs.Checks.{damage_of}
use Rattle.cfs_survey.specs.Faults.{damage_in, reported}
use Rattle.cfs_survey.specs.Slots.{tail_checks}
use Rattle.cfs_survey.proofs.FirstFaults.{fails_taken, sound_taken}
use Rattle.cfs_survey.proofs.tails.check_gates.Goals as goal

pub returns-in_err-check_tail : goal.returns-in_err-check_tail
returns-in_err-check_tail c =
    let each = tail_checks c.args.at c.args.slots.now c.args.from in
    let p = err_from_is_err_and c.from_residual.result c.from_residual.ensures.1 in
    let f = fails_taken each c.args.numbers.now c.loop-number.number-index 0
    (damage_in c.in_err-check_tail.field-0.0) c.loop-number-test.true c.loop-number.invariant
    (sym c.in_err-check_tail.ensures) in
    ap reported p.1 ∙ ap (λ e. Some (damage_in e)) p.2 ∙ sym f

pub loop-number-preserved : goal.loop-number-preserved
loop-number-preserved c =
    let each = tail_checks c.args.at c.args.slots.now c.args.from in
    sound_taken each c.args.numbers.now c.loop-number.number-index 0 c.loop-number-test.true
    c.loop-number.invariant (sym c.in_ok-check_tail.ensures)

pub returns : goal.returns
returns c =
    let each = tail_checks c.args.at c.args.slots.now c.args.from in
    let all = take_all c.loop-number.number-index c.args.numbers.now (omega arith) in
    sym (ap (λ xs. damage_of (flat_map each xs)) (sym all) ∙ c.loop-number.invariant)
