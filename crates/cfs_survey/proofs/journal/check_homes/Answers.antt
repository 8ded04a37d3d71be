use Rattle.std.proofs.Common.{◌∙◌, Some, sym, ap, arith}
use Rattle.std.proofs.lemmas.Result.{err_from_is_err_and}
use Rattle.cfs_survey.specs.Faults.{damage_in, reported}
use Rattle.cfs_survey.specs.Journals.{home_checks}
use Rattle.cfs_survey.proofs.FirstFaults.{fails_at, none_yet, sound_more}
use Rattle.cfs_survey.proofs.journal.check_homes.Goals as goal

pub returns-in_err-check_home : goal.returns-in_err-check_home
returns-in_err-check_home c =
    let p = err_from_is_err_and c.from_residual.result c.from_residual.ensures.1 in
    let each = home_checks c.args.at c.args.journal.now in
    let f = fails_at each 0 c.loop-position.position 64 c.loop-position.position
    (damage_in c.in_err-check_home.field-0.0) (omega arith) (omega arith)
    c.loop-position.invariant (sym c.in_err-check_home.ensures) in
    ap reported p.1 ∙ ap (λ e. Some (damage_in e)) p.2 ∙ sym f

pub loop-position-init : goal.loop-position-init
loop-position-init c = none_yet (home_checks c.args.at c.args.journal.now) 0

pub loop-position-preserved : goal.loop-position-preserved
loop-position-preserved c =
    sound_more (home_checks c.args.at c.args.journal.now) 0 c.loop-position.position
    c.loop-position.position (omega arith) c.loop-position.invariant
    (sym c.in_ok-check_home.ensures)
