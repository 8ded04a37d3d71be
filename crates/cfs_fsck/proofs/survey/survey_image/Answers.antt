use Rattle.std.proofs.Common.{◌≡◌, ◌∙◌, ap, subst, sym}
use Rattle.std.specs.Prelude.{None}
use Rattle.std.proofs.lemmas.Result.{err_from_is_err_and}
use Rattle.cfs_image.specs.Checks.{damage_of}
use Rattle.cfs_survey.specs.Refusals.{Refuses}
use Rattle.cfs_survey.specs.Surveys.{Words, recovered_tree, survey_checks}
use Rattle.cfs_fsck.specs.Refusals.{NamesFault}
use Rattle.cfs_fsck.proofs.Faults.{header_refused, image_sound, words_fault}
use Rattle.cfs_fsck.proofs.survey.survey_image.Goals as goal

pub returns-in_err-size-clause-err : goal.returns-in_err-size-clause-err
returns-in_err-size-clause-err c =
    let p = err_from_is_err_and c.from_residual.result c.from_residual.ensures.1 in
    header_refused c.from_residual.result c.args.bytes.now p.0 _ p.1 p.2 c.in_err-size.ensures.named

pub returns-in-Err-clause-err : goal.returns-in-Err-clause-err
returns-in-Err-clause-err c =
    subst (NamesFault c.args.bytes.now) (sym c.refusal_of.ensures)
    (words_fault c.args.bytes.now c.in-Err.refusal c.in_ok-size.ensures.sound
    (subst (λ words. Refuses (survey_checks words) c.in-Err.refusal) c.in_ok-words.ensures.words
    c.in-Err.ensures.named))

pub returns-in-Ok-clause-sound : goal.returns-in-Ok-clause-sound
returns-in-Ok-clause-sound c =
    image_sound c.args.bytes.now c.in_ok-size.ensures.sound
    (subst (λ words. damage_of (survey_checks words) ≡ None) c.in_ok-words.ensures.words
    c.in-Ok.ensures.sound)

pub returns-in-Ok-clause-tree : goal.returns-in-Ok-clause-tree
returns-in-Ok-clause-tree c =
    c.in-Ok.ensures.tree
    ∙ ap (λ (words : Words). recovered_tree words) c.in_ok-words.ensures.words
