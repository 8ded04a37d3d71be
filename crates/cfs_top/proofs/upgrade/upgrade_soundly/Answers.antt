use Rattle.std.proofs.Common.{◌∙◌}
use Rattle.std.proofs.lemmas.Result.{err_from_is_err_and}
use Rattle.cfs_top.specs.Outside.{upgrade_checks}
use Rattle.cfs_top.proofs.Upgrading.{named_with, new_fault, old_fault, upgrade_sound}
use Rattle.cfs_top.proofs.upgrade.upgrade_soundly.Goals as goal

pub returns-in_err-image-clause-named : goal.returns-in_err-image-clause-named
returns-in_err-image-clause-named c =
    let r = c.from_residual in
    let p = err_from_is_err_and r.result r.ensures.1 in
    named_with r.result (upgrade_checks c.args.bytes.now) p.0 c.in_err-image.field-0.0 p.1 p.2
    (old_fault c.args.bytes.now c.in_err-image.field-0.0 c.in_err-image.ensures.err)

pub returns-in_err-check_image-clause-named : goal.returns-in_err-check_image-clause-named
returns-in_err-check_image-clause-named c =
    let r = c.from_residual-in_err-check_image in
    let p = err_from_is_err_and r.result r.ensures.1 in
    named_with r.result (upgrade_checks c.args.bytes.now) p.0 c.in_err-check_image.field-0.0 p.1
    p.2
    (new_fault c.args.bytes.now c.as_slice.result.now c.in_err-check_image.field-0.0
    (c.as_slice.ensures ∙ c.in_ok-image.ensures.upgraded) c.in_ok-image.ensures.old_sound
    c.in_err-check_image.ensures.err)

pub returns-clause-sound : goal.returns-clause-sound
returns-clause-sound c =
    upgrade_sound c.args.bytes.now c.as_slice.result.now
    (c.as_slice.ensures ∙ c.in_ok-image.ensures.upgraded) c.in_ok-image.ensures.old_sound
    c.in_ok-check_image.ensures.sound
