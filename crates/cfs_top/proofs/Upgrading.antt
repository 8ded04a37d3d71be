-- Which check of an upgrade is the first that fails.
use Rattle.std.proofs.Common.{◌≡◌, ◌∙◌, ℕ, List, None, ap, subst, sym}
use Rattle.std.specs.Prelude.{IfErr, Result, Err}
use Rattle.cfs_fsck.specs.Images.{image_checks}
use Rattle.cfs_fsck.specs.Refusals.{NamesFault}
use Rattle.cfs_image.specs.declared.refusal.ImageRefusal.{ImageRefusal}
use Rattle.cfs_image.specs.declared.refusal.ImageRefusal.TheVariants as refusals
use Rattle.cfs_image.specs.declared.version.Version.TheVariants.{First}
use Rattle.cfs_image.specs.Checks.{Check, checks_of, damage_of}
use Rattle.cfs_move.specs.Refusals.{IsOldSound, NamesOldDamage}
use Rattle.cfs_move.specs.Upgraded.{upgraded}
use Rattle.cfs_survey.proofs.FirstFaults.{before_others, behind_sound}
use Rattle.cfs_top.specs.Outside.{Names, upgrade_checks}

-- a refusal that an answer has is named by it
pub named_with : {T : Type 0} (r : Result T ImageRefusal) (checks : List Check)
    (y refusal : ImageRefusal) → r ≡ Err y → y ≡ refusal → Names checks refusal →
    IfErr r (Names checks)
named_with r checks y refusal is same named =
    subst (λ x. IfErr x (Names checks)) (sym is) (subst (Names checks) (sym same) named)

-- one of the old image's
pub old_fault : (bytes : List ℕ) (refusal : ImageRefusal) → NamesOldDamage bytes refusal →
    Names (upgrade_checks bytes) refusal
unfolding upgrade_checks
old_fault bytes (refusals.Damaged offset found against) named =
    before_others (checks_of First bytes) (image_checks (upgraded bytes))
    (record { offset = offset; found = found; against = against }) named
old_fault bytes refusals.NoMemory named = tt

-- one of the new image's, behind an old one that is sound
pub new_fault : (bytes image : List ℕ) (refusal : ImageRefusal) → image ≡ upgraded bytes →
    IsOldSound bytes → NamesFault image refusal → Names (upgrade_checks bytes) refusal
unfolding upgrade_checks
new_fault bytes image (refusals.Damaged offset found against) same sound named =
    behind_sound (checks_of First bytes) (image_checks (upgraded bytes)) sound
    ∙ ap (λ (i : List ℕ). damage_of (image_checks i)) (sym same) ∙ named
new_fault bytes image refusals.NoMemory same sound named = tt

-- none
pub upgrade_sound : (bytes image : List ℕ) → image ≡ upgraded bytes → IsOldSound bytes →
    damage_of (image_checks image) ≡ None → damage_of (upgrade_checks bytes) ≡ None
unfolding upgrade_checks
upgrade_sound bytes image same sound none =
    behind_sound (checks_of First bytes) (image_checks (upgraded bytes)) sound
    ∙ ap (λ (i : List ℕ). damage_of (image_checks i)) (sym same) ∙ none
