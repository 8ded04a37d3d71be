-- Which check of an image is the first that fails.
use Rattle.std.proofs.Common.{◌≡◌, ◌∙◌, ℕ, List, sym, subst}
use Rattle.std.specs.Prelude.{IfErr, None, Result, Err}
use Rattle.cfs_image.specs.declared.refusal.ImageRefusal.{ImageRefusal}
use Rattle.cfs_image.specs.declared.refusal.ImageRefusal.TheVariants as images
use Rattle.cfs_image.specs.declared.version.Version.TheVariants.{Present}
use Rattle.cfs_image.specs.Checks.{IsSound, NamesFirst, checks_of, damage_of}
use Rattle.cfs_survey.specs.declared.refusal.SurveyRefusal.{SurveyRefusal}
use Rattle.cfs_survey.specs.declared.refusal.SurveyRefusal.TheVariants as surveys
use Rattle.cfs_survey.specs.Refusals.{Refuses}
use Rattle.cfs_survey.specs.Surveys.{survey_checks}
use Rattle.cfs_survey.proofs.FirstFaults.{before_others, behind_sound}
use Rattle.cfs_fsck.specs.Images.{image_checks, image_words}
use Rattle.cfs_fsck.specs.Refusals.{NamesFault, refusal_as}

-- one of the header's
header_fault : (bytes : List ℕ) (refusal : ImageRefusal) → NamesFirst Present bytes refusal →
    NamesFault bytes refusal
unfolding image_checks
header_fault bytes (images.Damaged offset found against) named =
    before_others (checks_of Present bytes) (survey_checks (image_words bytes))
    (record { offset = offset; found = found; against = against }) named
header_fault bytes images.NoMemory named = absurd named

pub header_refused : {T : Type 0} (r : Result T ImageRefusal) (bytes : List ℕ)
    (y refusal : ImageRefusal) → r ≡ Err y → y ≡ refusal → NamesFirst Present bytes refusal →
    IfErr r (NamesFault bytes)
header_refused r bytes y refusal is same named =
    subst (λ x. IfErr x (NamesFault bytes)) (sym is)
    (subst (NamesFault bytes) (sym same) (header_fault bytes refusal named))

-- one of the words', behind a header that is sound
pub words_fault : (bytes : List ℕ) (refusal : SurveyRefusal) → IsSound bytes →
    Refuses (survey_checks (image_words bytes)) refusal → NamesFault bytes (refusal_as refusal)
unfolding image_checks
words_fault bytes (surveys.Damaged fault) sound named =
    behind_sound (checks_of Present bytes) (survey_checks (image_words bytes)) sound ∙ named
words_fault bytes surveys.NoMemory sound named = sound

-- none
pub image_sound : (bytes : List ℕ) → IsSound bytes →
    damage_of (survey_checks (image_words bytes)) ≡ None → damage_of (image_checks bytes) ≡ None
unfolding image_checks
image_sound bytes sound none =
    behind_sound (checks_of Present bytes) (survey_checks (image_words bytes)) sound ∙ none
