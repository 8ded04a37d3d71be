-- What a check of an image answers.
use Rattle.std.specs.Prelude.{ℕ, ◌≡◌, List, Some}
use Rattle.cfs_image.specs.declared.refusal.ImageRefusal.{ImageRefusal}
use Rattle.cfs_image.specs.declared.refusal.ImageRefusal.TheVariants as images
use Rattle.cfs_image.specs.Checks.{IsSound, damage_of}
use Rattle.cfs_survey.specs.declared.refusal.SurveyRefusal.{SurveyRefusal}
use Rattle.cfs_survey.specs.declared.refusal.SurveyRefusal.TheVariants as surveys
use Rattle.cfs_fsck.specs.Images.{image_checks}

-- the refusal of an image whose words are refused so
abbrev pub refusal_as : SurveyRefusal → ImageRefusal
refusal_as (surveys.Damaged fault) = images.Damaged fault.offset fault.found fault.against
refusal_as surveys.NoMemory = images.NoMemory

-- The refusal names the damage of the first check that fails. Want of memory comes where the length
-- and the header are sound.
abbrev pub NamesFault : List ℕ → ImageRefusal → Type 0
NamesFault bytes (images.Damaged offset found against) =
    damage_of (image_checks bytes)
    ≡ Some record { offset = offset; found = found; against = against }
NamesFault bytes images.NoMemory = IsSound bytes
