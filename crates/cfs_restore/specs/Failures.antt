-- Why a store was not brought home, and what was done to its devices then.
use Rattle.std.specs.Prelude.{ℕ, ◌≡◌, List, Some}
use Rattle.cfs_block.specs.Devices.{Devices}
use Rattle.cfs_image.specs.Checks.{Check, damage_of}
use Rattle.cfs_slot.specs.Payload.{SomeRose}
use Rattle.cfs_store_words.specs.declared.survey_failed.SurveyFailed.{SurveyFailed}
use Rattle.cfs_store_words.specs.declared.survey_failed.SurveyFailed.TheVariants as surveys
use Rattle.cfs_survey.specs.Faults.{damage_in}
use Rattle.cfs_restore.specs.declared.restore_failed.RestoreFailed.{RestoreFailed}
use Rattle.cfs_restore.specs.declared.restore_failed.RestoreFailed.TheVariants.{Failed, Damaged}
use Rattle.cfs_restore.specs.declared.restore_failed.RestoreFailed.TheVariants.{NoMemory}

abbrev pub of_survey : SurveyFailed → RestoreFailed
of_survey (surveys.Failed fault) = Failed fault
of_survey (surveys.Damaged fault) = Damaged fault
of_survey surveys.NoMemory = NoMemory

-- one count of faults rose where a device failed, and all are as before where the words are damaged
-- or memory lacked
abbrev pub RestoreCaused : List ℕ → List ℕ → RestoreFailed → Type 0
RestoreCaused befores nows (Failed fault) = SomeRose befores nows
RestoreCaused befores nows (Damaged fault) = nows ≡ befores
RestoreCaused befores nows NoMemory = nows ≡ befores

-- where the words are damaged, the damage of the first check that fails is named
abbrev pub NamesDamage : List Check → RestoreFailed → Type 0
NamesDamage checks (Failed fault) = Unit {0}
NamesDamage checks (Damaged fault) = damage_of checks ≡ Some (damage_in fault)
NamesDamage checks NoMemory = Unit {0}

-- where the words are damaged or memory lacked, nothing was written
abbrev pub LeavesUnlessFailed : Devices → Devices → RestoreFailed → Type 0
LeavesUnlessFailed old new (Failed fault) = Unit {0}
LeavesUnlessFailed old new (Damaged fault) = new ≡ old
LeavesUnlessFailed old new NoMemory = new ≡ old
