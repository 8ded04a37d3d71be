-- Why a store was not surveyed: what its reading answered, or its survey.
use Rattle.std.specs.Prelude.{ℕ, ◌≡◌, List, Some}
use Rattle.cfs_image.specs.Checks.{Check, damage_of}
use Rattle.cfs_slot.specs.Payload.{SomeRose}
use Rattle.cfs_survey.specs.declared.refusal.SurveyRefusal.{SurveyRefusal}
use Rattle.cfs_survey.specs.declared.refusal.SurveyRefusal.TheVariants as refusals
use Rattle.cfs_survey.specs.Faults.{damage_in}
use Rattle.cfs_store_words.specs.declared.read_failed.ReadFailed.{ReadFailed}
use Rattle.cfs_store_words.specs.declared.read_failed.ReadFailed.TheVariants as reads
use Rattle.cfs_store_words.specs.declared.survey_failed.SurveyFailed.{SurveyFailed}
use Rattle.cfs_store_words.specs.declared.survey_failed.SurveyFailed.TheVariants.{Failed, Damaged}
use Rattle.cfs_store_words.specs.declared.survey_failed.SurveyFailed.TheVariants.{NoMemory}

abbrev pub of_reading : ReadFailed → SurveyFailed
of_reading (reads.Failed fault) = Failed fault
of_reading reads.NoMemory = NoMemory

abbrev pub of_survey : SurveyRefusal → SurveyFailed
of_survey (refusals.Damaged fault) = Damaged fault
of_survey refusals.NoMemory = NoMemory

-- one count of faults rose where a device failed, and all are as before where the words are damaged
-- or memory lacked
abbrev pub SurveyCaused : List ℕ → List ℕ → SurveyFailed → Type 0
SurveyCaused befores nows (Failed fault) = SomeRose befores nows
SurveyCaused befores nows (Damaged fault) = nows ≡ befores
SurveyCaused befores nows NoMemory = nows ≡ befores

-- where the words are damaged, the damage of the first check that fails is named
abbrev pub NamesDamage : List Check → SurveyFailed → Type 0
NamesDamage checks (Failed fault) = Unit {0}
NamesDamage checks (Damaged fault) = damage_of checks ≡ Some (damage_in fault)
NamesDamage checks NoMemory = Unit {0}
