-- What a reading that takes memory answers.
use Rattle.std.specs.Prelude.{◌≡◌, List, Some}
use Rattle.cfs_image.specs.Checks.{Check, damage_of}
use Rattle.cfs_survey.specs.declared.refusal.SurveyRefusal.{SurveyRefusal}
use Rattle.cfs_survey.specs.declared.refusal.SurveyRefusal.TheVariants.{Damaged, NoMemory}
use Rattle.cfs_survey.specs.Faults.{damage_in}

-- the refusal names the damage of the first check that fails, unless memory lacked
abbrev pub Refuses : List Check → SurveyRefusal → Type 0
Refuses checks (Damaged fault) = damage_of checks ≡ Some (damage_in fault)
Refuses checks NoMemory = Unit {0}
