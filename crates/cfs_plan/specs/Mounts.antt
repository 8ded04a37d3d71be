-- What holds of each store whose devices read the words that a plan was made of.
use Rattle.std.specs.Prelude.{List}
use Rattle.cfs_pmem.specs.Images.{Seen, WordStep}
use Rattle.cfs_block.specs.BlockImages.{BlockStep}
use Rattle.cfs_survey.specs.Surveys.{Words}
use Rattle.cfs_plan.specs.Readings.{AreReadOf}

-- P holds of all regions and blocks that read these words
abbrev pub OnDevicesOf : Words → (List (Seen WordStep) → List (Seen BlockStep) → Type 0) → Type 0
OnDevicesOf words P =
    (regions : List (Seen WordStep)) (blocks : List (Seen BlockStep)) →
    AreReadOf words regions blocks → P regions blocks
