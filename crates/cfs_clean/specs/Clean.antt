-- Clean stores.
use Rattle.std.specs.Prelude.{◌≡◌, List, None}
use Rattle.cfs_pmem.specs.Images.{Seen, WordStep}
use Rattle.cfs_block.specs.BlockImages.{BlockStep}
use Rattle.cfs_dir.specs.Namespace.{Namespace}
use Rattle.cfs_dir.specs.Tree.{IsTree}
use Rattle.cfs_home.specs.Disks.{Disk}
use Rattle.cfs_image.specs.Checks.{damage_of}
use Rattle.cfs_plan.specs.Files.{files_of}
use Rattle.cfs_plan.specs.Readings.{HasNothingPast}
use Rattle.cfs_replay.specs.Plans.{disk_in}
use Rattle.cfs_store_words.specs.Held.{words_held}
use Rattle.cfs_survey.specs.Surveys.{AreWhole, Words, recovered_tree, survey_checks}

abbrev pub IsTreeOf : Namespace → Type 0
IsTreeOf namespace = IsTree namespace.nodes namespace.next

-- The words of a store pass every check and tell a tree, and behind the stored end of each file
-- every byte is 0 that no live entry of it touches.
pub record IsClean (words : Words) (disk : Disk) : Type 0 where
  pub whole : AreWhole words
  pub sound : damage_of (survey_checks words) ≡ None
  pub tree : IsTreeOf (recovered_tree words)
  pub past : HasNothingPast (files_of (recovered_tree words).nodes) disk

-- so of the words and the bytes that devices hold now
abbrev pub IsCleanStore : List (Seen WordStep) → List (Seen BlockStep) → Type 0
IsCleanStore regions blocks = IsClean (words_held regions blocks) (disk_in regions blocks)
