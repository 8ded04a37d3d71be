-- The files of a store, as its devices hold them now.
use Rattle.std.specs.Prelude.{List}
use Rattle.cfs_pmem.specs.Images.{Seen, WordStep}
use Rattle.cfs_block.specs.BlockImages.{BlockStep}
use Rattle.cfs_home.specs.Disks.{File}
use Rattle.cfs_plan.specs.Files.{files_of}
use Rattle.cfs_store_words.specs.Held.{words_held}
use Rattle.cfs_survey.specs.Surveys.{recovered_tree}

-- those of the tree that the table and the journal tell
abbrev pub files_held : List (Seen WordStep) → List (Seen BlockStep) → List File
files_held regions blocks = files_of (recovered_tree (words_held regions blocks)).nodes
