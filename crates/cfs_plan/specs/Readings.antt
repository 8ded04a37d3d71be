-- What a survey told of a store's words, and the devices that read these words.
use Rattle.std.specs.Prelude.{ℕ, ◌+◌, ◌*◌, ◌<◌, ◌≤◌, ◌≡◌, List, length, map, take, get_or}
use Rattle.std.specs.List.{Contains}
use Rattle.cfs_pmem.specs.Images.{Seen, WordStep}
use Rattle.cfs_block.specs.BlockImages.{BlockStep}
use Rattle.cfs_dir.specs.Tree.{IsTree}
use Rattle.cfs_home.specs.Disks.{Disk, File, part_of}
use Rattle.cfs_home.specs.Parts.{SomeTouches}
use Rattle.cfs_journal.specs.Standing.{changes_above}
use Rattle.cfs_replay.specs.Pieces.{tags_in}
use Rattle.cfs_replay.specs.Reading.{slots_in, words_at}
use Rattle.cfs_survey.specs.declared.survey.Survey.{Survey}
use Rattle.cfs_survey.specs.Live.{in_order, live_entries}
use Rattle.cfs_survey.specs.Mapped.{IsBlockMap}
use Rattle.cfs_survey.specs.SoFar.{found_tree}
use Rattle.cfs_survey.specs.Surveys.{Words, recovered_tree, through_of}
use Rattle.cfs_plan.specs.Files.{files_of}

-- the files that it tells
abbrev pub files_in : Survey → List File
files_in survey = files_of survey.tree.nodes.items

-- the survey told all this of the words
pub record IsSurveyOf (words : Words) (survey : Survey) : Type 0 where
  pub tree : found_tree survey.tree ≡ recovered_tree words
  pub stands : IsTree survey.tree.nodes.items survey.tree.next
  pub changes : survey.tree.changes.items
      ≡ changes_above (through_of words.selector) words.journal
  pub blocks : IsBlockMap survey.tree.nodes.items words.tags (length words.tags) survey.blocks
  pub entries : survey.entries.items
      ≡ in_order (live_entries survey.tree.nodes.items words.slots)

-- The devices have whole queues of slots. They read these sizes and tags, and of each slot these
-- words before its payload.
pub record AreReadOf (words : Words) (regions : List (Seen WordStep))
    (blocks : List (Seen BlockStep)) : Type 0 where
  pub queues : ℕ
  pub many : length regions ≡ 323 + 16 * queues
  pub sizes : (node : ℕ) → node < 256 →
      get_or (words_at regions (67 + node)) 0 0 ≡ get_or words.sizes node 0
  pub slots : map (take 6) (slots_in regions) ≡ words.slots
  pub tags : tags_in blocks ≡ words.tags

-- Behind the stored end of each file every byte is 0 that no live entry of it touches.
abbrev pub HasNothingPast : List File → Disk → Type 0
HasNothingPast files disk =
    (file : File) (position : ℕ) → Contains files file → disk.sizes file.node ≤ position →
    (SomeTouches (part_of file disk).entries position → ⊥) →
    (part_of file disk).byte position ≡ 0
