-- What a check of an image counts.
use Rattle.std.specs.Prelude.{ℕ, ◌/◌, ◌==◌, ◌&&◌, not, Bool, List, count_by, length}
use Rattle.cfs_dir.specs.declared.node.Node.{Node}
use Rattle.cfs_slot.specs.Words.{gate_of, ino_of, mark_of}
use Rattle.cfs_survey.specs.Slots.{is_live_entry}
use Rattle.cfs_survey.specs.Surveys.{Words, recovered_tree}
use Rattle.cfs_survey.specs.Tags.{is_file}
use Rattle.cfs_fsck.specs.declared.report.Report.{Report}

-- an open slot with the mark of a no-op, whose inode number is one of these
abbrev pub is_noop : (ℕ → Bool) → List ℕ → Bool
is_noop numbers words =
    not (gate_of words == 0) && ((mark_of words == 1) && numbers (ino_of words))

-- the tag of a block, whose inode number is one of these
abbrev pub is_tag_of : (ℕ → Bool) → ℕ → Bool
is_tag_of numbers tag = numbers (tag / 65536)

-- of a store with these nodes: how many they are, the live entries and the no-ops of files among
-- its slots, and the blocks that are tagged for files
abbrev pub counts_of : List Node → Words → Report
counts_of nodes words = record {
  nodes = length nodes;
  live = count_by (is_live_entry nodes) words.slots;
  noop = count_by (is_noop (is_file nodes)) words.slots;
  blocks = count_by (is_tag_of (is_file nodes)) words.tags;
}

-- the nodes are those of the tree that the words tell
unfoldable pub report_of : Words → Report
report_of words = counts_of (recovered_tree words).nodes words
