-- The words of a store that a survey looks at, as its devices hold them now.
use Rattle.std.specs.Prelude.{ℕ, ◌+◌, ◌%◌, List, drop, map, take}
use Rattle.cfs_pmem.specs.Images.{Seen, WordStep, words_of}
use Rattle.cfs_block.specs.BlockImages.{BlockStep}
use Rattle.cfs_survey.specs.Surveys.{Words}
use Rattle.cfs_store_words.specs.Rows.{first_word, row_at, rows_from, tag_in}

abbrev pub selector_held : List (Seen WordStep) → ℕ
selector_held regions = first_word (row_at regions 0)

-- of the two tables that which the selector selects, and of each slot the six words before its
-- payload
abbrev pub words_held : List (Seen WordStep) → List (Seen BlockStep) → Words
words_held regions blocks = record {
  selector = selector_held regions;
  table = row_at regions (1 + selector_held regions % 2);
  journal = rows_from 3 64 regions;
  sizes = map first_word (rows_from 67 256 regions);
  slots = map (take 6) (drop 323 (map words_of regions));
  tags = map tag_in blocks;
}
