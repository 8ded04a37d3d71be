-- The words that regions hold now, one list of each, and the tags of blocks.
use Rattle.std.specs.Prelude.{ℕ, List, take, drop, map, get_or}
use Rattle.cfs_pmem.specs.Images.{Seen, WordStep, words_of}
use Rattle.cfs_pmem.specs.Objects.{seen_at}
use Rattle.cfs_block.specs.BlockImages.{BlockStep, content_of}

-- those of the region at a place
abbrev pub row_at : List (Seen WordStep) → ℕ → List ℕ
row_at regions place = words_of (seen_at regions place)

-- those of so many regions from a place on
abbrev pub rows_from : ℕ → ℕ → List (Seen WordStep) → List (List ℕ)
rows_from first count regions = take count (drop first (map words_of regions))

abbrev pub first_word : List ℕ → ℕ
first_word words = get_or words 0 0

abbrev pub tag_in : Seen BlockStep → ℕ
tag_in block = (content_of block).tag

-- the tag of the block at a place
abbrev pub tag_at : List (Seen BlockStep) → ℕ → ℕ
tag_at blocks place = tag_in (seen_at blocks place)
