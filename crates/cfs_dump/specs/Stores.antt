-- The store that an image holds of a file, in the image's own words and bytes.
use Rattle.std.specs.Prelude.{ℕ, ◌+◌, ◌*◌, List, map, take, drop}
use Rattle.std.specs.List.{range_with_len}
use Rattle.cfs_block.specs.BlockImages.{Content}
use Rattle.cfs_fsck.specs.Images.{rows_at}
use Rattle.cfs_image.specs.Image.{word_at}
use Rattle.cfs_image.specs.Layout.{block_at, size_at, slot_at, slot_words}
use Rattle.cfs_medium.specs.Store.{Store}

-- the words of every slot; word 3 of the header has the number of queues
unfoldable pub slots_in : List ℕ → List (List ℕ)
slots_in bytes = rows_at bytes slot_at slot_words (16 * word_at bytes 24)

-- a block whose tag begins at an offset
abbrev pub content_at : List ℕ → ℕ → Content
content_at bytes at = record { tag = word_at bytes at; bytes = take 4096 (drop (at + 8) bytes) }

abbrev pub content_in : List ℕ → ℕ → Content
content_in bytes block = content_at bytes (block_at (word_at bytes 24) block)

-- the content of every block; word 2 of the header has their number
unfoldable pub blocks_in : List ℕ → List Content
blocks_in bytes = map (content_in bytes) (range_with_len 0 (word_at bytes 16))

-- these, and the size word of a record
abbrev pub store_in : List ℕ → ℕ → Store
store_in bytes number = record {
  size = word_at bytes (size_at number);
  slots = slots_in bytes;
  blocks = blocks_in bytes;
}
