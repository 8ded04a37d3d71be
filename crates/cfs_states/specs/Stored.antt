-- A store of which nothing is pending: each file's size and blocks stand, and are known. And what
-- each record has there.
use Rattle.std.specs.Prelude.{ℕ, ◌<◌, ◌≤◌, ◌≡◌, ◌≢◌, ◌==◌, ◌^◌, ◌⊎◌, Bool, Option, Some, None, List, []}
use Rattle.std.specs.Prelude.{find, get_or, length, map}
use Rattle.std.specs.List.{All, Contains, filter_map, range_with_len}
use Rattle.std.specs.Option.{option_map}
use Rattle.cfs_file.specs.declared.sizes.TheConstants.{FILE_BLOCKS, LONGEST_FILE}
use Rattle.cfs_pmem.specs.Images.{IsSure, Seen, WordStep, words_of}
use Rattle.cfs_pmem.specs.Objects.{seen_at}
use Rattle.cfs_block.specs.BlockImages.{BlockStep, IsSureBlock, content_of}
use Rattle.cfs_block.specs.declared.mem_block.MemBlock.{MemBlock}
use Rattle.cfs_block.specs.MemoryBlocks.{seen_of}
use Rattle.cfs_medium.specs.Store.{byte_in, stored_file, tag_of}
use Rattle.cfs_home.specs.Disks.{AreFiles, File}
use Rattle.cfs_inode.specs.New.{MappedSeen, stored_state}
use Rattle.cfs_active.specs.View.{ActiveView}

-- ---- one file

-- the block that is tagged for a block of the file
abbrev pub tagged_for : ℕ → List (Seen BlockStep) → ℕ → Option (Seen BlockStep)
tagged_for ino blocks at = find (λ seen. (content_of seen).tag == tag_of ino at) blocks

abbrev pub mapped_at : ℕ → List (Seen BlockStep) → ℕ → Option MappedSeen
mapped_at ino blocks at =
    option_map (λ seen. record { at = at; block = seen }) (tagged_for ino blocks at)

-- all its blocks, ascending by their numbers in it
unfoldable pub mapped_in : ℕ → List (Seen BlockStep) → List MappedSeen
mapped_in ino blocks = filter_map (mapped_at ino blocks) (range_with_len 0 FILE_BLOCKS)

-- the size word of a record
abbrev pub size_word : List (Seen WordStep) → ℕ → ℕ
size_word sizes node = get_or (words_of (seen_at sizes node)) 0 0

-- its bytes
abbrev pub bytes_in : File → List (Seen WordStep) → List (Seen BlockStep) → List ℕ
bytes_in file sizes blocks =
    stored_file file.ino (record {
      size = size_word sizes file.node;
      slots = [];
      blocks = map content_of blocks;
    })

-- ---- the records

abbrev pub file_at : List File → ℕ → Option File
file_at files node = find (λ file. file.node == node) files

-- the state of a stored file: its size region and its blocks, nothing pending, and no job out
abbrev pub loaded_view : List (Seen WordStep) → List (Seen BlockStep) → File → ActiveView
loaded_view sizes blocks file = record {
  state = stored_state file.ino (seen_at sizes file.node) (size_word sizes file.node)
      (mapped_in file.ino blocks);
  jobs = [];
}

-- a record with a file has its state,
abbrev pub state_at : List File → List (Seen WordStep) → List (Seen BlockStep) → ℕ →
    Option ActiveView
state_at files sizes blocks node = option_map (loaded_view sizes blocks) (file_at files node)

-- and one without has its size region
abbrev pub none_or : {A B : Type 0} → B → Option A → Option B
none_or none None = Some none
none_or none (Some it) = None

abbrev pub region_at : List File → List (Seen WordStep) → ℕ → Option (Seen WordStep)
region_at files sizes node = none_or (seen_at sizes node) (file_at files node)

-- no file has the block
abbrev pub is_free : Seen BlockStep → Bool
is_free seen = (content_of seen).tag == 0

abbrev pub is_free_block : MemBlock → Bool
is_free_block block = is_free (seen_of block)

-- ---- the store

-- 0, or the tag of a block of one of the files
abbrev pub IsTagAmong : List File → ℕ → Type 0
IsTagAmong files tag =
    (tag ≡ 0)
    ⊎ ((file : File) × (at : ℕ) ×
    (Contains files file × ((at < FILE_BLOCKS) × (tag ≡ tag_of file.ino at))))

-- Two blocks have not the same tag, but for free ones.
abbrev pub AreOnce : List (Seen BlockStep) → Type 0
AreOnce blocks =
    (first second : ℕ) (d : Seen BlockStep) → first < length blocks → second < length blocks →
    (content_of (get_or blocks first d)).tag ≡ (content_of (get_or blocks second d)).tag →
    (content_of (get_or blocks first d)).tag ≢ 0 → first ≡ second

-- These are the size regions of all records and all blocks of a store. A crash leaves them as they
-- read, each file stands in its blocks, and behind its end they hold zeros.
pub record AreStored (files : List File) (sizes : List (Seen WordStep))
    (blocks : List (Seen BlockStep)) : Type 0 where
  pub are : AreFiles files
  pub records : All (λ file. file.node < length sizes) files
  pub numbers : All (λ file. file.ino < 2 ^ 32) files
  pub words : All (λ size. 0 < length (words_of size)) sizes
  pub sure : All IsSure sizes
  pub sure_blocks : All IsSureBlock blocks
  pub tags : All (λ seen. IsTagAmong files (content_of seen).tag) blocks
  pub once : AreOnce blocks
  pub fits : All (λ file. size_word sizes file.node ≤ LONGEST_FILE) files
  pub zero_past : (file : File) (position : ℕ) → Contains files file →
      size_word sizes file.node ≤ position →
      byte_in file.ino (map content_of blocks) position ≡ 0
