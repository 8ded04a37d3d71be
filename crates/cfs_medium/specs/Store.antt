-- What the words and bytes of a store say of one inode.
use Rattle.std.specs.Prelude.{ℕ, ◌+◌, ◌*◌, ◌/◌, ◌%◌, ◌==◌, nat_le, nat_lt, if◌then◌else◌, Option, Some, None, List, [], ◌∷◌, length, map, get_or, find}
use Rattle.std.specs.List.{filter_map, range_with_len}
use Rattle.cfs_file.specs.declared.request.Request.{Request}
use Rattle.cfs_file.specs.File.{effect}
use Rattle.cfs_file.specs.declared.sizes.TheConstants.{BLOCK_LEN, FILE_BLOCKS}
use Rattle.cfs_slot.specs.Words.{live_entry}
use Rattle.cfs_slot.specs.Tails.{tails_at}
use Rattle.cfs_block.specs.BlockImages.{Content}

-- the inode's size word, the words of every slot and the content of every block, both in device
-- order
pub record Store : Type 0 where
  pub size : ℕ
  pub slots : List (List ℕ)
  pub blocks : List Content

-- the tag of a file block of the inode
abbrev pub tag_of : ℕ → ℕ → ℕ
tag_of ino block = ino * 65536 + block + 1

-- the block that is tagged for a file block of the inode: the first one in device order, and none
-- past the longest file
abbrev pub block_for : ℕ → ℕ → List Content → Option Content
block_for ino block blocks =
    if nat_lt block FILE_BLOCKS then find (λ content. content.tag == tag_of ino block) blocks
    else None

-- the byte of a block, or 0 where there is none
abbrev pub byte_of : Option Content → ℕ → ℕ
byte_of None k = 0
byte_of (Some content) k = get_or content.bytes k 0

-- the byte of the block that is tagged for the position, or 0
abbrev pub byte_in : ℕ → List Content → ℕ → ℕ
byte_in ino blocks position =
    byte_of (block_for ino (position / BLOCK_LEN) blocks) (position % BLOCK_LEN)

-- the stored file: as long as the size word
abbrev pub stored_file : ℕ → Store → List ℕ
stored_file ino store = map (λ p. byte_in ino store.blocks p) (range_with_len 0 store.size)

-- the gate and the request of the inode's live entry in the slot at a place in device order, which
-- may be the head of a long write and have tails beside it
abbrev pub entry_at : ℕ → List (List ℕ) → ℕ → Option (ℕ × Request)
entry_at ino slots at = live_entry ino (get_or slots at []) (tails_at slots at)

-- those of all its live entries, in device order
abbrev pub live_in : ℕ → List (List ℕ) → List (ℕ × Request)
live_in ino slots = filter_map (entry_at ino slots) (range_with_len 0 (length slots))

-- with one more entry, before the first one whose gate is not less
abbrev pub put_by_gate : ℕ × Request → List (ℕ × Request) → List (ℕ × Request)
put_by_gate entry [] = entry ∷ []
put_by_gate entry (first ∷ rest) =
    if nat_le entry.0 first.0 then entry ∷ (first ∷ rest) else first ∷ put_by_gate entry rest

-- the entries in order of their gates
abbrev pub by_gate : List (ℕ × Request) → List (ℕ × Request)
by_gate [] = []
by_gate (entry ∷ entries) = put_by_gate entry (by_gate entries)

-- the file taken through the requests, in order
abbrev pub taken_through : List ℕ → List (ℕ × Request) → List ℕ
taken_through file [] = file
taken_through file (entry ∷ entries) = taken_through (effect file entry.1) entries

-- the recovered file: the stored file, taken through the live entries in order of their gates
abbrev pub recovered_file : ℕ → Store → List ℕ
recovered_file ino store = taken_through (stored_file ino store) (by_gate (live_in ino store.slots))
