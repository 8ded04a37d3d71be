-- What is read of a store in its image.
use Rattle.std.specs.Prelude.{ℕ, ◌+◌, ◌*◌, ◌/◌, ◌^◌, ◌<◌, ◌≤◌, ◌≡◌, ◌==◌, nat_eq, if◌then◌else◌}
use Rattle.std.specs.Prelude.{Option, Some, None, All, List, [], get_or, length, map}
use Rattle.std.specs.List.{filter_map, range_with_len}
use Rattle.std.specs.Option.{option_map}
use Rattle.std.specs.HashMap.{get}
use Rattle.cfs_block.specs.BlockImages.{Content}
use Rattle.cfs_dir.specs.declared.node.Node.{Node}
use Rattle.cfs_file.specs.declared.request.Request.{Request}
use Rattle.cfs_fsck.specs.Images.{rows_at}
use Rattle.cfs_image.specs.Image.{word_at}
use Rattle.cfs_image.specs.Layout.{block_at, slot_at}
use Rattle.cfs_medium.specs.Store.{block_for, by_gate, byte_of, live_in, tag_of}
use Rattle.cfs_slot.specs.Tails.{numbers_in, tails_at}
use Rattle.cfs_slot.specs.Words.{request_of}
use Rattle.cfs_survey.specs.declared.live_entry.LiveEntry.{LiveEntry}
use Rattle.cfs_survey.specs.Mapped.{BlockMap}
use Rattle.cfs_dump.specs.Stores.{blocks_in, content_in, slots_in}

-- an image is long enough for its slots, which are at most 1024
pub record HasSlots (bytes : List ℕ) : Type 0 where
  pub few : word_at bytes 24 ≤ 64
  pub within : slot_at (16 * word_at bytes 24) ≤ length bytes

-- the six words before the payload of every slot
unfoldable pub heads_in : List ℕ → List (List ℕ)
heads_in bytes = rows_at bytes slot_at 6 (16 * word_at bytes 24)

-- the words of the slots with these numbers in the queue of a slot
abbrev pub tails_in : List ℕ → ℕ → ℕ → List (List ℕ)
tails_in bytes slot tails =
    map (λ number. get_or (slots_in bytes) (slot / 16 * 16 + number) []) (numbers_in tails)

-- the request of a live entry, where it is one of this inode
abbrev pub request_in : List ℕ → ℕ → LiveEntry → Option (ℕ × Request)
request_in bytes ino entry =
    if entry.ino == ino
    then Some (
      entry.gate,
      request_of (get_or (slots_in bytes) entry.slot []) (tails_at (slots_in bytes) entry.slot),
    )
    else None

-- the first bytes of a block, or zeros where there is none
abbrev pub front_of : Option Content → ℕ → List ℕ
front_of content len = map (byte_of content) (range_with_len 0 len)

-- The map finds the block that is tagged for each block of a file, and the image is long enough for
-- it.
pub record FindsBlocks (bytes : List ℕ) (ino : ℕ) (found : BlockMap) : Type 0 where
  pub finds : (block : ℕ) → block < 256 →
      block_for ino block (blocks_in bytes)
      ≡ option_map (content_in bytes) (get nat_eq found (tag_of ino block))
  pub within : (block place : ℕ) → block < 256 →
      get nat_eq found (tag_of ino block) ≡ Some place →
      block_at (word_at bytes 24) (place + 1) ≤ length bytes

-- The map and the entries, which are all live ones by inode number and gate, tell this file of a
-- tree.
pub record TellFile (bytes : List ℕ) (node : Node) (found : BlockMap)
    (entries : List LiveEntry) : Type 0 where
  pub ino : node.ino < 2 ^ 32
  pub number : node.rec < 256
  pub blocks : FindsBlocks bytes node.ino found
  pub slots : All (λ entry. entry.slot < 16 * word_at bytes 24) entries
  pub live : filter_map (request_in bytes node.ino) entries
      ≡ by_gate (live_in node.ino (slots_in bytes))
