-- The devices of one inode, and what a crash leaves of them.
use Rattle.std.specs.Prelude.{ℕ, ◌≡◌, Option, Some, None, List, [], map, drop, get_or}
use Rattle.std.specs.List.{filter_map, range_with_len}
use Rattle.cfs_file.specs.declared.request.Request.{Request}
use Rattle.cfs_file.specs.declared.sizes.TheConstants.{FILE_BLOCKS}
use Rattle.cfs_pmem.specs.Images.{Seen, WordStep, IsImage}
use Rattle.cfs_pmem.specs.Objects.{IsEachImage}
use Rattle.cfs_block.specs.BlockImages.{BlockStep, Content, IsBlockImage}
use Rattle.cfs_slot.specs.Words.{live_entry}
use Rattle.cfs_medium.specs.Store.{by_gate, stored_file, taken_through}

-- The region of the size word; the slots of each request, the head first, by the number in its
-- gate; and of each file block the block that is mapped there.
pub record World : Type 0 where
  pub size : Seen WordStep
  pub slots : ℕ → List (Seen WordStep)
  pub blocks : ℕ → Option (Seen BlockStep)

-- the words and bytes of each of them
pub record Remains : Type 0 where
  pub size : List ℕ
  pub slots : ℕ → List (List ℕ)
  pub blocks : ℕ → Content

-- a free block
abbrev pub nothing : Content
nothing = record { tag = 0; bytes = [] }

abbrev pub IsImageAt : Option (Seen BlockStep) → Content → Type 0
IsImageAt None content = content ≡ nothing
IsImageAt (Some seen) content = IsBlockImage seen.history content

-- A crash may leave this: one image of each device, each by itself.
pub record MayRemain (world : World) (remains : Remains) : Type 0 where
  pub size : IsImage world.size.history remains.size
  pub slots : (place : ℕ) → IsEachImage IsImage (world.slots place) (remains.slots place)
  pub blocks : (block : ℕ) → IsImageAt (world.blocks block) (remains.blocks block)

-- P holds whatever a crash leaves
abbrev pub AllRemains : World → (Remains → Type 0) → Type 0
AllRemains world P = (remains : Remains) → MayRemain world remains → P remains

-- the words of a request's head, and those of its tails
abbrev pub head_words : List (List ℕ) → List ℕ
head_words slots = get_or slots 0 []

-- the gate and the request of the live entry at a number
abbrev pub live_at : ℕ → Remains → ℕ → Option (ℕ × Request)
live_at ino remains place =
    live_entry ino (head_words (remains.slots place)) (drop 1 (remains.slots place))

-- the live entries whose numbers are below n, in order of their gates
abbrev pub live_below : ℕ → Remains → ℕ → List (ℕ × Request)
live_below ino remains n = by_gate (filter_map (live_at ino remains) (range_with_len 0 n))

abbrev pub stored_of : ℕ → Remains → List ℕ
stored_of ino remains =
    stored_file ino (record {
      size = get_or remains.size 0 0;
      slots = [];
      blocks = map remains.blocks (range_with_len 0 FILE_BLOCKS);
    })

-- The file that a mount finds in what is left: the stored file, taken through the live entries.
abbrev pub recovered_of : ℕ → Remains → ℕ → List ℕ
recovered_of ino remains n = taken_through (stored_of ino remains) (live_below ino remains n)
