-- Events of a core as calls on one block.
use Rattle.std.specs.Prelude.{ℕ, ◌+◌, ◌*◌, ◌/◌, ◌<◌, ◌≤◌, ◌≡◌, ◌⊎◌, Bool, true, false, Option, Some, None, List, length, get_or, nat_le, OnOk, OnErr}
use Rattle.std.specs.List.{list_all}
use Rattle.cfs_file.specs.declared.sizes.TheConstants.{BLOCK_LEN}
use Rattle.cfs_core.specs.declared.event.Event.TheVariants as events
use Rattle.cfs_core.specs.declared.inode_core.Core.{Core}
use Rattle.cfs_core.specs.declared.stretch.Stretch.{Stretch}
use Rattle.cfs_core.specs.After.{after}
use Rattle.cfs_core.specs.Good.{IsGood}
use Rattle.cfs_core.specs.May.{may}
use Rattle.cfs_core.specs.Words.{end_in, payload_at, piece_in, start_in, track}
use Rattle.cfs_pmem.specs.declared.trace.Asked.{Asked}
use Rattle.cfs_pmem.specs.Images.{Seen}
use Rattle.cfs_pmem.specs.Moments.{Moments}
use Rattle.cfs_block.specs.BlockImages.{BlockStep, Content, IsBlockImage, IsRangedFrom, content_of, kept, unflushed, with_bytes}
use Rattle.cfs_block.specs.BlockOps.{SetsTag}
use Rattle.cfs_medium.specs.Shows.{Recovers, Shows}
use Rattle.cfs_medium.specs.SlotEvents.{Answer}
use Rattle.cfs_medium.specs.Store.{tag_of}
use Rattle.cfs_medium.specs.World.{World}
use Rattle.cfs_medium.specs.WorldCalls.{WorldMoments, with_block}

-- A call on the block of a file block. At each moment what is left recovers the file of `during`;
-- behind it the devices show `kept` where it went well, and `failed` where it did not.
pub record BlockLeads (ino n block : ℕ) (during kept failed : Core) (world : World)
    (new : Seen BlockStep) (result : Answer) (asked_old asked_new : List Asked) : Type 0 where
  pub moments : WorldMoments (Recovers ino n during) asked_old world asked_new
      (with_block block (Some new) world)
  pub ok : OnOk result (Shows ino kept (with_block block (Some new) world))
  pub err : OnErr result (Shows ino failed (with_block block (Some new) world))

-- a block past the stored size is given up
abbrev pub TrimsShow : Type 0
TrimsShow =
    (ino n block : ℕ) (core : Core) (world : World) (seen new : Seen BlockStep)
    (obeys keeps : Bool) (result : Answer) (asked_old asked_new : List Asked) →
    IsGood (after core (events.Trim block false)) → Shows ino core world →
    may core (events.Trim block true) ≡ true → length core.log + 2 ≤ n →
    world.blocks block ≡ Some seen →
    SetsTag obeys keeps 0 result asked_old seen asked_new new →
    BlockLeads ino n block (after core (events.Trim block false))
    (after core (events.Trim block true))
    (after core (events.Trim block false)) world new result asked_old asked_new

-- a call flushed a block
pub record Flushes (result : Answer) (asked_old : List Asked) (seen : Seen BlockStep)
    (asked_new : List Asked) (new : Seen BlockStep) : Type 0 where
  pub full : 0 < length (content_of seen).bytes
  pub ok : OnOk result (new ≡ kept seen)
  pub err : OnErr result (new ≡ unflushed seen)
  pub moments : Moments IsBlockImage (IsBlockImage seen.history) asked_old seen asked_new new

-- each loose stretch ends in the block that it begins in
abbrev pub StayInBlocks : List Stretch → Type 0
StayInBlocks loose =
    list_all (λ s. nat_le s.to (BLOCK_LEN * (s.from / BLOCK_LEN) + BLOCK_LEN)) loose ≡ true

-- what a job wrote into a block is made durable
abbrev pub FlushesShow : Type 0
FlushesShow =
    (ino n place block : ℕ) (core : Core) (world : World) (seen new : Seen BlockStep)
    (result : Answer) (asked_old asked_new : List Asked) →
    IsGood core → Shows ino core world → StayInBlocks core.loose →
    may core (events.Flush place block true) ≡ true → length core.log + 2 ≤ n →
    world.blocks block ≡ Some seen → Flushes result asked_old seen asked_new new →
    BlockLeads ino n block core (after core (events.Flush place block true)) core world new
    result asked_old asked_new

abbrev pub left_or : Option (List ℕ) → List ℕ → List ℕ
left_or None piece = piece
left_or (Some left) piece = left

-- The bytes that stand in a block behind a write of a job: its piece of the payload, or what a
-- failed write left there; they reach over the entry's part of the block, from a place on.
pub record IsPiece (core : Core) (place block from : ℕ) (left : Option (List ℕ))
    (bytes : List ℕ) : Type 0 where
  pub starts : start_in (track core.tracks place).span block ≡ BLOCK_LEN * block + from
  pub ends : end_in (track core.tracks place).span block ≡ BLOCK_LEN * block + from + length bytes
  pub within : from + length bytes ≤ BLOCK_LEN
  pub is : bytes ≡ left_or left
      (piece_in (payload_at core.log place) (track core.tracks place).span block)

-- A job writes into a block, or fails to: at each moment what is left recovers the file of the core
-- behind it, and the devices show that core.
abbrev pub WritesShow : Type 0
WritesShow =
    (ino n place block from : ℕ) (left : Option (List ℕ)) (bytes : List ℕ) (core : Core)
    (world : World) (seen new : Seen BlockStep) (asked_old asked_new : List Asked) →
    IsGood (after core (events.BlockWrite place block left)) → Shows ino core world →
    may core (events.BlockWrite place block left) ≡ true → length core.log + 2 ≤ n →
    world.blocks block ≡ Some seen → IsPiece core place block from left bytes →
    length (content_of seen).bytes ≡ BLOCK_LEN →
    content_of new ≡ with_bytes from bytes (content_of seen) →
    Moments IsBlockImage (IsRangedFrom seen from (length bytes)) asked_old seen asked_new new →
    WorldMoments (Recovers ino n (after core (events.BlockWrite place block left))) asked_old world
    asked_new (with_block block (Some new) world)
    × Shows ino (after core (events.BlockWrite place block left)) (with_block block (Some new) world)

-- an image of zeros, with no tag but perhaps this one
pub record IsBlank (tag : ℕ) (content : Content) : Type 0 where
  pub tag_is : (content.tag ≡ 0) ⊎ (content.tag ≡ tag)
  pub zeros : (k : ℕ) → k < BLOCK_LEN → get_or content.bytes k 0 ≡ 0

-- A block of zeros is tagged for a file block, in every image or, where that fails, in some.
abbrev pub TagsShow : Type 0
TagsShow =
    (ino n block : ℕ) (core : Core) (world : World) (seen new : Seen BlockStep)
    (obeys keeps : Bool) (result : Answer) (asked_old asked_new : List Asked) →
    IsGood (after core (events.Tag block false)) → Shows ino core world →
    may core (events.Tag block true) ≡ true → length core.log + 2 ≤ n →
    world.blocks block ≡ Some seen → 0 < length (content_of seen).bytes →
    ((content : Content) → IsBlockImage seen.history content →
    IsBlank (tag_of ino block) content) →
    SetsTag obeys keeps (tag_of ino block) result asked_old seen asked_new new →
    BlockLeads ino n block (after core (events.Tag block false))
    (after core (events.Tag block true))
    (after core (events.Tag block false)) world new result asked_old asked_new
