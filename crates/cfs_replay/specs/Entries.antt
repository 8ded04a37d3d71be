-- The live entries of all files, as a mount takes them up one after another.
use Rattle.std.specs.Prelude.{ℕ, ◌+◌, ◌*◌, ◌/◌, ◌^◌, ◌<◌, ◌≤◌, ◌≡◌, ◌≢◌, List, [], ◌∷◌, length}
use Rattle.std.specs.Prelude.{Result, OnOk, Some, get_or}
use Rattle.std.specs.List.{Contains}
use Rattle.cfs_file.specs.declared.request.Request.{Request}
use Rattle.cfs_pmem.specs.declared.trace.Asked.{Asked}
use Rattle.cfs_pmem.specs.Images.{Seen, WordStep}
use Rattle.cfs_block.specs.BlockImages.{BlockStep, Content}
use Rattle.cfs_block.specs.Devices.{numbers_of}
use Rattle.cfs_slot.specs.declared.fields.Found.{Found}
use Rattle.cfs_slot.specs.Tails.{numbers_in}
use Rattle.cfs_slot.specs.Words.{count_of, found_of, kind_of, offset_of, tails_of}
use Rattle.cfs_medium.specs.Depicts.{content_at}
use Rattle.cfs_medium.specs.Store.{by_gate, entry_at, live_in}
use Rattle.cfs_home.specs.Calls.{MountMoments}
use Rattle.cfs_home.specs.Disks.{Disk, File, IsMapped, IsNoNode, shut}
use Rattle.cfs_home.specs.Ends.{IsClosedOrLive}
use Rattle.cfs_recover.specs.Begins.{Stands, both}
use Rattle.cfs_recover.specs.Words.{lengths_of}
use Rattle.cfs_replay.specs.declared.pending.Pending.{Pending}
use Rattle.cfs_replay.specs.Pieces.{BlockMap, FindsBlocks, tags_in}
use Rattle.cfs_replay.specs.Reading.{slots_in, words_at}

-- ---- one of them

abbrev pub file_of : Pending → File
file_of pending = record { node = pending.node; ino = pending.ino }

-- It is the lowest live entry of one of the files, and the file has each block that it writes.
pub record IsNext (files : List File) (slots : List (List ℕ)) (blocks : List Content)
    (pending : Pending) : Type 0 where
  pub live : ℕ × Request
  pub rest : List (ℕ × Request)
  pub among : Contains files (file_of pending)
  pub here : entry_at pending.ino slots pending.slot ≡ Some live
  pub lowest : by_gate (live_in pending.ino slots) ≡ live ∷ rest
  pub mapped : IsMapped pending.ino live.1 blocks

-- The head of a write tells a range of a file, and its slot and those of its tails hold the whole
-- payload.
pub record HoldsWhole (words : List ℕ) : Type 0 where
  pub fits : kind_of words ≢ 2 → offset_of words + count_of words ≤ 1048576
  pub whole : kind_of words ≢ 2 →
      count_of words ≤ 4096 * (1 + length (numbers_in (tails_of words)))

-- What is read of an entry before it is brought home: the first words of its slot, and the size
-- word of its file.
pub record IsTakenUp (pending : Pending) (head : Found) (size : ℕ)
    (regions : List (Seen WordStep)) : Type 0 where
  pub node : pending.node < 256
  pub ino : pending.ino < 2 ^ 32
  pub slot : pending.slot < 2 ^ 32
  pub place : 323 + pending.slot < length regions
  pub reads : head ≡ found_of (words_at regions (323 + pending.slot))
  pub stored : size ≡ get_or (words_at regions (67 + pending.node)) 0 0

-- ---- all of them, in order

-- Each is the next one once those before it are closed, and behind the last no entry is live.
abbrev pub AreInOrder : List File → List (List ℕ) → List Content → List Pending → Type 0
AreInOrder files slots blocks [] =
    (file : File) → Contains files file → by_gate (live_in file.ino slots) ≡ []
AreInOrder files slots blocks (pending ∷ rest) =
    IsNext files slots blocks pending
    × AreInOrder files (shut pending.slot slots) blocks rest

-- ---- behind one of them

abbrev pub HaveTags : List Content → List Content → Type 0
HaveTags first second = (at : ℕ) → (content_at second at).tag ≡ (content_at first at).tag

-- A mount finds the files of `start` on a disk with the entry's slot shut, and with the same tags
-- and the same sizes of all other records, and a crash leaves no other.
pub record IsBehind (files : List File) (start first : Disk) (pending : Pending)
    (regions : List (Seen WordStep)) (blocks : List (Seen BlockStep)) : Type 0 where
  pub now : Disk
  pub stands : Stands files start now regions blocks
  pub slots : now.slots ≡ shut pending.slot first.slots
  pub tags : HaveTags first.blocks now.blocks
  pub sizes : (node : ℕ) → node ≢ pending.node → now.sizes node ≡ first.sizes node

-- A call brings a live entry home. At each moment a mount finds the same files; behind `Ok` the
-- slot is shut, and tags are as before. Each region has as many words as before.
pub record BringsHome {T E : Type 0} (pending : Pending) (result : Result T E)
    (asked_old : List Asked) (regions_old : List (Seen WordStep))
    (blocks_old : List (Seen BlockStep)) (asked_new : List Asked)
    (regions_new : List (Seen WordStep)) (blocks_new : List (Seen BlockStep)) : Type 0 where
  pub moments : (files : List File) (start first : Disk) →
      Stands files start first regions_old blocks_old →
      IsNext files first.slots first.blocks pending →
      MountMoments files start asked_old (both regions_old blocks_old)
      asked_new (both regions_new blocks_new)
  pub stands : OnOk result ((files : List File) (start first : Disk) →
      Stands files start first regions_old blocks_old →
      IsNext files first.slots first.blocks pending →
      IsBehind files start first pending regions_new blocks_new)
  pub slots : OnOk result (slots_in regions_new ≡ shut pending.slot (slots_in regions_old))
  pub lengths : lengths_of regions_new ≡ lengths_of regions_old
  pub tags : OnOk result (tags_in blocks_new ≡ tags_in blocks_old)
  pub devices : numbers_of (both regions_new blocks_new)
      ≡ numbers_of (both regions_old blocks_old)

-- The record, inode number and slots of an entry are in range, what it holds is whole, and the map
-- finds the blocks of its file.
pub record CanReplay (found : BlockMap) (tags : List ℕ) (regions : List (Seen WordStep))
    (pending : Pending) : Type 0 where
  pub node : pending.node < 256
  pub ino : pending.ino < 2 ^ 32
  pub slot : pending.slot < 2 ^ 32
  pub queue : 323 + (pending.slot / 16 * 16 + 15) < length regions
  pub whole : HoldsWhole (words_at regions (323 + pending.slot))
  pub finds : FindsBlocks pending.ino found tags

-- A mount has come to a disk where these entries are left, and finds the files of `start` there. A
-- crash leaves no other disk. Tags and the sizes of what is no file are as at first, and no slot
-- was opened.
pub record HaveLeft (files : List File) (start first : Disk) (left : List Pending)
    (regions : List (Seen WordStep)) (blocks : List (Seen BlockStep)) : Type 0 where
  pub now : Disk
  pub stands : Stands files start now regions blocks
  pub tags : HaveTags first.blocks now.blocks
  pub sizes : (node : ℕ) → IsNoNode files node → now.sizes node ≡ first.sizes node
  pub swept : ((at : ℕ) → IsClosedOrLive files (get_or first.slots at [])) →
      (at : ℕ) → IsClosedOrLive files (get_or now.slots at [])
  pub order : AreInOrder files now.slots now.blocks left
