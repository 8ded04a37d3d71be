-- What a mount is to do to a store, and what stands once it is done.
use Rattle.std.specs.Prelude.{ℕ, ◌+◌, ◌/◌, ◌<◌, ◌≡◌, ◌⊎◌, List, [], length, map, get_or}
use Rattle.std.specs.List.{Contains}
use Rattle.cfs_pmem.specs.Images.{Seen, WordStep, words_of}
use Rattle.cfs_block.specs.BlockImages.{BlockStep, content_of}
use Rattle.cfs_slot.specs.Words.{gate_of}
use Rattle.cfs_medium.specs.Depicts.{content_at}
use Rattle.cfs_home.specs.Calls.{disk_of}
use Rattle.cfs_home.specs.Disks.{Disk, File, IsNoNode, IsNoTag, recovered_in, stored_in}
use Rattle.cfs_home.specs.Ends.{AreDrained, IsClosedOrLive}
use Rattle.cfs_recover.specs.Begins.{Stands}
use Rattle.cfs_recover.specs.Swept.{AreDead, AreNoNodes}
use Rattle.cfs_recover.specs.Untagged.{AreNoTags}
use Rattle.cfs_replay.specs.declared.plan.Plan.{Plan}
use Rattle.cfs_replay.specs.Entries.{AreInOrder}

-- the disk of these devices as they read now
abbrev pub disk_in : List (Seen WordStep) → List (Seen BlockStep) → Disk
disk_in regions blocks =
    disk_of (record { words = map words_of regions; contents = map content_of blocks })

-- ---- what is to be done

-- Its places are those of devices: of slots among this many regions, of this many blocks, and of
-- records.
pub record IsWithin (plan : Plan) (regions blocks : ℕ) : Type 0 where
  pub dead : (k : ℕ) → k < length plan.dead.items →
      323 + get_or plan.dead.items k 0 < regions
  pub untagged : (k : ℕ) → k < length plan.untagged.items →
      get_or plan.untagged.items k 0 < blocks
  pub emptied : (k : ℕ) → k < length plan.emptied.items → get_or plan.emptied.items k 0 < 256

-- the record is that of a file
abbrev pub IsNode : List File → ℕ → Type 0
IsNode files node = (file : File) × (Contains files file × (file.node ≡ node))

-- the tag is 0, or one of a file
abbrev pub IsTagOrFree : List File → ℕ → Type 0
IsTagOrFree files tag =
    (tag ≡ 0) ⊎ ((file : File) × (Contains files file × (tag / 65536 ≡ file.ino)))

-- The lists have all that a mount of these files is to do on the disk, and nothing else.
pub record IsPlanFor (files : List File) (first : Disk) (plan : Plan) : Type 0 where
  pub dead : AreDead files first plan.dead.items
  pub open_slots : (at : ℕ) →
      IsClosedOrLive files (get_or first.slots at []) ⊎ Contains plan.dead.items at
  pub entries : AreInOrder files first.slots first.blocks plan.entries.items
  pub untagged : AreNoTags files first plan.untagged.items
  pub tags : (at : ℕ) →
      IsTagOrFree files (content_at first.blocks at).tag ⊎ Contains plan.untagged.items at
  pub emptied : AreNoNodes files plan.emptied.items
  pub sizes : (node : ℕ) →
      (IsNode files node ⊎ (first.sizes node ≡ 0)) ⊎ Contains plan.emptied.items node

-- ---- what stands then

-- a block has the tag that it had, or none in place of one that was no file's
abbrev pub IsTagKept : List File → ℕ → ℕ → Type 0
IsTagKept files was now = (now ≡ was) ⊎ ((now ≡ 0) × IsNoTag files was)

-- A mount that began on the disk `first` has come to its end. A crash leaves the disk that is read
-- now and no other. Each file is stored whole there, as it was to be found at the start, with its
-- blocks; no gate is open, and what is no file's has neither a size nor a block.
pub record IsBroughtHome (files : List File) (start first : Disk) (regions : List (Seen WordStep))
    (blocks : List (Seen BlockStep)) : Type 0 where
  pub now : Disk
  pub holds : now ≡ disk_in regions blocks
  pub stands : Stands files start now regions blocks
  pub stored : (file : File) → Contains files file → stored_in file now ≡ recovered_in file start
  pub drained : AreDrained files now
  pub closed : (at : ℕ) → gate_of (get_or now.slots at []) ≡ 0
  pub tags : (at : ℕ) → IsTagOrFree files (content_at now.blocks at).tag
  pub kept : (at : ℕ) → IsTagKept files (content_at first.blocks at).tag
      (content_at now.blocks at).tag
  pub sizes : (node : ℕ) → IsNoNode files node → now.sizes node ≡ 0
