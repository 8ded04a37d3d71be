-- All files of an image, and what one step of a mount does to it.
use Rattle.std.specs.Prelude.{ℕ, ◌/◌, ◌%◌, ◌<◌, ◌≡◌, ◌≢◌, ◌⊎◌, false, Some, List, [], ◌∷◌, get_or}
use Rattle.std.specs.List.{Contains}
use Rattle.std.proofs.Math.ListN.{set}
use Rattle.cfs_file.specs.declared.request.Request.{Request}
use Rattle.cfs_file.specs.declared.request.Request.TheVariants as requests
use Rattle.cfs_file.specs.declared.sizes.TheConstants.{BLOCK_LEN, FILE_BLOCKS}
use Rattle.cfs_file.specs.Span.{Touches}
use Rattle.cfs_block.specs.BlockImages.{Content}
use Rattle.cfs_slot.specs.Words.{is_live}
use Rattle.cfs_medium.specs.Store.{Store, by_gate, byte_in, entry_at, live_in, recovered_file}
use Rattle.cfs_medium.specs.Store.{stored_file}
use Rattle.cfs_medium.specs.Depicts.{IsFor, content_at}
use Rattle.cfs_medium.specs.Laws.{IsOfOthers}
use Rattle.cfs_home.specs.Parts.{IsSound, Part, own_byte}

-- the words of the regions below the size words (selector, tables, journal), the size word of each
-- record, the words of every slot and the content of every block
pub record Disk : Type 0 where
  pub front : List (List ℕ)
  pub sizes : ℕ → ℕ
  pub slots : List (List ℕ)
  pub blocks : List Content

-- a file of the tree: the number of its record, and its inode number
pub record File : Type 0 where
  pub node : ℕ
  pub ino : ℕ

abbrev pub store_for : File → Disk → Store
store_for file disk =
    record { size = disk.sizes file.node; slots = disk.slots; blocks = disk.blocks }

-- what the disk has of the file
abbrev pub part_of : File → Disk → Part
part_of file disk = record {
  size = disk.sizes file.node;
  byte = λ position. byte_in file.ino disk.blocks position;
  entries = by_gate (live_in file.ino disk.slots);
}

abbrev pub stored_in : File → Disk → List ℕ
stored_in file disk = stored_file file.ino (store_for file disk)

abbrev pub recovered_in : File → Disk → List ℕ
recovered_in file disk = recovered_file file.ino (store_for file disk)

-- ---- files

-- neither a record nor an inode number in common
pub record AreTwo (file other : File) : Type 0 where
  pub nodes : other.node ≢ file.node
  pub inodes : other.ino ≢ file.ino

abbrev pub AreFiles : List File → Type 0
AreFiles files =
    (file other : File) → Contains files file → Contains files other →
    (other ≡ file) ⊎ AreTwo file other

-- one gate of the inode stands in one slot alone
abbrev pub IsOnce : ℕ → List (List ℕ) → Type 0
IsOnce ino slots =
    (first second : ℕ) (entry other : ℕ × Request) → entry_at ino slots first ≡ Some entry →
    entry_at ino slots second ≡ Some other → entry.0 ≡ other.0 → first ≡ second

-- what a mount may begin with
pub record IsReady (file : File) (disk : Disk) : Type 0 where
  pub sound : IsSound (part_of file disk)
  pub once : IsOnce file.ino disk.slots

abbrev pub AreReady : List File → Disk → Type 0
AreReady files disk = (file : File) → Contains files file → IsReady file disk

-- a mount finds the same file, and may begin with it
pub record Stays (file : File) (first second : Disk) : Type 0 where
  pub recovers : recovered_in file second ≡ recovered_in file first
  pub ready : IsReady file second

-- so of each file; and the front is as it was
pub record AllStay (files : List File) (first second : Disk) : Type 0 where
  pub front : second.front ≡ first.front
  pub each : (file : File) → Contains files file → Stays file first second

-- ---- the lowest live entry of a file

-- it stands in the slot at that place, and the others come behind it
pub record IsLowest (file : File) (at : ℕ) (entry : ℕ × Request) (rest : List (ℕ × Request))
    (disk : Disk) : Type 0 where
  pub here : entry_at file.ino disk.slots at ≡ Some entry
  pub lowest : by_gate (live_in file.ino disk.slots) ≡ entry ∷ rest

-- ---- steps

-- Tags stay, blocks of others stay, and in those of the inode the bytes that the request does not
-- touch.
pub record BlocksBeside (ino : ℕ) (request : Request) (first second : List Content) : Type 0 where
  pub tags : (at : ℕ) → (content_at second at).tag ≡ (content_at first at).tag
  pub others : (at : ℕ) → IsOfOthers ino (content_at first at).tag →
      content_at second at ≡ content_at first at
  pub beside : (at position : ℕ) → position / BLOCK_LEN < FILE_BLOCKS →
      IsFor ino (position / BLOCK_LEN) first at → (Touches request 0 position → ⊥) →
      get_or (content_at second at).bytes (position % BLOCK_LEN) 0
      ≡ get_or (content_at first at).bytes (position % BLOCK_LEN) 0

-- In each block of the inode the request's bytes stand where it touches.
abbrev pub BlocksHold : ℕ → Request → List Content → Type 0
BlocksHold ino request blocks =
    (at position : ℕ) → position / BLOCK_LEN < FILE_BLOCKS →
    IsFor ino (position / BLOCK_LEN) blocks at → Touches request 0 position →
    get_or (content_at blocks at).bytes (position % BLOCK_LEN) 0 ≡ own_byte request position

-- Each position that a write touches has a block of the inode. A truncate wants none.
abbrev pub IsMapped : ℕ → Request → List Content → Type 0
IsMapped ino (requests.Write offset bytes) blocks =
    (position : ℕ) → Touches (requests.Write offset bytes) 0 position →
    (at : ℕ) × IsFor ino (position / BLOCK_LEN) blocks at
IsMapped ino request blocks = Unit {0}

-- Bytes that the request touches are now anything, in any number of blocks.
pub record WritesBlocks (file : File) (request : Request) (first second : Disk) : Type 0 where
  pub front : second.front ≡ first.front
  pub sizes : (node : ℕ) → second.sizes node ≡ first.sizes node
  pub slots : second.slots ≡ first.slots
  pub blocks : BlocksBeside file.ino request first.blocks second.blocks

-- The size word of a record is set.
pub record SetsSize (node size : ℕ) (first second : Disk) : Type 0 where
  pub front : second.front ≡ first.front
  pub own : second.sizes node ≡ size
  pub others : (other : ℕ) → other ≢ node → second.sizes other ≡ first.sizes other
  pub slots : second.slots ≡ first.slots
  pub blocks : second.blocks ≡ first.blocks

-- the slots with the gate of one of them closed: the first of its words alone is 0
abbrev pub shut : ℕ → List (List ℕ) → List (List ℕ)
shut at slots = set slots at (set (get_or slots at []) 0 0)

-- The gate of a slot is closed.
pub record ClosesSlot (at : ℕ) (first second : Disk) : Type 0 where
  pub front : second.front ≡ first.front
  pub sizes : (node : ℕ) → second.sizes node ≡ first.sizes node
  pub slots : second.slots ≡ shut at first.slots
  pub blocks : second.blocks ≡ first.blocks

-- A block comes to hold this.
pub record ChangesBlock (at : ℕ) (content : Content) (first second : Disk) : Type 0 where
  pub front : second.front ≡ first.front
  pub sizes : (node : ℕ) → second.sizes node ≡ first.sizes node
  pub slots : second.slots ≡ first.slots
  pub blocks : second.blocks ≡ set first.blocks at content

-- ---- what is no file's

-- the slot is no live entry of a file
abbrev pub IsDead : List File → List ℕ → Type 0
IsDead files words = (file : File) → Contains files file → is_live file.ino words ≡ false

-- the record is that of no file
abbrev pub IsNoNode : List File → ℕ → Type 0
IsNoNode files node = (file : File) → Contains files file → file.node ≢ node

-- the tag is that of no file
abbrev pub IsNoTag : List File → ℕ → Type 0
IsNoTag files tag = (file : File) → Contains files file → IsOfOthers file.ino tag
