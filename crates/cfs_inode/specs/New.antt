-- A state of a file of which nothing is pending.
use Rattle.std.specs.Prelude.{ℕ, ◌+◌, ◌*◌, ◌≡◌, ◌≤◌, ◌<◌, ◌==◌, Option, Some, None, List, [], ◌∷◌}
use Rattle.std.specs.Prelude.{length, get_or, set, is_some, if◌then◌else◌}
use Rattle.cfs_file.specs.declared.sizes.TheConstants.{BLOCK_LEN, FILE_BLOCKS}
use Rattle.cfs_pmem.specs.Images.{IsSure, Seen, WordStep, words_of}
use Rattle.cfs_block.specs.BlockImages.{BlockStep, IsSureBlock, content_of}
use Rattle.cfs_core.specs.declared.flag.Flag.TheVariants.{Off}
use Rattle.cfs_core.specs.declared.inode_core.Core.{Core}
use Rattle.cfs_core.specs.Fresh.{IsFresh}
use Rattle.cfs_core.specs.Words.{flag_of}
use Rattle.cfs_medium.specs.Store.{tag_of}
use Rattle.cfs_medium.specs.World.{World}
use Rattle.cfs_tracker.specs.declared.cell.Cell.{Cell}
use Rattle.cfs_tracker.specs.declared.cell.Cell.TheVariants as kinds
use Rattle.cfs_tracker.specs.New.{stored_view}
use Rattle.cfs_tracker.specs.View.{TrackerView}
use Rattle.cfs_inode.specs.declared.mapped.Mapped.{Mapped}
use Rattle.cfs_inode.specs.Stands.{Together}
use Rattle.cfs_inode.specs.View.{StateView}

abbrev pub told_mapped : {B C : Type 0} → (B → C) → Mapped B → Mapped C
told_mapped tell mapped = record { at = mapped.at; block = tell mapped.block }

-- a mapped block as it is seen
abbrev pub MappedSeen : Type 0
MappedSeen = Mapped (Seen BlockStep)

-- ---- what is given

-- A block has one image alone, with the tag of this block of the file.
pub record IsMapped (ino low : ℕ) (mapped : MappedSeen) : Type 0 where
  pub above : low ≤ mapped.at
  pub within : mapped.at < FILE_BLOCKS
  pub sure : IsSureBlock mapped.block
  pub tag : (content_of mapped.block).tag ≡ tag_of ino mapped.at

-- each of them, and their numbers ascend
abbrev pub AreMapped : ℕ → ℕ → List MappedSeen → Type 0
AreMapped ino low [] = Unit {0}
AreMapped ino low (mapped ∷ rest) =
    IsMapped ino low mapped × AreMapped ino (mapped.at + 1) rest

-- The size word is `stored` in its only image, and these blocks are mapped.
pub record IsStored (ino : ℕ) (size : Seen WordStep) (stored : ℕ) (blocks : List MappedSeen) :
    Type 0 where
  pub sure : IsSure size
  pub size_is : get_or (words_of size) 0 0 ≡ stored
  pub mapped : AreMapped ino 0 blocks

-- ---- the state

-- these blocks are at home
abbrev pub with_homes : {B : Type 0} → List (Mapped B) → List (Cell B) → List (Cell B)
with_homes [] cells = cells
with_homes (mapped ∷ rest) cells = with_homes rest (set cells mapped.at (kinds.Home mapped.block))

abbrev pub brought : {S D B : Type 0} → List (Mapped B) → TrackerView S D B → TrackerView S D B
brought blocks view = record view { cells = with_homes blocks view.cells }

-- a file of so many bytes in these blocks
abbrev pub stored_state : ℕ → Seen WordStep → ℕ → List MappedSeen → StateView
stored_state ino size stored blocks =
    record { ino = ino; size = size; tracker = brought blocks (stored_view stored) }

-- ---- its core and its devices

-- the block that is mapped for a block of the file
abbrev pub seen_for : List MappedSeen → ℕ → Option (Seen BlockStep)
seen_for [] block = None
seen_for (mapped ∷ rest) block =
    if mapped.at == block then Some mapped.block else seen_for rest block

abbrev pub stored_world : Seen WordStep → List MappedSeen → World
stored_world size blocks = record { size = size; slots = λ place. []; blocks = seen_for blocks }

-- A core of which nothing is logged has this file: its size, the blocks that are mapped, and their
-- bytes.
pub record HasFile (core : Core) (stored : ℕ) (blocks : List MappedSeen) : Type 0 where
  pub fresh : IsFresh core
  pub long : length core.base ≡ stored
  pub tags : (block : ℕ) → block < FILE_BLOCKS →
      get_or core.tags block Off ≡ flag_of (is_some (seen_for blocks block))
  pub bytes : (block : ℕ) (seen : Seen BlockStep) → seen_for blocks block ≡ Some seen →
      (k : ℕ) → k < BLOCK_LEN →
      get_or (content_of seen).bytes k 0 ≡ get_or core.bytes (BLOCK_LEN * block + k) 0

-- The state, with no job beside it, has every core of that file, on devices that show it.
abbrev pub StandsFor : Seen WordStep → ℕ → List MappedSeen → StateView → Type 0
StandsFor size stored blocks state =
    (core : Core) → HasFile core stored blocks → Together state [] core (stored_world size blocks)
