-- What stands once the bytes of a live entry are brought home.
use Rattle.std.specs.Prelude.{ℕ, ◌≡◌, List, length, map}
use Rattle.cfs_file.specs.declared.request.Request.{Request}
use Rattle.cfs_pmem.specs.declared.trace.Asked.{Asked}
use Rattle.cfs_pmem.specs.AllMoments.{AreDistinct}
use Rattle.cfs_pmem.specs.Images.{Seen, WordStep}
use Rattle.cfs_block.specs.BlockImages.{BlockStep, Content, content_of}
use Rattle.cfs_block.specs.Devices.{numbers_of}
use Rattle.cfs_home.specs.Calls.{MountMoments}
use Rattle.cfs_home.specs.Disks.{BlocksHold, Disk, File, IsMapped}
use Rattle.cfs_home.specs.Parts.{size_after}
use Rattle.cfs_recover.specs.declared.entry.Entry.{Entry}
use Rattle.cfs_recover.specs.declared.piece.Piece.{Piece}
use Rattle.cfs_recover.specs.Begins.{Begins, both}
use Rattle.cfs_recover.specs.Held.{AllBring, AllLieWithin, AreAllOf, AreFull}
use Rattle.cfs_recover.specs.Pieces.{ArePieces, with_flushes, with_writes}

-- Each piece brings the request's bytes to a range that it touches, and together they are all that
-- it touches.
pub record AreAllPieces (ino : ℕ) (request : Request) (first : List Content) (bytes : List ℕ)
    (pieces : List Piece) : Type 0 where
  pub touch : ArePieces ino request first pieces
  pub bring : AllBring ino request first bytes pieces
  pub all : AreAllOf ino request first pieces

-- The entry is of this file, with its size as it stands on the disk.
pub record IsEntryOf (entry : Entry) (file : File) (request : Request) (disk : Disk) : Type 0 where
  pub node : entry.node ≡ file.node
  pub size : entry.size ≡ disk.sizes file.node
  pub after : entry.size_after ≡ size_after request (disk.sizes file.node)

-- A mount takes up a live entry: the lowest one of its file, with all its pieces.
pub record TakesUp (files : List File) (file : File) (entry : Entry) (live : ℕ × Request)
    (rest : List (ℕ × Request)) (start first : Disk) (bytes : List ℕ) (pieces : List Piece)
    (regions : List (Seen WordStep)) (blocks : List (Seen BlockStep)) : Type 0 where
  pub begins : Begins files file entry.slot live rest start first regions blocks
  pub is : IsEntryOf entry file live.1 first
  pub cut : AreAllPieces file.ino live.1 first.blocks bytes pieces
  pub mapped : IsMapped file.ino live.1 first.blocks

-- the disk with these blocks, as they read
abbrev pub with_blocks : List (Seen BlockStep) → Disk → Disk
with_blocks blocks disk = record disk { blocks = map content_of blocks }

-- The bytes of the request stand, and all else is as a mount finds it when it takes up the entry.
pub record AreBrought (files : List File) (file : File) (entry : Entry) (live : ℕ × Request)
    (rest : List (ℕ × Request)) (start second : Disk) (regions : List (Seen WordStep))
    (blocks : List (Seen BlockStep)) : Type 0 where
  pub begins : Begins files file entry.slot live rest start second regions blocks
  pub is : IsEntryOf entry file live.1 second
  pub hold : BlocksHold file.ino live.1 second.blocks
  pub mapped : IsMapped file.ino live.1 second.blocks

-- Once the pieces of the lowest entry are written and flushed, its bytes are brought home.
abbrev pub BytesAreBrought : Type 0
BytesAreBrought =
    (files : List File) (file : File) (entry : Entry) (live : ℕ × Request)
    (rest : List (ℕ × Request)) (start first : Disk) (regions : List (Seen WordStep))
    (old new : List (Seen BlockStep)) (pieces : List Piece) (bytes : List ℕ)
    (asked_old asked_new : List Asked) →
    TakesUp files file entry live rest start first bytes pieces regions old → AreFull old →
    AllLieWithin (length old) (length bytes) pieces →
    new ≡ with_flushes pieces (with_writes pieces bytes old) →
    AreDistinct (numbers_of (both regions new)) →
    MountMoments files start asked_old (both regions old) asked_new (both regions new) →
    AreBrought files file entry live rest start (with_blocks new first) regions new
