-- What a crash may leave once the pieces of a request are flushed.
use Rattle.std.specs.Prelude.{ℕ, ◌<◌, List, length, map}
use Rattle.cfs_pmem.specs.Images.{Seen}
use Rattle.cfs_pmem.specs.Objects.{seen_at}
use Rattle.cfs_block.specs.BlockImages.{BlockStep, IsSureBlock, content_of}
use Rattle.cfs_home.specs.Calls.{HaveBlocksOf}
use Rattle.cfs_home.specs.Disks.{Disk}
use Rattle.cfs_recover.specs.declared.piece.Piece.{Piece}
use Rattle.cfs_recover.specs.Held.{AllLieWithin}
use Rattle.cfs_recover.specs.Pieces.{with_flushes, with_writes}

-- a crash leaves each block as it reads now
abbrev pub AreSure : List (Seen BlockStep) → Type 0
AreSure blocks = (k : ℕ) → k < length blocks → IsSureBlock (seen_at blocks k)

-- So it does again once the pieces are written and flushed.
abbrev pub PiecesAreSure : Type 0
PiecesAreSure =
    (pieces : List Piece) (bytes : List ℕ) (blocks : List (Seen BlockStep)) → AreSure blocks →
    AllLieWithin (length blocks) (length bytes) pieces →
    AreSure (with_flushes pieces (with_writes pieces bytes blocks))

-- Then it leaves the blocks of the disk that is read now.
abbrev pub SureBlocksAreOf : Type 0
SureBlocksAreOf =
    (blocks : List (Seen BlockStep)) (disk : Disk) → AreSure blocks →
    HaveBlocksOf (record disk { blocks = map content_of blocks }) blocks
