-- The bytes of a request stand once its pieces are written.
use Rattle.std.specs.Prelude.{ℕ, ◌+◌, ◌-◌, ◌*◌, ◌/◌, ◌%◌, ◌<◌, ◌≤◌, ◌≡◌, ◌⊎◌, List, [], ◌∷◌, length}
use Rattle.std.specs.Prelude.{map, get_or}
use Rattle.cfs_file.specs.declared.request.Request.{Request}
use Rattle.cfs_file.specs.declared.sizes.TheConstants.{BLOCK_LEN, FILE_BLOCKS}
use Rattle.cfs_file.specs.Span.{Touches}
use Rattle.cfs_pmem.specs.Images.{Seen}
use Rattle.cfs_pmem.specs.Objects.{seen_at}
use Rattle.cfs_block.specs.BlockImages.{BlockStep, Content, content_of}
use Rattle.cfs_medium.specs.Depicts.{IsFor}
use Rattle.cfs_home.specs.Disks.{BlocksHold}
use Rattle.cfs_home.specs.Parts.{own_byte}
use Rattle.cfs_recover.specs.declared.piece.Piece.{Piece}
use Rattle.cfs_recover.specs.Pieces.{LiesWithin, with_flushes, with_writes}

-- The piece is for a block of the file, and brings the request's bytes to its range there.
pub record Brings (ino : ℕ) (request : Request) (first : List Content) (bytes : List ℕ)
    (piece : Piece) : Type 0 where
  pub block : ℕ
  pub within : block < FILE_BLOCKS
  pub tag : IsFor ino block first piece.at
  pub own : (k : ℕ) → k < piece.end - piece.start →
      get_or bytes (piece.start + k) 0 ≡ own_byte request (BLOCK_LEN * block + (piece.from + k))

abbrev pub AllBring : ℕ → Request → List Content → List ℕ → List Piece → Type 0
AllBring ino request first bytes [] = Unit {0}
AllBring ino request first bytes (piece ∷ pieces) =
    Brings ino request first bytes piece × AllBring ino request first bytes pieces

abbrev pub AllLieWithin : ℕ → ℕ → List Piece → Type 0
AllLieWithin blocks bytes [] = Unit {0}
AllLieWithin blocks bytes (piece ∷ pieces) =
    LiesWithin blocks bytes piece × AllLieWithin blocks bytes pieces

-- byte k of the block at a place is in the piece's range
abbrev pub IsInPiece : Piece → ℕ → ℕ → Type 0
IsInPiece piece at k =
    (piece.at ≡ at) × (piece.from ≤ k) × (k < piece.from + (piece.end - piece.start))

abbrev pub SomeHas : List Piece → ℕ → ℕ → Type 0
SomeHas [] at k = ⊥
SomeHas (piece ∷ pieces) at k = IsInPiece piece at k ⊎ SomeHas pieces at k

-- each touched position that has a block is in a piece
abbrev pub AreAllOf : ℕ → Request → List Content → List Piece → Type 0
AreAllOf ino request first pieces =
    (at position : ℕ) → position / BLOCK_LEN < FILE_BLOCKS →
    IsFor ino (position / BLOCK_LEN) first at → Touches request 0 position →
    SomeHas pieces at (position % BLOCK_LEN)

abbrev pub AreFull : List (Seen BlockStep) → Type 0
AreFull blocks =
    (k : ℕ) → k < length blocks → length (content_of (seen_at blocks k)).bytes ≡ 4096

-- Once all its pieces are written and flushed, the bytes of the request stand.
abbrev pub PiecesHold : Type 0
PiecesHold =
    (ino : ℕ) (request : Request) (pieces : List Piece) (bytes : List ℕ)
    (blocks : List (Seen BlockStep)) → AreFull blocks →
    AllLieWithin (length blocks) (length bytes) pieces →
    AllBring ino request (map content_of blocks) bytes pieces →
    AreAllOf ino request (map content_of blocks) pieces →
    BlocksHold ino request
    (map content_of (with_flushes pieces (with_writes pieces bytes blocks)))
