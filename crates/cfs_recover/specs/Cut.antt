-- How a request is cut into pieces.
use Rattle.std.specs.Prelude.{ℕ, ◌+◌, ◌-◌, ◌*◌, ◌/◌, ◌%◌, ◌<◌, ◌≡◌, List, length, max, min}
use Rattle.cfs_file.specs.declared.request.Request.TheVariants.{Truncate, Write}
use Rattle.cfs_file.specs.declared.sizes.TheConstants.{BLOCK_LEN, FILE_BLOCKS}
use Rattle.cfs_file.specs.Span.{Touches}
use Rattle.cfs_block.specs.BlockImages.{Content}
use Rattle.cfs_medium.specs.Depicts.{IsFor}
use Rattle.cfs_home.specs.Calls.{IsPiece}
use Rattle.cfs_recover.specs.declared.piece.Piece.{Piece}
use Rattle.cfs_recover.specs.declared.blocks.TheConstants.{ZEROS}
use Rattle.cfs_recover.specs.Held.{Brings, IsInPiece}

-- The part of a write of `len` bytes that is for a file block, in the block at a place.
abbrev pub piece_in : ℕ → ℕ → ℕ → ℕ → Piece
piece_in at block offset len = record {
  at = at;
  from = max offset (4096 * block) - 4096 * block;
  start = max offset (4096 * block) - offset;
  end = min (offset + len) (4096 * block + 4096) - offset;
}

-- and that of a truncate to n
abbrev pub zeros_in : ℕ → ℕ → ℕ → Piece
zeros_in at block n = record {
  at = at;
  from = max n (4096 * block) - 4096 * block;
  start = 0;
  end = 4096 * block + 4096 - max n (4096 * block);
}

-- The part of a write for a block that it touches brings its bytes there, and has each position of
-- the block that the write touches.
abbrev pub WritesAreCut : Type 0
WritesAreCut =
    (ino offset : ℕ) (bytes : List ℕ) (first : List Content) (at block : ℕ) →
    block < FILE_BLOCKS → IsFor ino block first at → offset < 4096 * block + 4096 →
    4096 * block < offset + length bytes →
    IsPiece ino (Write offset bytes) first at (piece_in at block offset (length bytes)).from
    ((piece_in at block offset (length bytes)).end
    - (piece_in at block offset (length bytes)).start)
    × (Brings ino (Write offset bytes) first bytes (piece_in at block offset (length bytes))
    × ((position : ℕ) → position / BLOCK_LEN ≡ block → Touches (Write offset bytes) 0 position →
    IsInPiece (piece_in at block offset (length bytes)) at (position % BLOCK_LEN)))

-- So it is of a truncate, whose bytes are zeros.
abbrev pub TruncatesAreCut : Type 0
TruncatesAreCut =
    (ino n : ℕ) (first : List Content) (at block : ℕ) → block < FILE_BLOCKS →
    IsFor ino block first at → n < 4096 * block + 4096 →
    IsPiece ino (Truncate n) first at (zeros_in at block n).from
    ((zeros_in at block n).end - (zeros_in at block n).start)
    × (Brings ino (Truncate n) first ZEROS (zeros_in at block n)
    × ((position : ℕ) → position / BLOCK_LEN ≡ block → Touches (Truncate n) 0 position →
    IsInPiece (zeros_in at block n) at (position % BLOCK_LEN)))
