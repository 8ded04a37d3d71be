-- The parts of a request in blocks, and calls that write and flush them.
use Rattle.std.specs.Prelude.{ℕ, ◌+◌, ◌-◌, ◌<◌, ◌≤◌, List, [], ◌∷◌, length, take, drop, get_or, set}
use Rattle.cfs_file.specs.declared.request.Request.{Request}
use Rattle.cfs_pmem.specs.declared.trace.Asked.{Asked}
use Rattle.cfs_pmem.specs.Images.{Seen}
use Rattle.cfs_pmem.specs.Objects.{IsEachImage, MomentsOf, seen_at}
use Rattle.cfs_block.specs.BlockImages.{BlockStep, Content, IsBlockImage, kept, wrote}
use Rattle.cfs_home.specs.Calls.{IsPiece}
use Rattle.cfs_home.specs.Disks.{BlocksBeside}
use Rattle.cfs_recover.specs.declared.piece.Piece.{Piece}

-- There is such a block, the request has these bytes, and they fit the block.
pub record LiesWithin (blocks bytes : ℕ) (piece : Piece) : Type 0 where
  pub at : piece.at < blocks
  pub start : piece.start ≤ piece.end
  pub «end» : piece.end ≤ bytes
  pub fits : piece.from + (piece.end - piece.start) ≤ 4096

-- Of each piece the request touches its range.
abbrev pub ArePieces : ℕ → Request → List Content → List Piece → Type 0
ArePieces ino request first pieces =
    (k : ℕ) (d : Piece) → k < length pieces →
    IsPiece ino request first (get_or pieces k d).at (get_or pieces k d).from
    ((get_or pieces k d).end - (get_or pieces k d).start)

-- its bytes, among those of the request
abbrev pub bytes_of : Piece → List ℕ → List ℕ
bytes_of piece bytes = take (piece.end - piece.start) (drop piece.start bytes)

-- ---- the blocks behind a call

abbrev pub with_write : ℕ → ℕ → List ℕ → List (Seen BlockStep) → List (Seen BlockStep)
with_write at from bytes blocks = set blocks at (wrote from bytes (seen_at blocks at))

abbrev pub with_flush : ℕ → List (Seen BlockStep) → List (Seen BlockStep)
with_flush at blocks = set blocks at (kept (seen_at blocks at))

-- each piece is written, and each one's block is flushed, in their order
abbrev pub with_writes : List Piece → List ℕ → List (Seen BlockStep) → List (Seen BlockStep)
with_writes [] bytes blocks = blocks
with_writes (piece ∷ pieces) bytes blocks =
    with_writes pieces bytes (with_write piece.at piece.from (bytes_of piece bytes) blocks)

abbrev pub with_flushes : List Piece → List (Seen BlockStep) → List (Seen BlockStep)
with_flushes [] blocks = blocks
with_flushes (piece ∷ pieces) blocks = with_flushes pieces (with_flush piece.at blocks)

-- each piece is written and its block flushed, before the next one is written
abbrev pub with_writes_through : List Piece → List ℕ → List (Seen BlockStep) →
    List (Seen BlockStep)
with_writes_through [] bytes blocks = blocks
with_writes_through (piece ∷ pieces) bytes blocks =
    with_writes_through pieces bytes
    (with_flush piece.at (with_write piece.at piece.from (bytes_of piece bytes) blocks))

-- ---- what a crash leaves

-- Where a crash leaves the blocks as they may be while the request is written, it does so at each
-- moment of the call.
abbrev pub LeavesBeside : ℕ → Request → List Content → List Asked → List (Seen BlockStep) →
    List Asked → List (Seen BlockStep) → Type 0
LeavesBeside ino request first asked_old old asked_new new =
    ((contents : List Content) → IsEachImage IsBlockImage old contents →
    BlocksBeside ino request first contents) →
    MomentsOf IsBlockImage (λ contents. BlocksBeside ino request first contents)
    asked_old old asked_new new
