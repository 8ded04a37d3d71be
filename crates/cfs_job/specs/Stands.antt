-- What a job is given, and what its blocks keep.
use Rattle.std.specs.Prelude.{ℕ, ◌≡◌, Bool, true, false, ◌&&◌, Option, Some, None, List, [], ◌∷◌}
use Rattle.std.specs.Prelude.{take, drop, is_some, length, nat_lt}
use Rattle.cfs_file.specs.Span.{meets, span}
use Rattle.cfs_file.specs.declared.sizes.TheConstants.{BLOCK_LEN, FILE_BLOCKS}
use Rattle.cfs_file.specs.declared.span.Span.{Span}
use Rattle.cfs_core.specs.Words.{block_span, piece_in}
use Rattle.cfs_pmem.specs.Images.{Seen, WordStep, IsImage}
use Rattle.cfs_block.specs.BlockImages.{Content, AllBlockImages, IsRangedFrom, content_of}
use Rattle.cfs_slot.specs.Words.{gate_of}
use Rattle.cfs_job.specs.Ops.{count_in, place_in}
use Rattle.cfs_job.specs.Views.{TileView, payload_seen, request_seen}

-- these are the positions of the request in the slots
abbrev pub IsSpanOf : Span → List (Seen WordStep) → Type 0
IsSpanOf positions slots = positions ≡ span (request_seen slots) 0

-- they are where there is a block
abbrev pub IsSpanFor : {A : Type 0} → Option A → Span → List (Seen WordStep) → Type 0
IsSpanFor block positions slots = is_some block ≡ true → IsSpanOf positions slots

-- a block of a file that has one of the positions
abbrev pub is_touched : Span → ℕ → Bool
is_touched positions at = nat_lt at FILE_BLOCKS && meets positions (block_span at)

abbrev pub is_touched_by : Span → Option TileView → Bool
is_touched_by positions None = false
is_touched_by positions (Some tile) = is_touched positions tile.at

-- The blocks of a job are such blocks, the first below the second, and there is a second one only
-- beside a first.
abbrev pub are_touched : Span → Option TileView → Option TileView → Bool
are_touched positions None None = true
are_touched positions None (Some second) = false
are_touched positions (Some first) None = is_touched positions first.at
are_touched positions (Some first) (Some second) =
    is_touched positions first.at
    && (is_touched positions second.at && nat_lt first.at second.at)

-- the request's gate is open in every image, with this place
abbrev pub IsOpen : List (Seen WordStep) → ℕ → Type 0
IsOpen [] place = ⊥
IsOpen (head ∷ tails) place = (image : List ℕ) → IsImage head.history image → gate_of image ≡ place

abbrev pub IsOpenFor : {A : Type 0} → Option A → List (Seen WordStep) → ℕ → Type 0
IsOpenFor None slots place = Unit {0}
IsOpenFor (Some block) slots place = IsOpen slots place

-- a block has the request's bytes at its positions
abbrev pub HasPiece : List ℕ → Span → ℕ → Content → Type 0
HasPiece payload positions at content =
    take (count_in positions at) (drop (place_in positions at) content.bytes)
    ≡ piece_in payload positions at

-- Each image of a block is one from when the job came by it, but for the request's own positions.
-- Once it was written these read as the request's bytes, and once it was flushed too they are its
-- bytes in each image.
pub record TileKeeps (payload : List ℕ) (positions : Span) (tile : TileView) : Type 0 where
  pub others : AllBlockImages tile.seen
      (IsRangedFrom tile.taken (place_in positions tile.at) (count_in positions tile.at))
  pub order : tile.flushed ≡ true → tile.written ≡ true
  pub written : tile.written ≡ true → HasPiece payload positions tile.at (content_of tile.seen)
  pub flushed : tile.flushed ≡ true →
      AllBlockImages tile.seen (HasPiece payload positions tile.at)

abbrev pub Keeps : List ℕ → Span → Option TileView → Type 0
Keeps payload positions None = Unit {0}
Keeps payload positions (Some tile) = TileKeeps payload positions tile

-- The blocks are some of those that the span touches; where there is one, the span is that of the
-- request in these slots, and the gate is open in every image; and each keeps what is said above.
pub record IsSound (slots : List (Seen WordStep)) (place : ℕ) (positions : Span)
    (first second : Option TileView) : Type 0 where
  pub spans : IsSpanFor first positions slots
  pub touched : are_touched positions first second ≡ true
  pub opened : IsOpenFor first slots place
  pub of_first : Keeps (payload_seen slots) positions first
  pub of_second : Keeps (payload_seen slots) positions second

-- Each image of a block is one from when the job came by it, but for the request's own positions.
abbrev pub StaysOutside : Span → Option TileView → Type 0
StaysOutside positions None = Unit {0}
StaysOutside positions (Some tile) =
    AllBlockImages tile.seen (λ image. ∥ IsRangedFrom tile.taken (place_in positions tile.at)
    (count_in positions tile.at) image ∥₁)

-- a block has all of its bytes
abbrev pub IsFull : Option TileView → Type 0
IsFull None = Unit {0}
IsFull (Some tile) = length (content_of tile.seen).bytes ≡ BLOCK_LEN

-- each image of a block has the request's bytes at its positions
abbrev pub IsDurable : List ℕ → Span → Option TileView → Type 0
IsDurable payload positions None = Unit {0}
IsDurable payload positions (Some tile) =
    AllBlockImages tile.seen (HasPiece payload positions tile.at)

-- Where a block was written its bytes read so, and only what was written was flushed.
pub record ReadsSo (payload : List ℕ) (positions : Span) (tile : TileView) : Type 0 where
  pub order : tile.flushed ≡ true → tile.written ≡ true
  pub reads : tile.written ≡ true → HasPiece payload positions tile.at (content_of tile.seen)

abbrev pub ReadsAsNoted : List ℕ → Span → Option TileView → Type 0
ReadsAsNoted payload positions None = Unit {0}
ReadsAsNoted payload positions (Some tile) = ReadsSo payload positions tile
