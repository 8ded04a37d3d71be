-- A job and its blocks as plain data.
use Rattle.std.specs.Prelude.{ℕ, Bool, false, Option, Some, None, List, [], ◌∷◌, map}
use Rattle.cfs_file.specs.declared.request.Request.{Request}
use Rattle.cfs_file.specs.declared.request.Request.TheVariants.{Sync}
use Rattle.cfs_file.specs.declared.span.Span.{Span}
use Rattle.cfs_pmem.specs.Images.{Seen, WordStep, words_of}
use Rattle.cfs_block.specs.BlockImages.{BlockStep}
use Rattle.cfs_slot.specs.Words.{payload_of, request_of}

-- A block that a job has: its number in the file and among the blocks of the store, the block as it
-- was when the job came by it and as it is, and what the job has done to it.
pub record TileView : Type 0 where
  pub at : ℕ
  pub number : ℕ
  pub taken : Seen BlockStep
  pub seen : Seen BlockStep
  pub written : Bool
  pub flushed : Bool

-- The inode and the place of the request, its positions, its slots, the head first, and the blocks.
pub record JobView : Type 0 where
  pub ino : ℕ
  pub place : ℕ
  pub span : Span
  pub slots : List (Seen WordStep)
  pub first : Option TileView
  pub second : Option TileView

-- What slots hold, the head first: the bytes of the request, and the request.

abbrev pub payload_seen : List (Seen WordStep) → List ℕ
payload_seen [] = []
payload_seen (head ∷ tails) = payload_of (words_of head) (map words_of tails)

abbrev pub request_seen : List (Seen WordStep) → Request
request_seen [] = Sync
request_seen (head ∷ tails) = request_of (words_of head) (map words_of tails)

-- A job of the same slots and blocks that has made no step.

abbrev pub anew_tile : Option TileView → Option TileView
anew_tile None = None
anew_tile (Some tile) = Some (record tile { taken = tile.seen; written = false; flushed = false })

abbrev pub anew : JobView → JobView
anew job = record job { first = anew_tile job.first; second = anew_tile job.second }
