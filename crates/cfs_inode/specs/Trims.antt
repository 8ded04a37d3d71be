-- Blocks past the stored size are given up.
use Rattle.std.specs.Prelude.{ℕ, ◌≡◌, Bool, true, false, Option, Some, None, Ok, Err, List, [], ◌∷◌}
use Rattle.cfs_core.specs.declared.event.Event.{Event}
use Rattle.cfs_core.specs.declared.event.Event.TheVariants as events
use Rattle.cfs_pmem.specs.declared.trace.Asked.{Asked}
use Rattle.cfs_pmem.specs.Images.{Seen}
use Rattle.cfs_block.specs.BlockImages.{BlockStep}
use Rattle.cfs_block.specs.BlockOps.{SetsTag}
use Rattle.cfs_tracker.specs.declared.cell.Cell.{Cell}
use Rattle.cfs_tracker.specs.declared.cell.Cell.TheVariants as kinds
use Rattle.cfs_tracker.specs.Cells.{cell_at, held_in, with_cell}
use Rattle.cfs_tracker.specs.Trim.{next_trim}
use Rattle.cfs_inode.specs.declared.trim_answer.TrimAnswer.{TrimAnswer}
use Rattle.cfs_inode.specs.declared.trim_answer.TrimAnswer.TheVariants as answers
use Rattle.cfs_inode.specs.Makes.{CallMakes}
use Rattle.cfs_inode.specs.View.{StateView}

-- the answer as plain data
pub data TrimEnd : Type 0 where
  freed : (block : Seen BlockStep) → TrimEnd
  nothing : TrimEnd
  failed : TrimEnd

abbrev pub trim_end : {B : Type 0} {g : _} → (B → Seen BlockStep) → TrimAnswer B g → TrimEnd
trim_end seen (answers.Freed free) = freed (seen free.block)
trim_end seen answers.Nothing = nothing
trim_end seen answers.Failed = failed

-- the block that is kept for a block of the file
abbrev pub block_at : StateView → ℕ → Option (Seen BlockStep)
block_at state block = held_in (cell_at state.tracker.cells block)

-- what is kept for a block of the file is this
abbrev pub with_block_cell : ℕ → Cell (Seen BlockStep) → StateView → StateView
with_block_cell block cell state =
    record state { tracker = with_cell block cell state.tracker }

-- What `trim` leaves: where no block is past the stored size, all as it was. Else the tag of the
-- lowest such one is taken away and it is given up; or that failed, and it is kept as the device
-- calls left it, with a tag that is unsure.
abbrev pub Trims : Bool → Bool → TrimEnd → List Asked → StateView → List Asked → StateView → Type 0
Trims obeys keeps (freed now) asked_old old asked_new new =
    (block : ℕ) × (was : Seen BlockStep) × (next_trim old.tracker ≡ Some block)
    × ((block_at old block ≡ Some was)
    × (SetsTag {T = Unit {0}} {E = Unit {0}} obeys keeps 0 (Ok tt) asked_old was asked_new now
    × (new ≡ with_block_cell block kinds.Hole old)))
Trims obeys keeps nothing asked_old old asked_new new =
    (next_trim old.tracker ≡ None) × ((asked_new ≡ asked_old) × (new ≡ old))
Trims obeys keeps failed asked_old old asked_new new =
    (block : ℕ) × (was now : Seen BlockStep) × (next_trim old.tracker ≡ Some block)
    × ((block_at old block ≡ Some was)
    × (SetsTag {T = Unit {0}} {E = Unit {0}} obeys keeps 0 (Err tt) asked_old was asked_new now
    × (new ≡ with_block_cell block (kinds.Unsure now) old)))

abbrev pub trim_events : Option ℕ → TrimEnd → List Event
trim_events None end = []
trim_events (Some block) (freed now) = events.Trim block true ∷ []
trim_events (Some block) nothing = []
trim_events (Some block) failed = events.Trim block false ∷ []

-- the call is the trim of the lowest such block
abbrev pub TrimMakes : TrimEnd → List Asked → StateView → List Asked → StateView → Type 0
TrimMakes end asked_old old asked_new new =
    CallMakes (trim_events (next_trim old.tracker) end) asked_old old asked_new new
