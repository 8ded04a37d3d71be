-- The job that a state gives out.
use Rattle.std.specs.Prelude.{ℕ, ◌≡◌, false, Option, Some, None, List}
use Rattle.cfs_pmem.specs.Images.{Seen}
use Rattle.cfs_block.specs.BlockImages.{BlockStep}
use Rattle.cfs_job.specs.Views.{JobView, TileView}
use Rattle.cfs_tracker.specs.declared.cell.Cell.{Cell}
use Rattle.cfs_tracker.specs.declared.cell.Cell.TheVariants as kinds
use Rattle.cfs_tracker.specs.declared.pending.Pending.{Pending}
use Rattle.cfs_tracker.specs.Cells.{cell_at}
use Rattle.cfs_tracker.specs.Dispatch.{dispatched, waiting_slots}
use Rattle.cfs_tracker.specs.View.{entry_at}
use Rattle.cfs_inode.specs.View.{Held, StateView}

-- a block that was at home, to which nothing was done
pub record IsTile (cells : List (Cell (Seen BlockStep))) (block : ℕ) (tile : TileView) : Type 0 where
  pub at : tile.at ≡ block
  pub home : cell_at cells block ≡ kinds.Home tile.seen
  pub taken : tile.taken ≡ tile.seen
  pub written : tile.written ≡ false
  pub flushed : tile.flushed ≡ false

abbrev pub AreTile : List (Cell (Seen BlockStep)) → Option ℕ → Option TileView → Type 0
AreTile cells None None = Unit {0}
AreTile cells None (Some tile) = ⊥
AreTile cells (Some block) None = ⊥
AreTile cells (Some block) (Some tile) = IsTile cells block tile

-- The job has the slots of the change that waits at the place, its span, and these blocks.
pub record IsGiven (state : StateView) (place : ℕ) (first second : Option ℕ)
    (entry : Pending Held) (job : JobView) : Type 0 where
  pub there : entry_at state.tracker.entries place ≡ Some entry
  pub held : Held
  pub slots : waiting_slots (entry_at state.tracker.entries place) ≡ Some held
  pub ino_is : job.ino ≡ state.ino
  pub place_is : job.place ≡ place
  pub span_is : job.span ≡ entry.span
  pub slots_are : job.slots ≡ held.slots
  pub first_is : AreTile state.tracker.cells first job.first
  pub second_is : AreTile state.tracker.cells second job.second

abbrev pub with_dispatched : ℕ → Option ℕ → Option ℕ → StateView → StateView
with_dispatched place first second state =
    record state { tracker = dispatched place first second state.tracker }
