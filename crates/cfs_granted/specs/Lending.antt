-- Blocks that are with jobs.
use Rattle.std.specs.Prelude.{ℕ, ◌≡◌, ◌==◌, ◌||◌, Bool, true, false, Option, Some, None}
use Rattle.std.specs.List.{list_any}
use Rattle.cfs_job.specs.Views.{JobView, TileView}
use Rattle.cfs_tracker.specs.declared.cell.Cell.TheVariants as kinds
use Rattle.cfs_tracker.specs.Cells.{cell_at}
use Rattle.cfs_active.specs.View.{ActiveView}

-- it is this block of the file
abbrev pub is_tile : ℕ → Option TileView → Bool
is_tile block None = false
is_tile block (Some tile) = tile.at == block

-- the job has the block
abbrev pub holds : ℕ → JobView → Bool
holds block job = is_tile block job.first || is_tile block job.second

-- each block of the file that is lent is with a job that is out
pub record IsWithJobs (active : ActiveView) : Type 0 where
  pub each : (block place : ℕ) →
      cell_at active.state.tracker.cells block ≡ kinds.Lent place →
      list_any (λ j. holds block j) active.jobs ≡ true
