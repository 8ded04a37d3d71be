-- A tracker of a file of which nothing is pending.
use Rattle.std.specs.Prelude.{◌≡◌, ℕ, ◌<◌, true, None, [], length, get_or, replicate}
use Rattle.cfs_file.specs.declared.sizes.TheConstants.{FILE_BLOCKS}
use Rattle.cfs_core.specs.declared.flag.Flag.TheVariants as flags
use Rattle.cfs_core.specs.declared.inode_core.Core.{Core}
use Rattle.cfs_tracker.specs.declared.cell.Cell.TheVariants as kinds
use Rattle.cfs_tracker.specs.Cells.{cell_at}
use Rattle.cfs_tracker.specs.Follows.{CellStands}
use Rattle.cfs_tracker.specs.View.{TrackerView}

-- a stored file of that length, of which no block is brought in yet
abbrev pub stored_view : {S D B : Type 0} → ℕ → TrackerView S D B
stored_view stored = record {
  count = 0;
  long = stored;
  stored = stored;
  is_sure = true;
  entries = [];
  reads = [];
  cells = replicate FILE_BLOCKS kinds.Hole;
  doubt = None;
}

-- the view has the stored file of a fresh core, and its blocks
pub record IsLoaded {S D B : Type 0} (view : TrackerView S D B) (core : Core) : Type 0 where
  pub count : view.count ≡ 0
  pub long : view.long ≡ length core.base
  pub stored : view.stored ≡ length core.base
  pub entries : view.entries ≡ []
  pub reads : view.reads ≡ []
  pub many : length view.cells ≡ FILE_BLOCKS
  pub cells : (block : ℕ) → block < FILE_BLOCKS →
      CellStands (cell_at view.cells block) (get_or core.tags block flags.Off)
  pub doubt : view.doubt ≡ None
