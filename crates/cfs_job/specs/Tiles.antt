-- The blocks of a job as its structs hold them.
use Rattle.std.specs.Prelude.{ℕ, false, Option, Some, None}
use Rattle.cfs_pmem.specs.Images.{Seen}
use Rattle.cfs_block.specs.BlockImages.{BlockStep}
use Rattle.cfs_job.specs.declared.lent.Lent.{Lent}
use Rattle.cfs_job.specs.declared.tile.Tile.{Tile}
use Rattle.cfs_job.specs.Views.{TileView}

-- one that a job has, where `seen` and `number` tell what a block is
abbrev pub tile_view : {B : Type 0} → (B → Seen BlockStep) → (B → ℕ) → Tile B → TileView
tile_view seen number tile = record {
  at = tile.at;
  number = number tile.block;
  taken = seen tile.taken.value;
  seen = seen tile.block;
  written = tile.written;
  flushed = tile.flushed;
}

abbrev pub tile_in : {B : Type 0} → (B → Seen BlockStep) → (B → ℕ) → Option (Tile B)
    → Option TileView
tile_in seen number None = None
tile_in seen number (Some tile) = Some (tile_view seen number tile)

-- one that a job is given: nothing was done to it
abbrev pub tile_of : {B : Type 0} → (B → Seen BlockStep) → (B → ℕ) → Option (Lent B)
    → Option TileView
tile_of seen number None = None
tile_of seen number (Some lent) = Some (record {
  at = lent.at;
  number = number lent.block;
  taken = seen lent.block;
  seen = seen lent.block;
  written = false;
  flushed = false;
})

-- the block as it is, with its number in the file
abbrev pub lent_in : {B : Type 0} → Option (Tile B) → Option (Lent B)
lent_in None = None
lent_in (Some tile) = Some (record { at = tile.at; block = tile.block })
