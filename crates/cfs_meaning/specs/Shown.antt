-- A drive whose power and one of whose devices are real, and calls on that device.
use Rattle.std.specs.Prelude.{◌≡◌, ℕ, ◌+◌, ◌<◌, List, length, set, Result, is_ok}
use Rattle.cfs_pmem.specs.declared.trace.Asked.{Asked}
use Rattle.cfs_pmem.specs.Images.{Seen, WordStep}
use Rattle.cfs_pmem.specs.WordOps.{WordOp}
use Rattle.cfs_block.specs.BlockImages.{BlockStep}
use Rattle.cfs_block.specs.BlockOps.{BlockOp}
use Rattle.cfs_meaning.specs.Drive.{Drive, attempt, block_at, on_block, on_region, region_at}

-- the region at a place of the drive, which is its device number
pub record ShowsRegion (r : ℕ) (asked : List Asked) (seen : Seen WordStep)
    (drive : Drive) : Type 0 where
  pub asked_is : drive.asked ≡ asked
  pub within : r < length drive.regions
  pub seen_is : region_at drive r ≡ seen
  pub device : seen.device ≡ r

-- the block at a place, whose device number stands behind those of the regions
pub record ShowsBlock (b : ℕ) (asked : List Asked) (seen : Seen BlockStep)
    (drive : Drive) : Type 0 where
  pub asked_is : drive.asked ≡ asked
  pub within : b < length drive.blocks
  pub seen_is : block_at drive b ≡ seen
  pub device : seen.device ≡ length drive.regions + b

-- Of each drive that shows a region, a call attempts these operations: with the same end, and it
-- leaves the power and the region so, and all else as it was.
abbrev pub AttemptsWords : {T E : Type 0} → List WordOp → Result T E → List Asked → Seen WordStep
    → List Asked → Seen WordStep → Type 0
AttemptsWords ops result asked_old old asked_new new =
    (r : ℕ) (drive : Drive) → ShowsRegion r asked_old old drive →
    attempt (on_region r ops) drive ≡ record {
      whole = is_ok result;
      drive = record drive { asked = asked_new; regions = set drive.regions r new };
    }

abbrev pub AttemptsBlock : {T E : Type 0} → List BlockOp → Result T E → List Asked
    → Seen BlockStep → List Asked → Seen BlockStep → Type 0
AttemptsBlock ops result asked_old old asked_new new =
    (b : ℕ) (drive : Drive) → ShowsBlock b asked_old old drive →
    attempt (on_block b ops) drive ≡ record {
      whole = is_ok result;
      drive = record drive { asked = asked_new; blocks = set drive.blocks b new };
    }
