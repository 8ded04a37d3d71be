-- The lengths of a core's lists, and where the request in doubt stands.
use Rattle.std.specs.Prelude.{◌≡◌, ℕ, ◌+◌, ◌≤◌, false, Some, length}
use Rattle.cfs_file.specs.declared.sizes.TheConstants.{FILE_BLOCKS}
use Rattle.cfs_core.specs.declared.doubt.Doubt.{Doubt}
use Rattle.cfs_core.specs.declared.flag.Flag.TheVariants.{Off, Unsure}
use Rattle.cfs_core.specs.declared.inode_core.Core.{Core}
use Rattle.cfs_core.specs.Words.{is_live, track}

-- of the request in doubt
pub record IsInStep (core : Core) (doubt : Doubt) : Type 0 where
  -- its number is a place of the log or the next one
  pub from : 1 ≤ doubt.entry.place
  pub to : doubt.entry.place ≤ length core.log + 1
  -- until a crash nobody knows its gate
  pub gate : core.crashed ≡ false → doubt.gate ≡ Unsure
  -- what was logged since is no change and has no slot
  pub since : (place : ℕ) → doubt.entry.place ≤ place → (track core.tracks place).gate ≡ Off
  pub quiet : (place : ℕ) → doubt.entry.place ≤ place →
      is_live (track core.tracks place).state ≡ false

pub record AreInStep (core : Core) : Type 0 where
  pub tags : length core.tags ≡ FILE_BLOCKS
  pub tracks : length core.tracks ≡ length core.log
  pub doubt : (doubt : Doubt) → core.doubt ≡ Some doubt → IsInStep core doubt
