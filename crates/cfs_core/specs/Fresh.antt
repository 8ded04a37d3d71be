-- The cores that a run begins with.
use Rattle.std.specs.Prelude.{◌≡◌, ℕ, ◌/◌, Bool, true, false, None, [], length, get_or}
use Rattle.std.specs.List.{list_all}
use Rattle.cfs_file.specs.File.{IsFile}
use Rattle.cfs_file.specs.declared.sizes.TheConstants.{BLOCK_LEN, FILE_BLOCKS}
use Rattle.cfs_core.specs.declared.flag.Flag.{Flag}
use Rattle.cfs_core.specs.declared.flag.Flag.TheVariants.{Off, Unsure}
use Rattle.cfs_core.specs.declared.inode_core.Core.{Core}
use Rattle.cfs_core.specs.Words.{is_off}
use Rattle.cfs_core.specs.Medium.{rests}

-- an empty file, of which nothing is stored and no block is mapped
pub record IsEmpty (core : Core) : Type 0 where
  pub base : core.base ≡ []
  pub log : core.log ≡ []
  pub tracks : core.tracks ≡ []
  pub doubt : core.doubt ≡ None
  pub size : core.size ≡ 0
  pub sizes : core.sizes ≡ []
  pub blocks : length core.tags ≡ FILE_BLOCKS
  pub tags : list_all is_off core.tags ≡ true
  pub bytes : core.bytes ≡ []
  pub loose : core.loose ≡ []
  pub up : core.crashed ≡ false

-- one value in every image
abbrev pub is_sure : Flag → Bool
is_sure Unsure = false
is_sure _ = true

-- Nothing is logged, in doubt or unflushed, no tag is unsure, and in every image the base is the
-- stored file, with 0 behind its end. Where no block is tagged, no byte stands.
pub record IsFresh (core : Core) : Type 0 where
  pub fits : IsFile core.base
  pub log : core.log ≡ []
  pub tracks : core.tracks ≡ []
  pub doubt : core.doubt ≡ None
  pub size : core.size ≡ length core.base
  pub sizes : core.sizes ≡ []
  pub blocks : length core.tags ≡ FILE_BLOCKS
  pub tags : list_all is_sure core.tags ≡ true
  pub bytes : (position : ℕ) → rests core position (get_or core.base position 0) ≡ true
  pub blank : (position : ℕ) → is_off (get_or core.tags (position / BLOCK_LEN) Off) ≡ true →
      get_or core.bytes position 0 ≡ 0
  pub loose : core.loose ≡ []
  pub up : core.crashed ≡ false
