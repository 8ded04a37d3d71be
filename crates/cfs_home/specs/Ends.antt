-- Where a mount ends.
use Rattle.std.specs.Prelude.{ℕ, ◌≡◌, ◌⊎◌, true, false, None, List, [], get_or, is_some, length}
use Rattle.std.specs.List.{Contains}
use Rattle.cfs_file.specs.declared.sizes.TheConstants.{FILE_BLOCKS}
use Rattle.cfs_core.specs.declared.flag.Flag.TheVariants.{Off}
use Rattle.cfs_core.specs.declared.inode_core.Core.{Core}
use Rattle.cfs_core.specs.Words.{flag_of}
use Rattle.cfs_slot.specs.Words.{gate_of, is_live}
use Rattle.cfs_medium.specs.Store.{block_for, byte_in}
use Rattle.cfs_home.specs.Disks.{Disk, File, part_of, stored_in}

-- no entry of the file is live
abbrev pub IsDrained : File → Disk → Type 0
IsDrained file disk = (part_of file disk).entries ≡ []

abbrev pub AreDrained : List File → Disk → Type 0
AreDrained files disk = (file : File) → Contains files file → IsDrained file disk

-- the slot is closed, or a live entry of one of the files
abbrev pub IsClosedOrLive : List File → List ℕ → Type 0
IsClosedOrLive files words =
    (gate_of words ≡ 0)
    ⊎ ((file : File) × (Contains files file × (is_live file.ino words ≡ true)))

-- A core of the file, of which nothing is pending: it has what is stored, as it is stored.
pub record IsLoaded (file : File) (disk : Disk) (core : Core) : Type 0 where
  pub base : core.base ≡ stored_in file disk
  pub log : core.log ≡ []
  pub tracks : core.tracks ≡ []
  pub doubt : core.doubt ≡ None
  pub size : core.size ≡ disk.sizes file.node
  pub sizes : core.sizes ≡ []
  pub blocks : length core.tags ≡ FILE_BLOCKS
  -- the tag of each block is known
  pub tags : (block : ℕ) →
      get_or core.tags block Off ≡ flag_of (is_some (block_for file.ino block disk.blocks))
  pub bytes : (position : ℕ) →
      get_or core.bytes position 0 ≡ byte_in file.ino disk.blocks position
  pub loose : core.loose ≡ []
  pub up : core.crashed ≡ false
