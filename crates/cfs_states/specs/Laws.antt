-- What states of stored files stand for.
use Rattle.std.specs.Prelude.{◌≡◌, List, []}
use Rattle.std.specs.List.{Contains}
use Rattle.cfs_pmem.specs.Images.{Seen, WordStep}
use Rattle.cfs_pmem.specs.Objects.{seen_at}
use Rattle.cfs_block.specs.BlockImages.{BlockStep}
use Rattle.cfs_core.specs.declared.inode_core.Core.{Core}
use Rattle.cfs_home.specs.Disks.{File}
use Rattle.cfs_inode.specs.New.{HasFile, stored_world}
use Rattle.cfs_inode.specs.Stands.{Together}
use Rattle.cfs_states.specs.Stored.{AreStored, bytes_in, loaded_view, mapped_in, size_word}

-- This core of which nothing is logged has the stored file, and the state stands for it on its
-- devices.
pub record StandsStored (file : File) (sizes : List (Seen WordStep))
    (blocks : List (Seen BlockStep)) (core : Core) : Type 0 where
  pub has : HasFile core (size_word sizes file.node) (mapped_in file.ino blocks)
  pub base : core.base ≡ bytes_in file sizes blocks
  pub together : Together (loaded_view sizes blocks file).state [] core
      (stored_world (seen_at sizes file.node) (mapped_in file.ino blocks))

-- Each stored file has such a core.
abbrev pub StoredStatesStand : Type 0
StoredStatesStand =
    (files : List File) (file : File) (sizes : List (Seen WordStep))
    (blocks : List (Seen BlockStep)) → AreStored files sizes blocks → Contains files file →
    (core : Core) × StandsStored file sizes blocks core
