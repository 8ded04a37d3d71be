-- Stores that are only read.
use Rattle.std.specs.Prelude.{List}
use Rattle.cfs_pmem.specs.declared.trace.Asked.{Asked}
use Rattle.cfs_pmem.specs.Images.{Seen, WordStep}
use Rattle.cfs_block.specs.BlockImages.{BlockStep}
use Rattle.cfs_home.specs.Calls.{MountMoments}
use Rattle.cfs_home.specs.Disks.{Disk, File}
use Rattle.cfs_recover.specs.Begins.{Stands, both}
use Rattle.cfs_store_words.specs.Leaves.{LeavesStore}

-- A mount finds the files of `start` on the disk of a store. While no device is changed, it does so
-- at each moment, and behind these calls.
abbrev pub StillStoresStand : Type 0
StillStoresStand =
    (files : List File) (start first : Disk) (asked_old asked_new : List Asked)
    (regions_old regions_new : List (Seen WordStep))
    (blocks_old blocks_new : List (Seen BlockStep)) →
    Stands files start first regions_old blocks_old →
    LeavesStore asked_old (both regions_old blocks_old) asked_new (both regions_new blocks_new) →
    Stands files start first regions_new blocks_new
    × MountMoments files start asked_old (both regions_old blocks_old)
    asked_new (both regions_new blocks_new)
