-- What a mount finds when it takes up a live entry.
use Rattle.std.specs.Prelude.{ℕ, List}
use Rattle.std.specs.List.{Contains}
use Rattle.cfs_file.specs.declared.request.Request.{Request}
use Rattle.cfs_pmem.specs.AllMoments.{AreDistinct}
use Rattle.cfs_pmem.specs.Images.{Seen, WordStep}
use Rattle.cfs_block.specs.BlockImages.{BlockStep}
use Rattle.cfs_block.specs.Devices.{Devices, numbers_of}
use Rattle.cfs_home.specs.Calls.{HaveBlocksOf, HaveWordsOf}
use Rattle.cfs_home.specs.Disks.{AllStay, AreFiles, Disk, File, IsLowest}

abbrev pub both : List (Seen WordStep) → List (Seen BlockStep) → Devices
both regions blocks = record { regions = regions; blocks = blocks }

-- A mount finds the files of `start` on this disk, and a crash leaves no other disk of these
-- regions and blocks.
pub record Stands (files : List File) (start now : Disk) (regions : List (Seen WordStep))
    (blocks : List (Seen BlockStep)) : Type 0 where
  pub are : AreFiles files
  pub stay : AllStay files start now
  pub words : HaveWordsOf now regions
  pub blocks_are : HaveBlocksOf now blocks
  pub distinct : AreDistinct (numbers_of (both regions blocks))

-- So it is, and the entry is the lowest one of its file there.
pub record Begins (files : List File) (file : File) (at : ℕ) (entry : ℕ × Request)
    (rest : List (ℕ × Request)) (start first : Disk) (regions : List (Seen WordStep))
    (blocks : List (Seen BlockStep)) : Type 0 where
  pub stands : Stands files start first regions blocks
  pub among : Contains files file
  pub low : IsLowest file at entry rest first
