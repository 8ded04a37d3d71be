-- A store that was brought home.
use Rattle.std.specs.Prelude.{ℕ, List}
use Rattle.cfs_block.specs.BlockImages.{BlockStep}
use Rattle.cfs_home.specs.Disks.{Disk, File}
use Rattle.cfs_image.specs.Store.{IsStore}
use Rattle.cfs_pmem.specs.Images.{Seen, WordStep}
use Rattle.cfs_recover.specs.Begins.{Stands}
use Rattle.cfs_replay.specs.Plans.{IsBroughtHome}
use Rattle.cfs_store_words.specs.Held.{words_held}
use Rattle.cfs_mount.specs.Settled.{AreSettled}

-- Its regions hold, in every image, the tree of the words that its devices held before, and no gate
-- is open.
abbrev pub BroughtHomesAreSettled : Type 0
BroughtHomesAreSettled =
    (files : List File) (start first : Disk) (old new : List (Seen WordStep))
    (blocks_old blocks_new : List (Seen BlockStep)) (numbers_old numbers_new : List ℕ) →
    IsStore old blocks_old numbers_old → Stands files start first old blocks_old →
    IsStore new blocks_new numbers_new → IsBroughtHome files start first new blocks_new →
    AreSettled (words_held old blocks_old) new
