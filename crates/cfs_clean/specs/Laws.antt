-- What holds of clean stores.
use Rattle.std.specs.Prelude.{ℕ, ◌≡◌, ◌≤◌, All, List, [], map, replicate}
use Rattle.std.specs.List.{range_with_len}
use Rattle.cfs_pmem.specs.Images.{IsSure, Seen, WordStep, words_of}
use Rattle.cfs_block.specs.BlockImages.{BlockStep, IsSureBlock, content_of}
use Rattle.cfs_home.specs.Disks.{Disk}
use Rattle.cfs_image.specs.Fresh.{new_content, new_words}
use Rattle.cfs_image.specs.Layout.{region_count}
use Rattle.cfs_image.specs.Store.{IsStore}
use Rattle.cfs_recover.specs.Begins.{Stands}
use Rattle.cfs_replay.specs.Plans.{disk_in}
use Rattle.cfs_restore.specs.Held.{files_held}
use Rattle.cfs_clean.specs.Clean.{IsCleanStore}

-- the devices hold what those of a new store do, of so many blocks and queues
pub record HoldNew (count queues : ℕ) (regions : List (Seen WordStep))
    (blocks : List (Seen BlockStep)) : Type 0 where
  pub most_blocks : count ≤ 16384
  pub most_queues : queues ≤ 64
  pub words : map words_of regions ≡ map new_words (range_with_len 0 (region_count queues))
  pub contents : map content_of blocks ≡ replicate count new_content

abbrev pub NewStoresAreClean : Type 0
NewStoresAreClean =
    (count queues : ℕ) (regions : List (Seen WordStep)) (blocks : List (Seen BlockStep)) →
    HoldNew count queues regions blocks → IsCleanStore regions blocks

-- a store of objects of one device each, and each holds the only thing that a crash leaves of it
pub record IsSureStore (regions : List (Seen WordStep)) (blocks : List (Seen BlockStep))
    (numbers : List ℕ) : Type 0 where
  pub store : IsStore regions blocks numbers
  pub alone : All (λ seen. seen.also ≡ []) regions
  pub blocks_alone : All (λ seen. seen.also ≡ []) blocks
  pub sure : All IsSure regions
  pub blocks_sure : All IsSureBlock blocks

-- a mount finds the files of the disk that is read now, on this disk and no other
abbrev pub StandsNow : List (Seen WordStep) → List (Seen BlockStep) → Disk → Type 0
StandsNow regions blocks now =
    Stands (files_held regions blocks) now now regions blocks

abbrev pub CleanStoresStand : Type 0
CleanStoresStand =
    (regions : List (Seen WordStep)) (blocks : List (Seen BlockStep)) (numbers : List ℕ) →
    IsSureStore regions blocks numbers → IsCleanStore regions blocks →
    StandsNow regions blocks (disk_in regions blocks)
