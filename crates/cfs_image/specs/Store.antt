-- Which regions and blocks a store has.
use Rattle.std.specs.Prelude.{ℕ, ◌≤◌, ◌≡◌, List, length, map}
use Rattle.std.specs.List.{range_with_len}
use Rattle.cfs_pmem.specs.Images.{Seen, WordStep, words_of}
use Rattle.cfs_block.specs.BlockImages.{BlockStep}
use Rattle.cfs_image.specs.Layout.{queues_of, region_count, region_words}

-- so many regions and blocks are a store
pub record IsSized (regions blocks : ℕ) : Type 0 where
  pub whole_queues : regions ≡ region_count (queues_of regions)
  pub some_queue : 1 ≤ queues_of regions
  pub most_queues : queues_of regions ≤ 64
  pub fewest : 16 ≤ blocks
  pub most : blocks ≤ 16384

-- The regions and the blocks of a store, each in order, with the blocks' own numbers.
pub record IsStore (regions : List (Seen WordStep)) (blocks : List (Seen BlockStep))
    (numbers : List ℕ) : Type 0 where
  pub sized : IsSized (length regions) (length blocks)
  -- the regions have the device numbers from 0 on, and each its size
  pub devices : map (λ seen. seen.device) regions ≡ range_with_len 0 (length regions)
  pub sizes : map (λ seen. length (words_of seen)) regions ≡
      map region_words (range_with_len 0 (length regions))
  -- the blocks have the device numbers behind them, and their own from 0 on
  pub block_devices : map (λ seen. seen.device) blocks ≡
      range_with_len (length regions) (length blocks)
  pub own_numbers : numbers ≡ range_with_len 0 (length blocks)
