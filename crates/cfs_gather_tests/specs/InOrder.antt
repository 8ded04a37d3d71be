-- Devices that stand as a store has them.
use Rattle.std.specs.Prelude.{ℕ, ◌≡◌, List, length, map}
use Rattle.std.specs.List.{range_with_len}
use Rattle.cfs_active.specs.Memory.{words_seen}
use Rattle.cfs_block.specs.MemoryBlocks.{number_of, seen_of}
use Rattle.cfs_block.specs.declared.mem_block.MemBlock.{MemBlock}
use Rattle.cfs_image.specs.Layout.{region_words}
use Rattle.cfs_pmem.specs.Images.{MemoryRegion, words_of}

abbrev pub device_of : MemoryRegion → ℕ
device_of region = (words_seen region).device

abbrev pub size_of : MemoryRegion → ℕ
size_of region = length (words_of (words_seen region))

abbrev pub block_device_of : MemBlock → ℕ
block_device_of block = (seen_of block).device

-- a function of the elements is one of the numbers from one on
abbrev pub Follows : {X : Type 0} → (X → ℕ) → (ℕ → ℕ) → ℕ → List X → Type 0
Follows f g from xs = map f xs ≡ map g (range_with_len from (length xs))

-- regions with the numbers from 0 on, and the sizes of these
pub record AreRegionsInOrder (regions : List MemoryRegion) : Type 0 where
  pub devices : Follows device_of (λ number. number) 0 regions
  pub sizes : Follows size_of region_words 0 regions

-- blocks with the device numbers behind 339 regions, and their own from 0 on
pub record AreBlocksInOrder (blocks : List MemBlock) : Type 0 where
  pub devices : Follows block_device_of (λ number. number) 339 blocks
  pub numbers : Follows number_of (λ number. number) 0 blocks
