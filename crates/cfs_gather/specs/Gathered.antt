-- What is gathered, as it is seen.
use Rattle.std.specs.Prelude.{ℕ, List, map}
use Rattle.cfs_pmem.specs.Images.{MemoryRegion, Seen, WordStep}
use Rattle.cfs_block.specs.BlockImages.{BlockStep}
use Rattle.cfs_block.specs.MemoryBlocks.{seen_of}
use Rattle.cfs_block.specs.declared.mem_block.MemBlock.{MemBlock}
use Rattle.cfs_active.specs.Memory.{words_seen}
use Rattle.cfs_gather.specs.declared.gathered.Gathered.{Gathered}

abbrev pub words_in : Gathered → List (Seen WordStep)
words_in gathered = map words_seen gathered.regions.items

abbrev pub bytes_in : Gathered → List (Seen BlockStep)
bytes_in gathered = map seen_of gathered.blocks.items

-- the device numbers that they are sorted by

abbrev pub region_device : MemoryRegion → ℕ
region_device region = (words_seen region).device

abbrev pub block_device : MemBlock → ℕ
block_device block = (seen_of block).device
