-- A block in memory as the contracts of its own calls see it.
use Rattle.std.specs.Prelude.{ℕ, []}
use Rattle.cfs_pmem.specs.Images.{Seen}
use Rattle.cfs_block.specs.BlockImages.{BlockStep}
use Rattle.cfs_block.specs.declared.mem_block.MemBlock.{MemBlock}

abbrev pub seen_of : MemBlock → Seen BlockStep
seen_of block = record { device = block.device; also = []; history = block.history }

abbrev pub number_of : MemBlock → ℕ
number_of block = block.number

abbrev pub faults_of : MemBlock → ℕ
faults_of block = block.faults
