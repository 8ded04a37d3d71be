-- The drive that a meter and a store in memory are.
use Rattle.std.specs.Prelude.{◌≡◌, List, map}
use Rattle.cfs_pmem.specs.declared.trace.Asked.{Asked}
use Rattle.cfs_pmem.specs.Images.{MemoryRegion}
use Rattle.cfs_block.specs.declared.mem_block.MemBlock.{MemBlock}
use Rattle.cfs_block.specs.MemoryBlocks.{seen_of}
use Rattle.cfs_meaning.specs.Drive.{Drive}

abbrev pub drive_of : List Asked → List MemoryRegion → List MemBlock → Drive
drive_of asked regions blocks = record {
  asked = asked;
  regions = map (λ region. region.seen) regions;
  blocks = map seen_of blocks;
}

-- What a call on the power does to each drive with that power, whatever its devices are.
abbrev pub ChangesPower : (Drive → Drive) → List Asked → List Asked → Type 0
ChangesPower change old new =
    (drive : Drive) → drive.asked ≡ old → change drive ≡ record drive { asked = new }
