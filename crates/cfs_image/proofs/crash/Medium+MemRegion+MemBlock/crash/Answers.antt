use Rattle.std.proofs.Common.{map}
use Rattle.cfs_pmem.specs.Images.{MemoryRegion}
use Rattle.cfs_block.specs.MemoryBlocks.{seen_of, number_of}
use Rattle.cfs_image.proofs.Crashing.{store_left}
use Rattle.cfs_image.proofs.crash.Medium+MemRegion+MemBlock.crash.Goals as goal

pub invariant_of-self : goal.invariant_of-self
invariant_of-self c = record {
  store =
      store_left c.args.pick.now c.crash_regions.new.pick (map (λ (r : MemoryRegion). r.seen) c.args.self.now.regions.items) (map (λ (r : MemoryRegion). r.seen) c.crash_regions.new.regions.items)
      (map seen_of c.args.self.now.blocks.items) (map seen_of c.crash_blocks.new.blocks.items) (map number_of c.args.self.now.blocks.items) (map number_of c.crash_blocks.new.blocks.items)
      c.args.self.now.store c.crash_regions.ensures.left c.crash_regions.ensures.images c.crash_blocks.ensures.left c.crash_blocks.ensures.numbers;
}
