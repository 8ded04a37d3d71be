use Rattle.std.proofs.Common.{rules}
use Rattle.cfs_pmem.proofs.MemRegions.{backed_write}
use Rattle.cfs_pmem.proofs.mem_region.MemRegionRegion.write.Goals as goal

pub invariant_of-self-2 : goal.invariant_of-self-2
invariant_of-self-2 g c =
    rw c.change-2.ensures (backed_write c.self.inside.history c.self.inside.dirty _ c.self.inside.durable.items c.self.inside.present.items c.args.at c.args.word c.self.invariant (search rules) c.add.ensures.range c.add.ensures.ordered)
