use Rattle.std.proofs.Common.{◌≡◌, ◌++◌, map}
use Rattle.cfs_pool.specs.Pool.{items_of}
use Rattle.cfs_gather.proofs.blocks.add_pool.Given as goal

abbrev pub invariant-loop-ranked : goal.invariant-loop-ranked
invariant-loop-ranked g l =
    map g.B.Block.seen l.blocks.items ≡ map g.B.Block.seen l.initial.blocks.items
    ++ map (λ free. g.B.Block.seen free.block) (items_of l.yielded)
