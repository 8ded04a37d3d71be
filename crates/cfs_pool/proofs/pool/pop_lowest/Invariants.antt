use Rattle.std.specs.BinaryHeap.{heap_capacity, heap_items}
use Rattle.cfs_pool.proofs.Taken.{IsTaking}
use Rattle.cfs_pool.proofs.pool.pop_lowest.Given as goal

abbrev pub invariant-loop : goal.invariant-loop
invariant-loop g l =
    IsTaking g.T.Numbered.number (heap_items l.initial.heap) l.taken.items (heap_items l.heap)
    l.counter (heap_capacity l.initial.heap) (heap_capacity l.heap)
