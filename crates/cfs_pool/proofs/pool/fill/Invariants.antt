use Rattle.std.specs.BinaryHeap.{heap_capacity, heap_items}
use Rattle.cfs_pool.proofs.Taken.{IsFilling}
use Rattle.cfs_pool.proofs.pool.fill.Given as goal

abbrev pub invariant-loop-item : goal.invariant-loop-item
invariant-loop-item g l =
    IsFilling g.T.Numbered.number l.initial.items.items l.items.items (heap_items l.heap)
    (heap_capacity l.initial.heap) (heap_capacity l.heap)

abbrev pub decreases-loop-item : goal.decreases-loop-item
decreases-loop-item g l = goal.left-loop-item g l
