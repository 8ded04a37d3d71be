use Rattle.cfs_pool.proofs.Taken.{filling_more}
use Rattle.cfs_pool.proofs.pool.fill.Goals as goal

pub loop-item-preserved : goal.loop-item-preserved
loop-item-preserved g c =
    filling_more g.T.Numbered.number _ _ _ _ _ _ _ _ _ c.loop-item.invariant c.in-Some.ensures.items
    c.in-Ok.ensures.permutation (c.in-Ok.ensures.heap_order c.loop-item.invariant.heap)
    c.push.ensures.capacity
