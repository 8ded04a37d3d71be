use Rattle.cfs_pool.proofs.Taken.{taking_more}
use Rattle.cfs_pool.proofs.pool.pop_lowest.Goals as goal

pub loop-preserved : goal.loop-preserved
loop-preserved g c =
    rw c.push.ensures.items
    (taking_more g.T.Numbered.number _ _ _ _ _ _ _ _ _ c.loop.invariant c.in-Some.ensures.permutation
    (c.in-Some.ensures.heap_order c.loop.invariant.heap).0
    (c.in-Some.ensures.below_top c.loop.invariant.heap) c.pop.ensures.capacity)
