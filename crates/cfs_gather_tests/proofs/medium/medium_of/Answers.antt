use Rattle.std.proofs.Common.{arith, subst}
use Rattle.cfs_gather_tests.specs.InOrder.{AreBlocksInOrder, AreRegionsInOrder}
use Rattle.cfs_gather_tests.proofs.Follows.{store_of}
use Rattle.cfs_gather_tests.proofs.medium.medium_of.Goals as goal

pub into_medium-requires : goal.into_medium-requires
into_medium-requires c =
    store_of _ _ (omega arith) (omega arith)
    (subst AreRegionsInOrder c.deref.ensures.value
    (c.are_regions.ensures c.if-not-are_regions.false))
    (subst AreBlocksInOrder c.deref-else-not-are_regions.ensures.value
    (c.are_blocks.ensures c.if-not-are_blocks.false))
