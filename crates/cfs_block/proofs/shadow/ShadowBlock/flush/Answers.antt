use Rattle.cfs_block.proofs.ShadowLemmas.{asks_both}
use Rattle.cfs_block.proofs.shadow.ShadowBlock.flush.Goals as goal

pub returns-clause-asks : goal.returns-clause-asks
returns-clause-asks g c =
    asks_both (g.A.Block.seen c.args.self.now.first) (g.B.Block.seen c.args.self.now.second) c.flush.ensures.asks c.flush-2.ensures.asks
