use Rattle.cfs_block.proofs.ShadowLemmas.{asks_first}
use Rattle.cfs_block.proofs.shadow.ShadowBlock.tag.Goals as goal

pub returns-clause-asks : goal.returns-clause-asks
returns-clause-asks g c =
    asks_first (g.A.Block.seen c.args.self.now.first) (g.B.Block.seen c.args.self.now.second) c.tag.ensures.asks
