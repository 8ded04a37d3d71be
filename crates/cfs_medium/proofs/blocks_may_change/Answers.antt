use Rattle.cfs_medium.proofs.BlockSteps.{blocks-change}
use Rattle.cfs_medium.proofs.blocks_may_change.Goals as goal

pub returns : goal.returns
returns c = blocks-change
