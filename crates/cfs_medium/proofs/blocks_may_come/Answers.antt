use Rattle.cfs_medium.proofs.SizeSteps.{blocks-come}
use Rattle.cfs_medium.proofs.blocks_may_come.Goals as goal

pub returns : goal.returns
returns c = blocks-come
