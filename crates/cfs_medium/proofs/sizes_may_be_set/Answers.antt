use Rattle.cfs_medium.proofs.SizeSteps.{sizes-set}
use Rattle.cfs_medium.proofs.sizes_may_be_set.Goals as goal

pub returns : goal.returns
returns c = sizes-set
