use Rattle.cfs_medium.proofs.SlotSteps.{heads-set}
use Rattle.cfs_medium.proofs.heads_may_be_set.Goals as goal

pub returns : goal.returns
returns c = heads-set
