use Rattle.cfs_medium.proofs.SizeSteps.{slots-come}
use Rattle.cfs_medium.proofs.slots_may_come.Goals as goal

pub returns : goal.returns
returns c = slots-come
