use Rattle.cfs_medium.proofs.SlotSteps.{gates-close}
use Rattle.cfs_medium.proofs.gates_may_close.Goals as goal

pub returns : goal.returns
returns c = gates-close
