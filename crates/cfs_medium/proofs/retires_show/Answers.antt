use Rattle.cfs_medium.proofs.FinishEvents.{retires-show}
use Rattle.cfs_medium.proofs.retires_show.Goals as goal

pub returns : goal.returns
returns c = retires-show
