use Rattle.cfs_medium.proofs.WriteEvents.{writes-show}
use Rattle.cfs_medium.proofs.writes_show.Goals as goal

pub returns : goal.returns
returns c = writes-show
