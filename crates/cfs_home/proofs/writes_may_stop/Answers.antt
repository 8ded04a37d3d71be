use Rattle.cfs_home.proofs.Calls.{writes-stop}
use Rattle.cfs_home.proofs.writes_may_stop.Goals as goal

pub returns : goal.returns
returns c = writes-stop
