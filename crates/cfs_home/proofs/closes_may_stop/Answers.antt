use Rattle.cfs_home.proofs.Calls.{closes-stop}
use Rattle.cfs_home.proofs.closes_may_stop.Goals as goal

pub returns : goal.returns
returns c = closes-stop
