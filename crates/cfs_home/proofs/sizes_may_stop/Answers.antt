use Rattle.cfs_home.proofs.Calls.{sizes-stop}
use Rattle.cfs_home.proofs.sizes_may_stop.Goals as goal

pub returns : goal.returns
returns c = sizes-stop
