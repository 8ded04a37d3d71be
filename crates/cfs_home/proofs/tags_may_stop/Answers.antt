use Rattle.cfs_home.proofs.Calls.{tags-stop}
use Rattle.cfs_home.proofs.tags_may_stop.Goals as goal

pub returns : goal.returns
returns c = tags-stop
