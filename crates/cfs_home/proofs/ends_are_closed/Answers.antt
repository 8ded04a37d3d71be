use Rattle.cfs_home.proofs.Ends.{ends-closed}
use Rattle.cfs_home.proofs.ends_are_closed.Goals as goal

pub returns : goal.returns
returns c = ends-closed
