use Rattle.cfs_home.proofs.Ends.{ends-stored}
use Rattle.cfs_home.proofs.ends_are_stored.Goals as goal

pub returns : goal.returns
returns c = ends-stored
