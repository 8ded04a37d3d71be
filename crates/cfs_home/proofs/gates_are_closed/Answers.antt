use Rattle.cfs_home.proofs.Behind.{gates-closed}
use Rattle.cfs_home.proofs.gates_are_closed.Goals as goal

pub returns : goal.returns
returns c = gates-closed
