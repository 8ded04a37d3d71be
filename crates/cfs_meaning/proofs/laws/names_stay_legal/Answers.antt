use Rattle.cfs_meaning.proofs.Orders.{names-stay}
use Rattle.cfs_meaning.proofs.laws.names_stay_legal.Goals as goal

pub returns : goal.returns
returns c = names-stay
