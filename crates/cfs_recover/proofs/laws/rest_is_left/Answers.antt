use Rattle.cfs_recover.proofs.Settled.{rest-left}
use Rattle.cfs_recover.proofs.laws.rest_is_left.Goals as goal

pub returns : goal.returns
returns c = rest-left
