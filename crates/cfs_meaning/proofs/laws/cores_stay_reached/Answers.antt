use Rattle.cfs_meaning.proofs.Reached.{cores-stay}
use Rattle.cfs_meaning.proofs.laws.cores_stay_reached.Goals as goal

pub returns : goal.returns
returns c = cores-stay
