use Rattle.cfs_home.proofs.Behind.{sizes-set}
use Rattle.cfs_home.proofs.sizes_are_set.Goals as goal

pub returns : goal.returns
returns c = sizes-set
