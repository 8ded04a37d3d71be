use Rattle.cfs_home.proofs.Disks.{other-sizes}
use Rattle.cfs_home.proofs.other_sizes_may_be_set.Goals as goal

pub returns : goal.returns
returns c = other-sizes
