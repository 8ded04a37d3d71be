use Rattle.cfs_home.proofs.Disks.{size-all}
use Rattle.cfs_home.proofs.sizes_keep_all.Goals as goal

pub returns : goal.returns
returns c = size-all
