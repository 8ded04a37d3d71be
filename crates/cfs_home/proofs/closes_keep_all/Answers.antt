use Rattle.cfs_home.proofs.Disks.{closes-all}
use Rattle.cfs_home.proofs.closes_keep_all.Goals as goal

pub returns : goal.returns
returns c = closes-all
