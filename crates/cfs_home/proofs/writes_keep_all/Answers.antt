use Rattle.cfs_home.proofs.Disks.{writes-all}
use Rattle.cfs_home.proofs.writes_keep_all.Goals as goal

pub returns : goal.returns
returns c = writes-all
