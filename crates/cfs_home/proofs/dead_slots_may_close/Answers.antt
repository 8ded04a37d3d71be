use Rattle.cfs_home.proofs.Disks.{dead-closes}
use Rattle.cfs_home.proofs.dead_slots_may_close.Goals as goal

pub returns : goal.returns
returns c = dead-closes
