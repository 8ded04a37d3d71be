use Rattle.cfs_home.proofs.Disks.{goes-on}
use Rattle.cfs_home.proofs.stays_go_on.Goals as goal

pub returns : goal.returns
returns c = goes-on
