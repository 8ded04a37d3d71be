use Rattle.cfs_home.proofs.Disks.{held-home}
use Rattle.cfs_home.proofs.held_are_home.Goals as goal

pub returns : goal.returns
returns c = held-home
