use Rattle.cfs_home.proofs.Disks.{other-blocks}
use Rattle.cfs_home.proofs.other_blocks_may_change.Goals as goal

pub returns : goal.returns
returns c = other-blocks
