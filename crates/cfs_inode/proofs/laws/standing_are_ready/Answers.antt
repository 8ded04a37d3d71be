use Rattle.cfs_inode.proofs.Knows.{standing-ready}
use Rattle.cfs_inode.proofs.laws.standing_are_ready.Goals as goal

pub returns : goal.returns
returns c = standing-ready
