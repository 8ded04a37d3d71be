use Rattle.cfs_inode.proofs.Purges.{standing-tell}
use Rattle.cfs_inode.proofs.laws.standing_tell_zero.Goals as goal

pub returns : goal.returns
returns c = standing-tell
