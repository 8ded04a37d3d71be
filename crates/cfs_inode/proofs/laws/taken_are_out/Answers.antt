use Rattle.cfs_inode.proofs.Knows.{taken-out}
use Rattle.cfs_inode.proofs.laws.taken_are_out.Goals as goal

pub returns : goal.returns
returns c = taken-out
