use Rattle.cfs_inode.proofs.Knows.{jobs-out}
use Rattle.cfs_inode.proofs.laws.jobs_are_out.Goals as goal

pub returns : goal.returns
returns c = jobs-out
