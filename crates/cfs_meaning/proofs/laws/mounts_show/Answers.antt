use Rattle.cfs_meaning.proofs.HomeMounts.{mounts-show}
use Rattle.cfs_meaning.proofs.laws.mounts_show.Goals as goal

pub returns : goal.returns
returns c = mounts-show
