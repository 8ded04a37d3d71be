use Rattle.cfs_medium.proofs.LiveLeft.{fitting-recovers}
use Rattle.cfs_medium.proofs.fitting_remains_recover.Goals as goal

pub returns : goal.returns
returns c = fitting-recovers
