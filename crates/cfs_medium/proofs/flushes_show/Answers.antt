use Rattle.cfs_medium.proofs.FlushEvents.{flushes-show}
use Rattle.cfs_medium.proofs.flushes_show.Goals as goal

pub returns : goal.returns
returns c = flushes-show
