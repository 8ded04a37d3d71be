use Rattle.cfs_medium.proofs.QuietEvents.{backs-show}
use Rattle.cfs_medium.proofs.backs_show.Goals as goal

pub returns : goal.returns
returns c = backs-show
