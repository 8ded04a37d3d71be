use Rattle.cfs_medium.proofs.LiveLeft.{shown-recovers}
use Rattle.cfs_medium.proofs.shown_worlds_recover.Goals as goal

pub returns : goal.returns
returns c = shown-recovers
