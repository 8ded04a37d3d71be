use Rattle.cfs_medium.proofs.SlotEvents.{settles-show}
use Rattle.cfs_medium.proofs.settles_show.Goals as goal

pub returns : goal.returns
returns c = settles-show
