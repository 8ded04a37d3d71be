use Rattle.cfs_medium.proofs.BlockEvents.{trims-show}
use Rattle.cfs_medium.proofs.trims_show.Goals as goal

pub returns : goal.returns
returns c = trims-show
