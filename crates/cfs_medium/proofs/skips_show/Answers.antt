use Rattle.cfs_medium.proofs.SlotEvents.{skips-show}
use Rattle.cfs_medium.proofs.skips_show.Goals as goal

pub returns : goal.returns
returns c = skips-show
