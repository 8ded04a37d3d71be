use Rattle.cfs_medium.proofs.SizeEvents.{sizes-show}
use Rattle.cfs_medium.proofs.sizes_show.Goals as goal

pub returns : goal.returns
returns c = sizes-show
