use Rattle.cfs_medium.proofs.Others.{blocks-stay}
use Rattle.cfs_medium.proofs.blocks_of_others_stay.Goals as goal

pub returns : goal.returns
returns c = blocks-stay
