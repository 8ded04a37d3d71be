use Rattle.cfs_medium.proofs.Empty.{empty-depicts}
use Rattle.cfs_medium.proofs.empty_stores_depict.Goals as goal

pub returns : goal.returns
returns c = empty-depicts
