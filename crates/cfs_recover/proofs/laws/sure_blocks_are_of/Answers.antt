use Rattle.cfs_recover.proofs.Sure.{sure-blocks}
use Rattle.cfs_recover.proofs.laws.sure_blocks_are_of.Goals as goal

pub returns : goal.returns
returns c = sure-blocks
