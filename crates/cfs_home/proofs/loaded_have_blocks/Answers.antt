use Rattle.cfs_home.proofs.Ends.{loaded-blocks}
use Rattle.cfs_home.proofs.loaded_have_blocks.Goals as goal

pub returns : goal.returns
returns c = loaded-blocks
