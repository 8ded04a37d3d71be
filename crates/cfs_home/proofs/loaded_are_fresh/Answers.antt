use Rattle.cfs_home.proofs.Ends.{loaded-fresh}
use Rattle.cfs_home.proofs.loaded_are_fresh.Goals as goal

pub returns : goal.returns
returns c = loaded-fresh
