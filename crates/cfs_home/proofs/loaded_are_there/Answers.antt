use Rattle.cfs_home.proofs.Ends.{loaded-there}
use Rattle.cfs_home.proofs.loaded_are_there.Goals as goal

pub returns : goal.returns
returns c = loaded-there
