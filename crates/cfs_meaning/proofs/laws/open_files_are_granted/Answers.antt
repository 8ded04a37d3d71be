use Rattle.cfs_meaning.proofs.Granted.{open-granted}
use Rattle.cfs_meaning.proofs.laws.open_files_are_granted.Goals as goal

pub returns : goal.returns
returns c = open-granted
