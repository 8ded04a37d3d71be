use Rattle.cfs_meaning.proofs.Reached.{files-good}
use Rattle.cfs_meaning.proofs.laws.files_are_good.Goals as goal

pub returns : goal.returns
returns c = files-good
