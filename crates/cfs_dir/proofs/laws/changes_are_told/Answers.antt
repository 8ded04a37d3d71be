use Rattle.cfs_dir.proofs.Told.{change_told}
use Rattle.cfs_dir.proofs.laws.changes_are_told.Goals as goal

pub returns : goal.returns
returns c = change_told
