use Rattle.cfs_meaning.proofs.Reached.{runs-keep}
use Rattle.cfs_meaning.proofs.laws.runs_keep_cores.Goals as goal

pub returns : goal.returns
returns c = runs-keep
