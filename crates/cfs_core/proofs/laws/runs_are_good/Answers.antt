use Rattle.cfs_core.proofs.KeptRuns.{runs-are-good}
use Rattle.cfs_core.proofs.laws.runs_are_good.Goals as goal

pub returns : goal.returns
returns c = runs-are-good
