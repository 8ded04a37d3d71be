use Rattle.cfs_meaning.proofs.SavedRuns.{runs-saved}
use Rattle.cfs_meaning.proofs.laws.crashed_runs_recover.Goals as goal

pub returns : goal.returns
returns c = runs-saved
