use Rattle.cfs_meaning.proofs.Calm.{calm-runs}
use Rattle.cfs_meaning.proofs.laws.calm_runs_answer.Goals as goal

pub returns : goal.returns
returns c = calm-runs
