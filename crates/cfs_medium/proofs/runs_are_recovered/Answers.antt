use Rattle.cfs_medium.proofs.Recovered.{run-recovered}
use Rattle.cfs_medium.proofs.runs_are_recovered.Goals as goal

pub returns : goal.returns
returns c = run-recovered
