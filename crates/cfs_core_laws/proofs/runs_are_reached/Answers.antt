use Rattle.cfs_core_laws.proofs.Whole.{run-reached}
use Rattle.cfs_core_laws.proofs.runs_are_reached.Goals as goal

pub returns : goal.returns
returns c = λ core list reached run. run-reached core list reached run
