use Rattle.cfs_core.specs.Run.{after_all}
use Rattle.cfs_core.proofs.KeptRuns.{kept-all}
use Rattle.cfs_core.proofs.Steps.{steps-commute}
use Rattle.cfs_core.proofs.laws.job_steps_commute.Goals as goal

pub returns : goal.returns
returns c = λ core list fresh run place other block beside one two places blocks first second.
    steps-commute (after_all core list)
    (kept-all core list fresh run) place other block beside one two places blocks first second
