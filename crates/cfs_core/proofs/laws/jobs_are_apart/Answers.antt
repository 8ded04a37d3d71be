use Rattle.cfs_core.specs.Run.{after_all}
use Rattle.cfs_core.proofs.Apart.{apart-at}
use Rattle.cfs_core.proofs.KeptRuns.{kept-all}
use Rattle.cfs_core.proofs.laws.jobs_are_apart.Goals as goal

pub returns : goal.returns
returns c =
    λ core list fresh run. apart-at (after_all core list) (kept-all core list fresh run).apart
