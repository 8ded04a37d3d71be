use Rattle.cfs_core.specs.Run.{after_all}
use Rattle.cfs_core.proofs.KeptRuns.{kept-all}
use Rattle.cfs_core.proofs.Moments.{within-may}
use Rattle.cfs_core.proofs.laws.moments_may_come.Goals as goal

pub returns : goal.returns
returns c =
    λ core list fresh run event.
    within-may (after_all core list) event (kept-all core list fresh run).sound
