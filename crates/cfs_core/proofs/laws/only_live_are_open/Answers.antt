use Rattle.cfs_core.specs.Run.{after_all}
use Rattle.cfs_core.proofs.Alive.{open-lives}
use Rattle.cfs_core.proofs.KeptRuns.{kept-all}
use Rattle.cfs_core.proofs.laws.only_live_are_open.Goals as goal

pub returns : goal.returns
returns c =
    λ core list fresh run image is.
    open-lives (after_all core list) image (kept-all core list fresh run).sound is
