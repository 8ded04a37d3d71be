use Rattle.cfs_core.specs.Run.{after_all}
use Rattle.cfs_core.proofs.Alive.{lives-open}
use Rattle.cfs_core.proofs.KeptRuns.{kept-all}
use Rattle.cfs_core.proofs.laws.live_are_open.Goals as goal

pub returns : goal.returns
returns c =
    λ core list fresh run image is.
    lives-open (after_all core list) image (kept-all core list fresh run).sound is
