use Rattle.cfs_core.specs.Run.{after_all}
use Rattle.cfs_core.proofs.KeptRuns.{kept-all}
use Rattle.cfs_core.proofs.Opened.{opens-well}
use Rattle.cfs_core.proofs.SizesFit.{fit-all}
use Rattle.cfs_core.proofs.laws.images_open_as_cores.Goals as goal

pub returns : goal.returns
returns c =
    λ core list fresh run image is.
    opens-well (after_all core list) (kept-all core list fresh run)
    (fit-all core list fresh run) image is
