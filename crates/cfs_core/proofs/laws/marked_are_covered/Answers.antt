use Rattle.cfs_core.specs.Run.{after_all}
use Rattle.cfs_core.proofs.Covered.{marks-covered}
use Rattle.cfs_core.proofs.KeptRuns.{kept-all}
use Rattle.cfs_core.proofs.laws.marked_are_covered.Goals as goal

pub returns : goal.returns
returns c =
    λ core list fresh run image is.
    marks-covered (after_all core list) image (kept-all core list fresh run).logged is
