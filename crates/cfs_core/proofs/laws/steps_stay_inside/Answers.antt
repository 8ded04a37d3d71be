use Rattle.cfs_core.specs.May.{case, is_in_phase}
use Rattle.cfs_core.specs.Run.{after_all}
use Rattle.cfs_core.specs.Steps.{step_of}
use Rattle.cfs_core.proofs.KeptRuns.{kept-all}
use Rattle.cfs_core.proofs.Legal.{both}
use Rattle.cfs_core.proofs.Steps.{stays-inside}
use Rattle.cfs_core.proofs.laws.steps_stay_inside.Goals as goal

pub returns : goal.returns
returns c = λ core list fresh run place block step may_be.
    stays-inside (after_all core list) (kept-all core list fresh run) place block step
    (both (is_in_phase (after_all core list).crashed (step_of place block step))
    (case (after_all core list) (step_of place block step)) may_be).1
