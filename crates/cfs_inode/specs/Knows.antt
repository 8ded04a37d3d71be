-- What calls about jobs ask for is known where a state stands.
use Rattle.std.specs.Prelude.{ℕ, List, ◌∷◌}
use Rattle.cfs_core.specs.declared.inode_core.Core.{Core}
use Rattle.cfs_job.specs.Views.{JobView}
use Rattle.cfs_medium.specs.World.{World}
use Rattle.cfs_inode.specs.Backs.{HasOut}
use Rattle.cfs_inode.specs.Dispatching.{IsReadyAt, IsTaken}
use Rattle.cfs_inode.specs.Stands.{Stands, Together}
use Rattle.cfs_inode.specs.View.{StateView}

-- a job may be asked for
abbrev pub StandingAreReady : Type 0
StandingAreReady =
    (state : StateView) (core : Core) (world : World) (place : ℕ) → Stands state core world →
    IsReadyAt state place

-- and a job that is out may be taken back
abbrev pub JobsAreOut : Type 0
JobsAreOut =
    (state : StateView) (job : JobView) (jobs : List JobView) (core : Core) (world : World) →
    Together state (job ∷ jobs) core world → HasOut state job

-- and so may one that was given out
abbrev pub TakenAreOut : Type 0
TakenAreOut =
    (place : ℕ) (job : JobView) (old new : StateView) → IsTaken place job old new →
    HasOut new job
