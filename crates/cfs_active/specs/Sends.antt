-- A job is given out and kept.
use Rattle.std.specs.Prelude.{ℕ, ◌≡◌, [], ◌∷◌, ◌++◌}
use Rattle.cfs_core.specs.declared.event.Event.TheVariants as events
use Rattle.cfs_job.specs.Steps.{steps_left}
use Rattle.cfs_job.specs.Views.{JobView}
use Rattle.cfs_inode.specs.declared.dispatch_answer.DispatchAnswer.{DispatchAnswer}
use Rattle.cfs_inode.specs.declared.dispatch_answer.DispatchAnswer.TheVariants as answers
use Rattle.cfs_inode.specs.Dispatching.{Dispatches, IsTaken, not_waiting, not_yet}
use Rattle.cfs_active.specs.Makes.{QuietlyMakes}
use Rattle.cfs_active.specs.View.{ActiveView}

-- The job is that of the change at the place, as the state gives it out. It comes behind the others
-- and has so many steps.
pub record Sent (place left : ℕ) (old new : ActiveView) : Type 0 where
  pub job : JobView
  pub taken : IsTaken place job old.state new.state
  pub left_is : left ≡ steps_left job
  pub jobs_are : new.jobs ≡ old.jobs ++ job ∷ []

-- What `dispatch` leaves, by its answer.
abbrev pub Sends : ℕ → DispatchAnswer ℕ → ActiveView → ActiveView → Type 0
Sends place (answers.Taken left) old new = Sent place left old new
Sends place (answers.NotYet before) old new =
    Dispatches place (not_yet before) old.state new.state × (new.jobs ≡ old.jobs)
Sends place answers.NotWaiting old new =
    Dispatches place not_waiting old.state new.state × (new.jobs ≡ old.jobs)

-- A job that is given out is one event.
abbrev pub SendMakes : ℕ → DispatchAnswer ℕ → ActiveView → ActiveView → Type 0
SendMakes place (answers.Taken left) old new =
    QuietlyMakes (events.Dispatch place ∷ []) old new
SendMakes place (answers.NotYet before) old new = QuietlyMakes [] old new
SendMakes place answers.NotWaiting old new = QuietlyMakes [] old new
