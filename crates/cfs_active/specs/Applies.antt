-- A job that is out makes its next step.
use Rattle.std.specs.Prelude.{ℕ, ◌≡◌, Bool, Result, Ok, Err, List, [], ◌∷◌, ◌++◌, is_ok}
use Rattle.cfs_core.specs.declared.event.Event.{Event}
use Rattle.cfs_pmem.specs.declared.fault.DeviceFault.{DeviceFault}
use Rattle.cfs_pmem.specs.declared.trace.Asked.{Asked}
use Rattle.cfs_job.specs.Steps.{MakesTurn, core_job, next_turn, noted, steps_left}
use Rattle.cfs_job.specs.Views.{JobView}
use Rattle.cfs_inode.specs.JobSteps.{turn_events}
use Rattle.cfs_inode.specs.Stands.{IsBeside}
use Rattle.cfs_active.specs.declared.apply_answer.ApplyAnswer.{ApplyAnswer}
use Rattle.cfs_active.specs.declared.apply_answer.ApplyAnswer.TheVariants as answers
use Rattle.cfs_active.specs.Find.{HasJob}
use Rattle.cfs_active.specs.Makes.{ActiveMakes}
use Rattle.cfs_active.specs.View.{ActiveView}

-- The job of the place made its next step, or that failed. The state and the other jobs are as they
-- were. Whether slots and blocks obey the power, and whether a block keeps what was refused, are
-- the devices'.
pub record Steps (slots blocks keeps : Bool) (place : ℕ) (result : Result (Unit {0}) DeviceFault)
    (asked_old : List Asked) (old : ActiveView) (asked_new : List Asked) (new : ActiveView)
    : Type 0 where
  pub was : HasJob place old.jobs
  pub now : JobView
  pub turn : MakesTurn slots blocks keeps (next_turn was.job) result asked_old was.job asked_new now
  pub notes : core_job now ≡ noted (next_turn was.job) (is_ok result) was.job
  pub jobs_are : new.jobs ≡ was.before ++ now ∷ was.behind
  pub state_is : new.state ≡ old.state

-- What `apply` leaves, by its answer.
abbrev pub Applies : Bool → Bool → Bool → ℕ → ApplyAnswer → List Asked → ActiveView →
    List Asked → ActiveView → Type 0
Applies slots blocks keeps place (answers.Made left) asked_old old asked_new new =
    (steps : Steps slots blocks keeps place (Ok tt) asked_old old asked_new new)
    × (left ≡ steps_left steps.now)
Applies slots blocks keeps place answers.Failed asked_old old asked_new new =
    (fault : DeviceFault) × Steps slots blocks keeps place (Err fault) asked_old old asked_new new
Applies slots blocks keeps place answers.NotOut asked_old old asked_new new =
    IsBeside place old.jobs × (asked_new ≡ asked_old) × (new ≡ old)

abbrev pub step_events : {slots blocks keeps : Bool} {place : ℕ}
    {result : Result (Unit {0}) DeviceFault} {asked_old : List Asked} {old : ActiveView}
    {asked_new : List Asked} {new : ActiveView} →
    Steps slots blocks keeps place result asked_old old asked_new new → List Event
step_events {result = result} steps =
    turn_events (next_turn steps.was.job) (is_ok result) steps.was.job steps.now

-- A step is one event, and none where no step was left.
abbrev pub ApplyMakes : (slots blocks keeps : Bool) (place : ℕ) (answer : ApplyAnswer)
    (asked_old : List Asked) (old : ActiveView) (asked_new : List Asked) (new : ActiveView) →
    Type 0
ApplyMakes slots blocks keeps place (answers.Made left) asked_old old asked_new new =
    (did : Applies slots blocks keeps place (answers.Made left) asked_old old asked_new new)
    × ActiveMakes (step_events did.0) asked_old old asked_new new
ApplyMakes slots blocks keeps place answers.Failed asked_old old asked_new new =
    (did : Applies slots blocks keeps place answers.Failed asked_old old asked_new new)
    × ActiveMakes (step_events did.1) asked_old old asked_new new
ApplyMakes slots blocks keeps place answers.NotOut asked_old old asked_new new =
    (did : Applies slots blocks keeps place answers.NotOut asked_old old asked_new new)
    × ActiveMakes [] asked_old old asked_new new
