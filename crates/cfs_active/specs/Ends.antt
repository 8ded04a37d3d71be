-- A job that is out ends, or is put back.
use Rattle.std.specs.Prelude.{ℕ, ◌<◌, ◌≡◌, Bool, true, false, List, [], ◌∷◌, ◌++◌, map}
use Rattle.cfs_core.specs.declared.event.End.TheVariants as ends
use Rattle.cfs_core.specs.declared.event.Event.{Event}
use Rattle.cfs_core.specs.declared.event.Event.TheVariants as events
use Rattle.cfs_core.specs.declared.event.SizeEnd.TheVariants as sizes
use Rattle.cfs_pmem.specs.declared.trace.Asked.{Asked}
use Rattle.cfs_pmem.specs.Images.{Seen, WordStep}
use Rattle.cfs_job.specs.Steps.{steps_left}
use Rattle.cfs_slot.specs.declared.slot.Slot.{Slot}
use Rattle.cfs_slot.specs.Regions.{of_slots}
use Rattle.cfs_tracker.specs.Finish.{as_far}
use Rattle.cfs_vec.specs.declared.fixed_vec.FixedVec.{FixedVec}
use Rattle.cfs_inode.specs.Backs.{with_put_back}
use Rattle.cfs_inode.specs.Finishing.{Finishes, end_at, failing}
use Rattle.cfs_inode.specs.Finishing.{going_on, retiring}
use Rattle.cfs_inode.specs.Stands.{IsBeside}
use Rattle.cfs_inode.specs.View.{Seens}
use Rattle.cfs_active.specs.declared.end_answer.EndAnswer.{EndAnswer}
use Rattle.cfs_active.specs.declared.end_answer.EndAnswer.TheVariants as answers
use Rattle.cfs_active.specs.Find.{HasJob}
use Rattle.cfs_active.specs.Makes.{ActiveMakes}
use Rattle.cfs_active.specs.View.{ActiveView}

-- the answer of `finish` as plain data
pub data End : Type 0 where
  retired : (slots : Seens) → End
  more : End
  unfinished : (left : ℕ) → End
  failed : End
  not_out : End

abbrev pub end_of : {R : Type 0} {g : _} {N : ℕ} → (R → Seen WordStep) →
    EndAnswer (FixedVec (Slot R g) N) → End
end_of words (answers.Retired slots) = retired (map words (of_slots slots))
end_of words answers.More = more
end_of words (answers.Unfinished left) = unfinished left
end_of words answers.Failed = failed
end_of words answers.NotOut = not_out

-- the job of the place is not out any more, and the others are as they were
pub record TakesBack (place : ℕ) (old new : ActiveView) : Type 0 where
  pub was : HasJob place old.jobs
  pub jobs_are : new.jobs ≡ was.before ++ was.behind

-- The job of the place has so many steps left, and all is as it was.
pub record HasLeft (place left : ℕ) (old new : ActiveView) : Type 0 where
  pub was : HasJob place old.jobs
  pub left_is : left ≡ steps_left was.job
  pub some : 0 < left
  pub same : new ≡ old

-- What `finish` leaves, by its answer: what the state leaves that takes back the job of the place.
abbrev pub Ends : Bool → ℕ → End → List Asked → ActiveView → List Asked → ActiveView → Type 0
Ends obeys place (retired slots) asked_old old asked_new new =
    (back : TakesBack place old new)
    × Finishes obeys (retiring slots) asked_old old.state back.was.job asked_new new.state
Ends obeys place more asked_old old asked_new new =
    (back : TakesBack place old new)
    × Finishes obeys going_on asked_old old.state back.was.job asked_new new.state
Ends obeys place (unfinished left) asked_old old asked_new new =
    HasLeft place left old new × (asked_new ≡ asked_old)
Ends obeys place failed asked_old old asked_new new =
    (back : TakesBack place old new)
    × Finishes obeys failing asked_old old.state back.was.job asked_new new.state
Ends obeys place not_out asked_old old asked_new new =
    IsBeside place old.jobs × (asked_new ≡ asked_old) × (new ≡ old)

-- An end is one event; one that failed tells where.
abbrev pub end_events : (obeys : Bool) (place : ℕ) (end : End) (asked_old : List Asked)
    (old : ActiveView) (asked_new : List Asked) (new : ActiveView) →
    Ends obeys place end asked_old old asked_new new → List Event
end_events obeys place (retired slots) asked_old old asked_new new did =
    events.Finish did.0.was.job.place ends.Retired ∷ []
end_events obeys place more asked_old old asked_new new did =
    events.Finish did.0.was.job.place ends.More ∷ []
end_events obeys place (unfinished left) asked_old old asked_new new did = []
end_events obeys place failed asked_old old asked_new new did =
    events.Finish did.0.was.job.place (end_at did.1.0 old.state did.0.was.job) ∷ []
end_events obeys place not_out asked_old old asked_new new did = []

abbrev pub EndMakes : Bool → ℕ → End → List Asked → ActiveView → List Asked → ActiveView → Type 0
EndMakes obeys place end asked_old old asked_new new =
    (did : Ends obeys place end asked_old old asked_new new)
    × ActiveMakes (end_events obeys place end asked_old old asked_new new did) asked_old old
    asked_new new

-- ---- it is put back

-- What `put_back` leaves: the job of the place is put back, or none is out.
abbrev pub PutsBack : ℕ → Bool → ActiveView → ActiveView → Type 0
PutsBack place true old new =
    (back : TakesBack place old new)
    × (new.state ≡ with_put_back old.state.size back.was.job old.state)
PutsBack place false old new = IsBeside place old.jobs × (new ≡ old)

abbrev pub put_back_events : ℕ → Bool → ActiveView → List Event
put_back_events place true old =
    events.Finish place (as_far old.state.tracker place sizes.AsBefore) ∷ []
put_back_events place false old = []
