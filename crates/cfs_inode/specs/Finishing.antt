-- What a call answers and leaves by which a job ends.
use Rattle.std.specs.Prelude.{ℕ, ◌<◌, ◌≡◌, ◌==◌, ◌&&◌, Bool, true, false, Ok, Err, List, [], ◌∷◌}
use Rattle.std.specs.Prelude.{map}
use Rattle.cfs_pmem.specs.declared.trace.Asked.{Asked}
use Rattle.cfs_pmem.specs.Images.{Seen, WordStep, failed as stopped, wrote}
use Rattle.cfs_pmem.specs.WordOps.{SetsWord}
use Rattle.cfs_block.specs.BlockImages.{BlockStep}
use Rattle.cfs_core.specs.declared.event.End.{End}
use Rattle.cfs_core.specs.declared.event.End.TheVariants as ends
use Rattle.cfs_core.specs.declared.event.SizeEnd.TheVariants as sizes
use Rattle.cfs_core.specs.declared.flag.Flag.TheVariants.{Unsure}
use Rattle.cfs_job.specs.declared.job.Job.{Job}
use Rattle.cfs_job.specs.Jobs.{job_view}
use Rattle.cfs_job.specs.Steps.{steps_left}
use Rattle.cfs_job.specs.Views.{JobView}
use Rattle.cfs_medium.specs.SlotEvents.{Answer}
use Rattle.cfs_slot.specs.declared.slot.Slot.{Slot}
use Rattle.cfs_slot.specs.Regions.{of_slots}
use Rattle.cfs_tracker.specs.Finish.{applied, as_far, is_last, more, retired, size_after}
use Rattle.cfs_tracker.specs.Finish.{size_unsure}
use Rattle.cfs_vec.specs.declared.fixed_vec.FixedVec.{FixedVec}
use Rattle.cfs_inode.specs.Heads.{Closes}
use Rattle.cfs_inode.specs.declared.finish_answer.FinishAnswer.{FinishAnswer}
use Rattle.cfs_inode.specs.declared.finish_answer.FinishAnswer.TheVariants as answers
use Rattle.cfs_inode.specs.declared.size_answer.SizeAnswer.{SizeAnswer}
use Rattle.cfs_inode.specs.declared.size_answer.SizeAnswer.TheVariants as went
use Rattle.cfs_inode.specs.Backs.{EndMakes, held_back, tile_back, with_put_back}
use Rattle.cfs_inode.specs.Makes.{Makes}
use Rattle.cfs_inode.specs.Stands.{Together}
use Rattle.cfs_inode.specs.View.{Seens, StateView}

-- ---- the size word

-- it is this in every image
abbrev pub is_right : ℕ → Bool → ℕ → Bool
is_right stored is_sure wanted = is_sure && (stored == wanted)

-- A call sets a size word, unless it is right in every image. It failed at the write, or at the
-- persist.
abbrev pub SetsSize : Bool → Bool → ℕ → SizeAnswer → List Asked → Seen WordStep → List Asked →
    Seen WordStep → Type 0
SetsSize obeys true wanted went.Set asked_old old asked_new new =
    (asked_new ≡ asked_old) × (new ≡ old)
SetsSize obeys false wanted went.Set asked_old old asked_new new =
    SetsWord {T = Unit {0}} {E = Unit {0}} obeys 0 wanted (Ok tt) asked_old old asked_new new
SetsSize obeys right wanted went.Unwritten asked_old old asked_new new =
    SetsWord {T = Unit {0}} {E = Unit {0}} obeys 0 wanted (Err tt) asked_old old asked_new new
    × (new ≡ stopped old)
SetsSize obeys right wanted went.Unkept asked_old old asked_new new =
    SetsWord {T = Unit {0}} {E = Unit {0}} obeys 0 wanted (Err tt) asked_old old asked_new new
    × (new ≡ stopped (wrote 0 wanted old))

-- The size word of a state is set for the change at a place.
abbrev pub SizesFor : Bool → StateView → ℕ → SizeAnswer → List Asked → List Asked →
    Seen WordStep → Type 0
SizesFor obeys old place answer asked_old asked_new size =
    SetsSize obeys
    (is_right old.tracker.stored old.tracker.is_sure (size_after old.tracker place))
    (size_after old.tracker place) answer asked_old old.size asked_new size

-- ---- what the state is then

abbrev pub with_more : JobView → StateView → StateView
with_more job state = record state {
  tracker = more job.place (held_back job) (tile_back job.first) (tile_back job.second)
      state.tracker;
}

abbrev pub with_unsure : Seen WordStep → JobView → StateView → StateView
with_unsure size job state = record state {
  size = size;
  tracker = size_unsure job.place (held_back job) (tile_back job.first) (tile_back job.second)
      state.tracker;
}

abbrev pub with_applied : Seen WordStep → Seens → JobView → StateView → StateView
with_applied size slots job state = record state {
  size = size;
  tracker = applied job.place (record { place = job.place; slots = slots })
      (tile_back job.first) (tile_back job.second) state.tracker;
}

abbrev pub with_retired : Seen WordStep → JobView → StateView → StateView
with_retired size job state = record state {
  size = size;
  tracker = retired job.place (tile_back job.first) (tile_back job.second) state.tracker;
}

-- ---- what `finish` answers

-- the answer as plain data
pub data FinishEnd : Type 0 where
  retiring : (slots : Seens) → FinishEnd
  going_on : FinishEnd
  unfinished : (job : JobView) → FinishEnd
  failing : FinishEnd

abbrev pub finish_end : {R B : Type 0} {g h : _} {N : ℕ} → (R → Seen WordStep) →
    (B → Seen BlockStep) → (B → ℕ) → FinishAnswer (Job R B g h) (FixedVec (Slot R g) N) →
    FinishEnd
finish_end words bytes number (answers.Retired slots) = retiring (map words (of_slots slots))
finish_end words bytes number answers.More = going_on
finish_end words bytes number (answers.Unfinished job) =
    unfinished (job_view words bytes number job)
finish_end words bytes number answers.Failed = failing

-- No step of the job is left, and of its change no block.
pub record IsAllDone (old : StateView) (job : JobView) : Type 0 where
  pub none_left : steps_left job ≡ 0
  pub last : is_last old.tracker job.place ≡ true

-- The size word is set for the job's change, and its gate is closed or that fails.
pub record Closed (obeys : Bool) (answer : Answer) (asked_old : List Asked) (old : StateView)
    (job : JobView) (size : Seen WordStep) (asked_new : List Asked) (slots : Seens)
    : Type 0 where
  pub asked : List Asked
  pub sized : SizesFor obeys old job.place went.Set asked_old asked size
  pub closes : Closes obeys answer asked job.slots asked_new slots

-- where a call failed: at the write or the persist of the size word, or at the gate
pub data Failing : Type 0 where
  writing : Failing
  keeping : Failing
  closing : Failing

-- It failed there: the change waits again, as far as it was, or applied where the size word is set.
abbrev pub FailsAt : Bool → Failing → List Asked → StateView → JobView → List Asked →
    StateView → Type 0
FailsAt obeys writing asked_old old job asked_new new =
    (size : Seen WordStep)
    × SizesFor obeys old job.place went.Unwritten asked_old asked_new size
    × (new ≡ with_put_back size job old)
FailsAt obeys keeping asked_old old job asked_new new =
    (size : Seen WordStep)
    × SizesFor obeys old job.place went.Unkept asked_old asked_new size
    × (new ≡ with_unsure size job old)
FailsAt obeys closing asked_old old job asked_new new =
    (size : Seen WordStep) × (slots : Seens)
    × Closed obeys (Err tt) asked_old old job size asked_new slots
    × (new ≡ with_applied size slots job old)

-- What `finish` leaves, by its answer.
abbrev pub Finishes : Bool → FinishEnd → List Asked → StateView → JobView → List Asked →
    StateView → Type 0
Finishes obeys (retiring slots) asked_old old job asked_new new =
    (size : Seen WordStep) × IsAllDone old job
    × Closed obeys (Ok tt) asked_old old job size asked_new slots
    × (new ≡ with_retired size job old)
Finishes obeys going_on asked_old old job asked_new new =
    (steps_left job ≡ 0) × (is_last old.tracker job.place ≡ false)
    × (asked_new ≡ asked_old) × (new ≡ with_more job old)
Finishes obeys (unfinished back) asked_old old job asked_new new =
    (0 < steps_left job) × (back ≡ job) × (asked_new ≡ asked_old) × (new ≡ old)
Finishes obeys failing asked_old old job asked_new new =
    (at : Failing) × IsAllDone old job × FailsAt obeys at asked_old old job asked_new new

-- ---- and which event that is

abbrev pub end_at : Failing → StateView → JobView → End
end_at writing old job = as_far old.tracker job.place sizes.AsBefore
end_at keeping old job = as_far old.tracker job.place sizes.Either
end_at closing old job = ends.Back sizes.Set Unsure true

-- One that failed is the event that tells where. A job with steps left is beside the others as it
-- was.
abbrev pub FinishMakes : Bool → FinishEnd → List Asked → StateView → JobView → List Asked →
    StateView → Type 0
FinishMakes obeys (retiring slots) asked_old old job asked_new new =
    EndMakes ends.Retired asked_old old job asked_new new
FinishMakes obeys going_on asked_old old job asked_new new =
    EndMakes ends.More asked_old old job asked_new new
FinishMakes obeys (unfinished back) asked_old old job asked_new new =
    (jobs : List JobView) →
    Makes old.ino (Together old (job ∷ jobs)) [] asked_old asked_new
    (Together new (back ∷ jobs))
FinishMakes obeys failing asked_old old job asked_new new =
    (at : Failing) → IsAllDone old job → FailsAt obeys at asked_old old job asked_new new →
    EndMakes (end_at at old job) asked_old old job asked_new new
