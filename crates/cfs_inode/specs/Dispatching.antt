-- What a call that gives out a job answers and leaves.
use Rattle.std.specs.Prelude.{ℕ, ◌≡◌, true, false, Option, Some, None, List, [], ◌∷◌}
use Rattle.std.specs.List.{list_all}
use Rattle.cfs_pmem.specs.declared.trace.Asked.{Asked}
use Rattle.cfs_pmem.specs.Images.{Seen, WordStep}
use Rattle.cfs_block.specs.BlockImages.{BlockStep}
use Rattle.cfs_core.specs.declared.event.Event.TheVariants as events
use Rattle.cfs_job.specs.declared.job.Job.{Job}
use Rattle.cfs_job.specs.declared.lent.Lent.{Lent}
use Rattle.cfs_job.specs.Jobs.{job_view}
use Rattle.cfs_job.specs.Stands.{IsOpen, IsSpanOf}
use Rattle.cfs_job.specs.Views.{JobView}
use Rattle.cfs_tracker.specs.declared.pending.Pending.{Pending}
use Rattle.cfs_tracker.specs.declared.step.Step.TheVariants as steps
use Rattle.cfs_tracker.specs.declared.tile.Tile.{Tile}
use Rattle.cfs_tracker.specs.Dispatch.{is_still, step_at, waiting_in}
use Rattle.cfs_tracker.specs.View.{entry_at}
use Rattle.cfs_inode.specs.declared.dispatch_answer.DispatchAnswer.{DispatchAnswer}
use Rattle.cfs_inode.specs.declared.dispatch_answer.DispatchAnswer.TheVariants as answers
use Rattle.cfs_inode.specs.Jobs.{IsGiven, with_dispatched}
use Rattle.cfs_inode.specs.Makes.{Makes}
use Rattle.cfs_inode.specs.Reads.{QuietlyMakes}
use Rattle.cfs_inode.specs.Stands.{Together}
use Rattle.cfs_inode.specs.View.{Held, StateView}

-- a block in a job's hands, as the job is given it
abbrev pub lent_of : {B : Type 0} → Option (Tile B) → Option (Lent B)
lent_of None = None
lent_of (Some tile) = Some (record { at = tile.block; block = tile.home })

-- ---- when it may be called

-- The slots were opened with the place. Before the change is applied they hold a request with its
-- positions, and the gate is open in every image.
pub record IsOpenedFor (place : ℕ) (entry : Pending Held) (held : Held) : Type 0 where
  pub placed : held.place ≡ place
  pub spans : entry.applied ≡ false → IsSpanOf entry.span held.slots
  pub opened : entry.applied ≡ false → IsOpen held.slots place

-- no block is in the caller's hands, and so it is of a change that waits at the place
pub record IsReadyAt (state : StateView) (place : ℕ) : Type 0 where
  pub still : list_all (λ cell. is_still cell) state.tracker.cells ≡ true
  pub opened : (entry : Pending Held) (held : Held) →
      entry_at state.tracker.entries place ≡ Some entry → waiting_in entry.doing ≡ Some held →
      IsOpenedFor place entry held

-- ---- what it answers

-- the answer as plain data
pub data DispatchEnd : Type 0 where
  taken : (job : JobView) → DispatchEnd
  not_yet : (before : ℕ) → DispatchEnd
  not_waiting : DispatchEnd

abbrev pub dispatch_end : {R B : Type 0} {g h : _} → (R → Seen WordStep) → (B → Seen BlockStep) →
    (B → ℕ) → DispatchAnswer (Job R B g h) → DispatchEnd
dispatch_end words bytes number (answers.Taken job) = taken (job_view words bytes number job)
dispatch_end words bytes number (answers.NotYet before) = not_yet before
dispatch_end words bytes number answers.NotWaiting = not_waiting

-- the job is that of the change at the place, with these blocks, and the change is out with them
pub record IsTaken (place : ℕ) (job : JobView) (old new : StateView) : Type 0 where
  pub first : Option ℕ
  pub second : Option ℕ
  pub entry : Pending Held
  pub step : step_at old.tracker place ≡ steps.Takes first second
  pub given : IsGiven old place first second entry job
  pub view : new ≡ with_dispatched place first second old

-- What `dispatch` leaves, by what becomes of the change at the place.
abbrev pub Dispatches : ℕ → DispatchEnd → StateView → StateView → Type 0
Dispatches place (taken job) old new = IsTaken place job old new
Dispatches place (not_yet before) old new =
    (step_at old.tracker place ≡ steps.NotYet before) × (new ≡ old)
Dispatches place not_waiting old new = (step_at old.tracker place ≡ steps.NotWaiting) × (new ≡ old)

-- A job that is taken is one event, and is beside the others from then on.
abbrev pub DispatchMakes : ℕ → DispatchEnd → StateView → StateView → Type 0
DispatchMakes place (taken job) old new =
    (asked : List Asked) (jobs : List JobView) →
    Makes old.ino (Together old jobs) (events.Dispatch place ∷ []) asked asked
    (Together new (job ∷ jobs))
DispatchMakes place (not_yet before) old new = QuietlyMakes [] old new
DispatchMakes place not_waiting old new = QuietlyMakes [] old new
