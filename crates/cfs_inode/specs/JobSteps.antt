-- A device step of a job that is out, as an event of the core.
use Rattle.std.specs.Prelude.{◌≡◌, ℕ, Bool, true, false, Option, Some, None, List, [], ◌∷◌}
use Rattle.std.specs.Prelude.{Result, drop, is_ok, take}
use Rattle.cfs_file.specs.declared.span.Span.{Span}
use Rattle.cfs_core.specs.declared.event.Event.{Event}
use Rattle.cfs_core.specs.declared.event.Event.TheVariants as events
use Rattle.cfs_pmem.specs.declared.fault.DeviceFault.{DeviceFault}
use Rattle.cfs_pmem.specs.declared.trace.Asked.{Asked}
use Rattle.cfs_block.specs.BlockImages.{content_of}
use Rattle.cfs_job.specs.declared.turn.Turn.{Turn}
use Rattle.cfs_job.specs.declared.turn.Turn.TheVariants as turns
use Rattle.cfs_job.specs.Ops.{count_in, place_in}
use Rattle.cfs_job.specs.Stands.{IsFull}
use Rattle.cfs_job.specs.Steps.{MakesTurn, at_of, core_job, noted}
use Rattle.cfs_job.specs.Views.{JobView, TileView}
use Rattle.cfs_inode.specs.Makes.{Makes}
use Rattle.cfs_inode.specs.Stands.{Together}
use Rattle.cfs_inode.specs.View.{StateView}

-- what is read in a block at the positions of a span
abbrev pub read_at : Span → Option TileView → List ℕ
read_at span None = []
read_at span (Some tile) =
    take (count_in span tile.at) (drop (place_in span tile.at) (content_of tile.seen).bytes)

-- what a write that failed left there
abbrev pub left_by : Bool → Span → Option TileView → Option (List ℕ)
left_by true span now = None
left_by false span now = Some (read_at span now)

-- The event of a job's step, by its turn and by whether it went well; with no step left it is none.
abbrev pub turn_events : Turn → Bool → JobView → JobView → List Event
turn_events turns.WriteFirst ok old new =
    events.BlockWrite old.place (at_of old.first) (left_by ok old.span new.first) ∷ []
turn_events turns.WriteSecond ok old new =
    events.BlockWrite old.place (at_of old.second) (left_by ok old.span new.second) ∷ []
turn_events turns.FlushFirst ok old new = events.Flush old.place (at_of old.first) ok ∷ []
turn_events turns.FlushSecond ok old new = events.Flush old.place (at_of old.second) ok ∷ []
turn_events turns.Nothing ok old new = []

-- A step of a job is these events, whichever state gave the job out and whichever other jobs are
-- beside it.
abbrev pub StepMakes : List Event → List Asked → JobView → List Asked → JobView → Type 0
StepMakes made asked_old old asked_new new =
    (state : StateView) (jobs : List JobView) →
    Makes state.ino (Together state (old ∷ jobs)) made asked_old asked_new
    (Together state (new ∷ jobs))

-- So is each step that a job makes, whether it goes well or not.
abbrev pub JobStepsAreEvents : Type 0
JobStepsAreEvents =
    (obeys_slots obeys_block keeps_refused : Bool) (turn : Turn)
    (result : Result (Unit {0}) DeviceFault) (asked_old asked_new : List Asked)
    (old new : JobView) → IsFull old.first → IsFull old.second →
    MakesTurn obeys_slots obeys_block keeps_refused turn result asked_old old asked_new new →
    core_job new ≡ noted turn (is_ok result) old →
    StepMakes (turn_events turn (is_ok result) old new) asked_old old asked_new new
