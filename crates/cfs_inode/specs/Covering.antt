-- All changes that wait and that one change covers are marked.
use Rattle.std.specs.Prelude.{ℕ, ◌≡◌, Bool, true, false, Option, Some, None, List, [], ◌∷◌, ◌++◌}
use Rattle.std.specs.Prelude.{filter, length, map}
use Rattle.cfs_core.specs.declared.event.Event.{Event}
use Rattle.cfs_pmem.specs.declared.trace.Asked.{Asked}
use Rattle.cfs_tracker.specs.declared.pending.Pending.{Pending}
use Rattle.cfs_tracker.specs.Follows.{Rise}
use Rattle.cfs_tracker.specs.Mark.{is_next_mark}
use Rattle.cfs_tracker.specs.View.{entry_at, entry_place}
use Rattle.cfs_inode.specs.declared.mark_answer.MarkAnswer.{MarkAnswer}
use Rattle.cfs_inode.specs.declared.mark_answer.MarkAnswer.TheVariants as marks
use Rattle.cfs_inode.specs.Makes.{CallMakes}
use Rattle.cfs_inode.specs.Marking.{Marks, mark_events}
use Rattle.cfs_inode.specs.View.{Held, StateView}

-- a change that was tried, and what came of it
pub record Try : Type 0 where
  pub place : ℕ
  pub answer : MarkAnswer

-- the marks that were tried, one after another
abbrev pub MarksEach : Bool → List Try → List Asked → StateView → List Asked → StateView → Type 0
MarksEach obeys [] asked_old old asked_new new = (asked_new ≡ asked_old) × (new ≡ old)
MarksEach obeys (try ∷ tries) asked_old old asked_new new =
    (asked : List Asked) × (mid : StateView)
    × (Marks obeys try.place try.answer asked_old old asked mid
    × MarksEach obeys tries asked mid asked_new new)

abbrev pub tried_events : ℕ → List Try → List Event
tried_events by [] = []
tried_events by (try ∷ tries) = mark_events try.place by try.answer ++ tried_events by tries

abbrev pub is_marked : MarkAnswer → Bool
is_marked marks.Marked = true
is_marked marks.Nothing = false
is_marked marks.Failed = false

abbrev pub places_tried : List Try → List ℕ
places_tried tries = map (λ t. t.place) tries

-- the waiting changes behind a place that this one covers, and that no read between needs
abbrev pub covered_behind : StateView → ℕ → Option (Pending Held) → List ℕ
covered_behind state after None = []
covered_behind state after (Some later) =
    map entry_place (filter (is_next_mark state.tracker.reads later after) state.tracker.entries)

-- all of them, by ascending place
abbrev pub covered_by : StateView → ℕ → List ℕ
covered_by state by = covered_behind state 0 (entry_at state.tracker.entries by)

-- The marks of exactly these were tried, in their order, and so many became no-ops. So the call is
-- these marks.
pub record MarksCovered (obeys : Bool) (by count : ℕ) (asked_old : List Asked) (old : StateView)
    (asked_new : List Asked) (new : StateView) : Type 0 where
  pub tries : List Try
  pub each : MarksEach obeys tries asked_old old asked_new new
  pub all : Rise entry_place 0 old.tracker.entries → places_tried tries ≡ covered_by old by
  pub many : count ≡ length (filter (λ t. is_marked t.answer) tries)
  pub makes : CallMakes (tried_events by tries) asked_old old asked_new new
