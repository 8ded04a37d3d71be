-- Waiting changes are marked as no-ops.
use Rattle.std.specs.Prelude.{ℕ, ◌≡◌, Bool, true, false, Option, Some, None, Ok, Err, List, [], ◌∷◌}
use Rattle.cfs_core.specs.declared.event.Event.{Event}
use Rattle.cfs_core.specs.declared.event.Event.TheVariants as events
use Rattle.cfs_pmem.specs.declared.trace.Asked.{Asked}
use Rattle.cfs_medium.specs.SlotEvents.{Answer}
use Rattle.cfs_tracker.specs.Dispatch.{waiting_slots}
use Rattle.cfs_tracker.specs.Mark.{is_marking_by, marked, marking}
use Rattle.cfs_tracker.specs.View.{entry_at}
use Rattle.cfs_inode.specs.Heads.{SetsMark}
use Rattle.cfs_inode.specs.declared.mark_answer.MarkAnswer.{MarkAnswer}
use Rattle.cfs_inode.specs.declared.mark_answer.MarkAnswer.TheVariants as marks
use Rattle.cfs_inode.specs.Makes.{CallMakes}
use Rattle.cfs_inode.specs.View.{Held, Seens, StateView}

-- what a call answers that went well, or failed
abbrev pub answer_for : Bool → Answer
answer_for true = Ok tt
answer_for false = Err tt

-- the slots of the change that waits at a place
abbrev pub waiting_at : StateView → ℕ → Option Held
waiting_at state place = waiting_slots (entry_at state.tracker.entries place)

-- it is a no-op, or waits on, with its slots as they are now
abbrev pub with_marked : ℕ → Held → Bool → StateView → StateView
with_marked place held kept state =
    record state { tracker = marked place held kept state.tracker }

-- What `mark` leaves: where no change waits at the place, all as it was. Else its slots are marked
-- and it is a no-op; or that failed, and it waits with the slots as the device calls left them.
abbrev pub Marks : Bool → ℕ → MarkAnswer → List Asked → StateView → List Asked → StateView → Type 0
Marks obeys place marks.Marked asked_old old asked_new new =
    (held : Held) × (slots : Seens) × (waiting_at old place ≡ Some held)
    × (SetsMark obeys (Ok tt) asked_old held.slots asked_new slots
    × (new ≡ with_marked place (record held { slots = slots }) true old))
Marks obeys place marks.Nothing asked_old old asked_new new =
    (waiting_at old place ≡ None) × ((asked_new ≡ asked_old) × (new ≡ old))
Marks obeys place marks.Failed asked_old old asked_new new =
    (held : Held) × (slots : Seens) × (waiting_at old place ≡ Some held)
    × (SetsMark obeys (Err tt) asked_old held.slots asked_new slots
    × (new ≡ with_marked place (record held { slots = slots }) false old))

abbrev pub mark_events : ℕ → ℕ → MarkAnswer → List Event
mark_events place by marks.Marked = events.Mark place by true ∷ []
mark_events place by marks.Nothing = []
mark_events place by marks.Failed = events.Mark place by false ∷ []

-- The later change of another place covers the one at a place, and no read between needs it.
abbrev pub may_be_marked : StateView → ℕ → ℕ → Bool
may_be_marked state place by = is_marking_by (marking place state.tracker) place by

-- Where the later change may cover it, the call is the marking of the place.
abbrev pub MarkMakes : ℕ → ℕ → MarkAnswer → List Asked → StateView → List Asked → StateView → Type 0
MarkMakes place by answer asked_old old asked_new new =
    may_be_marked old place by ≡ true →
    CallMakes (mark_events place by answer) asked_old old asked_new new
