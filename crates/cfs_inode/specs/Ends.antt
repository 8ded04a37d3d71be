-- What calls that close a gate answer and leave.
use Rattle.std.specs.Prelude.{ℕ, ◌≡◌, Bool, true, false, Option, Some, None, Ok, Err, List, [], ◌∷◌}
use Rattle.std.specs.Prelude.{map}
use Rattle.cfs_core.specs.declared.event.Event.{Event}
use Rattle.cfs_core.specs.declared.event.Event.TheVariants as events
use Rattle.cfs_pmem.specs.declared.trace.Asked.{Asked}
use Rattle.cfs_pmem.specs.Images.{Seen, WordStep}
use Rattle.cfs_slot.specs.declared.slot.Slot.{Slot}
use Rattle.cfs_slot.specs.Regions.{of_slots}
use Rattle.cfs_vec.specs.declared.fixed_vec.FixedVec.{FixedVec}
use Rattle.cfs_tracker.specs.Skip.{covered_slots, skipped, unclosed}
use Rattle.cfs_tracker.specs.Settle.{doubt_slots, settled, unsettled}
use Rattle.cfs_tracker.specs.View.{entry_at}
use Rattle.cfs_inode.specs.Heads.{Closes}
use Rattle.cfs_inode.specs.declared.answers.CloseAnswer.{CloseAnswer}
use Rattle.cfs_inode.specs.declared.answers.CloseAnswer.TheVariants as answers
use Rattle.cfs_inode.specs.View.{Held, Seens, StateView}

-- the answer as plain data
pub data CloseEnd : Type 0 where
  closed : (slots : Seens) → CloseEnd
  nothing : CloseEnd
  failed : CloseEnd

abbrev pub is_failed : {S : Type 0} → CloseAnswer S → Bool
is_failed (answers.Closed slots) = false
is_failed answers.Nothing = false
is_failed answers.Failed = true

abbrev pub end_of : {R : Type 0} {g : _} {N : ℕ} → (R → Seen WordStep) →
    CloseAnswer (FixedVec (Slot R g) N) → CloseEnd
end_of seen (answers.Closed slots) = closed (map seen (of_slots slots))
end_of seen answers.Nothing = nothing
end_of seen answers.Failed = failed

-- ---- skip

-- the slots of the no-op at a place
abbrev pub noop_at : StateView → ℕ → Option Held
noop_at state place = covered_slots (entry_at state.tracker.entries place)

-- the no-op at a place is gone, or has its slots as they are now
abbrev pub without_noop : ℕ → StateView → StateView
without_noop place state = record state { tracker = skipped place state.tracker }

abbrev pub with_noop : ℕ → Held → StateView → StateView
with_noop place held state = record state { tracker = unclosed place held state.tracker }

-- What `skip` leaves: where no no-op has the place, all as it was. Else the gate of its slots is
-- closed and it is gone; or that failed, and the slots are as the device calls left them.
abbrev pub Skips : Bool → ℕ → CloseEnd → List Asked → StateView → List Asked → StateView → Type 0
Skips obeys place (closed slots) asked_old old asked_new new =
    (held : Held) × (noop_at old place ≡ Some held)
    × (Closes obeys (Ok tt) asked_old held.slots asked_new slots
    × (new ≡ without_noop place old))
Skips obeys place nothing asked_old old asked_new new =
    (noop_at old place ≡ None) × ((asked_new ≡ asked_old) × (new ≡ old))
Skips obeys place failed asked_old old asked_new new =
    (held : Held) × (slots : Seens) × (noop_at old place ≡ Some held)
    × (Closes obeys (Err tt) asked_old held.slots asked_new slots
    × (new ≡ with_noop place (record held { slots = slots }) old))

abbrev pub skip_events : ℕ → CloseEnd → List Event
skip_events place (closed slots) = events.Skip place ∷ []
skip_events place nothing = []
skip_events place failed = []

-- ---- settle

abbrev pub slots_in_doubt : StateView → Option Seens
slots_in_doubt state = doubt_slots state.tracker.doubt

abbrev pub without_doubt : StateView → StateView
without_doubt state = record state { tracker = settled state.tracker }

abbrev pub with_doubt : Seens → StateView → StateView
with_doubt slots state = record state { tracker = unsettled slots state.tracker }

-- What `settle` leaves, in the same way.
abbrev pub Settles : Bool → CloseEnd → List Asked → StateView → List Asked → StateView → Type 0
Settles obeys (closed slots) asked_old old asked_new new =
    (was : Seens) × (slots_in_doubt old ≡ Some was)
    × (Closes obeys (Ok tt) asked_old was asked_new slots × (new ≡ without_doubt old))
Settles obeys nothing asked_old old asked_new new =
    (slots_in_doubt old ≡ None) × ((asked_new ≡ asked_old) × (new ≡ old))
Settles obeys failed asked_old old asked_new new =
    (was : Seens) × (slots : Seens) × (slots_in_doubt old ≡ Some was)
    × (Closes obeys (Err tt) asked_old was asked_new slots × (new ≡ with_doubt slots old))

abbrev pub settle_events : CloseEnd → List Event
settle_events (closed slots) = events.Settle ∷ []
settle_events nothing = []
settle_events failed = []
