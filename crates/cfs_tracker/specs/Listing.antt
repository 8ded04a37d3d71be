-- What is pending under a grant.
use Rattle.std.specs.Prelude.{ℕ, ◌==◌, Bool, ◌&&◌, if◌then◌else◌, Option, Some, None, find, nat_lt}
use Rattle.cfs_tracker.specs.declared.doing.Doing.{Doing}
use Rattle.cfs_tracker.specs.declared.doing.Doing.TheVariants as doings
use Rattle.cfs_tracker.specs.declared.in_doubt.InDoubt.{InDoubt}
use Rattle.cfs_tracker.specs.declared.listing.EntryState.{EntryState}
use Rattle.cfs_tracker.specs.declared.listing.EntryState.TheVariants as states
use Rattle.cfs_tracker.specs.declared.listing.Listed.{Listed}
use Rattle.cfs_tracker.specs.declared.pending.Pending.{Pending}
use Rattle.cfs_tracker.specs.View.{TrackerView}

abbrev pub state_in : {S : Type 0} → Doing S → EntryState
state_in (doings.Waiting slots) = states.Waiting
state_in doings.Marking = states.Waiting
state_in (doings.Out first second) = states.Out
state_in (doings.Covered slots) = states.Noop
state_in doings.Closing = states.Noop

-- an entry of the grant behind a place
abbrev pub is_listed : {S : Type 0} → ℕ → ℕ → Pending S → Bool
is_listed grant after entry = (entry.grant == grant) && nat_lt after entry.place

abbrev pub listed_doubt : {D : Type 0} → Option (InDoubt D) → ℕ → ℕ → Option Listed
listed_doubt None grant after = None
listed_doubt (Some doubt) grant after =
    if (doubt.grant == grant) && nat_lt after doubt.place
    then Some (record { place = doubt.place; state = states.Doubt })
    else None

-- the first of the entries, else the request in doubt
abbrev pub listed : {S : Type 0} → Option (Pending S) → Option Listed → Option Listed
listed (Some entry) doubt = Some (record { place = entry.place; state = state_in entry.doing })
listed None doubt = doubt

abbrev pub listing : {S D B : Type 0} → TrackerView S D B → ℕ → ℕ → Option Listed
listing view grant after =
    listed (find (λ e. is_listed grant after e) view.entries)
    (listed_doubt view.doubt grant after)
