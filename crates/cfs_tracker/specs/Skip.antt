-- A no-op is closed.
use Rattle.std.specs.Prelude.{ℕ, Bool, true, false, Option, Some, None}
use Rattle.cfs_tracker.specs.declared.doing.Doing.{Doing}
use Rattle.cfs_tracker.specs.declared.doing.Doing.TheVariants.{Covered, Closing}
use Rattle.cfs_tracker.specs.declared.pending.Pending.{Pending}
use Rattle.cfs_tracker.specs.View.{TrackerView, doing, with_entry, without}

-- the slots of a no-op
abbrev pub covered_in : {S : Type 0} → Doing S → Option S
covered_in (Covered slots) = Some slots
covered_in _ = None

abbrev pub covered_slots : {S : Type 0} → Option (Pending S) → Option S
covered_slots None = None
covered_slots (Some entry) = covered_in entry.doing

-- the slots of a no-op are taken out to be closed
abbrev pub closing : {S D B : Type 0} → ℕ → TrackerView S D B → TrackerView S D B
closing place view = record view { entries = with_entry place (doing Closing) view.entries }

-- they could not be closed, and come back
abbrev pub unclosed : {S D B : Type 0} → ℕ → S → TrackerView S D B → TrackerView S D B
unclosed place slots view =
    record view { entries = with_entry place (doing (Covered slots)) view.entries }

-- they were closed
abbrev pub skipped : {S D B : Type 0} → ℕ → TrackerView S D B → TrackerView S D B
skipped place view = record view { entries = without place view.entries }

abbrev pub is_closed_by_caller : {S : Type 0} → Doing S → Bool
is_closed_by_caller Closing = true
is_closed_by_caller _ = false

-- the slots of the place's no-op are in the caller's hands
abbrev pub is_closing : {S : Type 0} → Option (Pending S) → Bool
is_closing None = false
is_closing (Some entry) = is_closed_by_caller entry.doing
