-- A waiting change that a later one covers becomes a no-op.
use Rattle.std.specs.Prelude.{◌≡◌, ℕ, Bool, true, false, not, ◌&&◌, Option, Some, None, List, find, nat_lt}
use Rattle.std.specs.List.{list_any}
use Rattle.cfs_file.specs.declared.span.Span.{Span}
use Rattle.cfs_file.specs.Span.{meets, reaches_over}
use Rattle.cfs_tracker.specs.declared.doing.Doing.{Doing}
use Rattle.cfs_tracker.specs.declared.doing.Doing.TheVariants.{Waiting, Marking, Covered}
use Rattle.cfs_tracker.specs.declared.pending.Pending.{Pending}
use Rattle.cfs_tracker.specs.declared.reading.Reading.{Reading}
use Rattle.cfs_tracker.specs.Dispatch.{is_waiting_doing}
use Rattle.cfs_tracker.specs.Reads.{is_live_doing, place_of}
use Rattle.cfs_tracker.specs.View.{TrackerView, doing, entry_at, with_entry}

-- a read between the two places overlaps the span
abbrev pub is_read_between : ℕ → ℕ → Span → Reading → Bool
is_read_between place by span read =
    nat_lt place read.place && (nat_lt read.place by && meets read.span span)

-- The later entry is live and covers the earlier one, and no read between them overlaps that.
abbrev pub may_cover : {S : Type 0} → List Reading → Pending S → Pending S → Bool
may_cover reads later entry =
    nat_lt entry.place later.place
    && (is_live_doing later.doing
    && (reaches_over later.span entry.span
    && not (list_any (is_read_between entry.place later.place entry.span) reads)))

-- it waits behind a place
abbrev pub is_next_mark : {S : Type 0} → List Reading → Pending S → ℕ → Pending S → Bool
is_next_mark reads later after entry =
    nat_lt after entry.place && (is_waiting_doing entry.doing && may_cover reads later entry)

abbrev pub next_mark_by : {S D B : Type 0} → TrackerView S D B → Option (Pending S) → ℕ → Option ℕ
next_mark_by view None after = None
next_mark_by view (Some later) after =
    place_of (find (is_next_mark view.reads later after) view.entries)

-- the first waiting entry behind a place that the entry of another place may make a no-op
abbrev pub next_mark : {S D B : Type 0} → TrackerView S D B → ℕ → ℕ → Option ℕ
next_mark view by after = next_mark_by view (entry_at view.entries by) after

-- ---- its slots are taken out to be marked

abbrev pub marking : {S D B : Type 0} → ℕ → TrackerView S D B → TrackerView S D B
marking place view = record view { entries = with_entry place (doing Marking) view.entries }

abbrev pub marked_doing : {S : Type 0} → S → Bool → Doing S
marked_doing slots true = Covered slots
marked_doing slots false = Waiting slots

-- they come back: it is a no-op, or its mark failed
abbrev pub marked : {S D B : Type 0} → ℕ → S → Bool → TrackerView S D B → TrackerView S D B
marked place slots kept view =
    record view { entries = with_entry place (doing (marked_doing slots kept)) view.entries }

abbrev pub is_marking_doing : {S : Type 0} → Doing S → Bool
is_marking_doing Marking = true
is_marking_doing _ = false

abbrev pub may_mark_both : {S : Type 0} → List Reading → Option (Pending S) → Option (Pending S) →
    Bool
may_mark_both reads (Some later) (Some entry) =
    is_marking_doing entry.doing && may_cover reads later entry
may_mark_both reads _ _ = false

-- the slots of the place are out to be marked, for the entry of another place
abbrev pub is_marking_by : {S D B : Type 0} → TrackerView S D B → ℕ → ℕ → Bool
is_marking_by view place by =
    may_mark_both view.reads (entry_at view.entries by) (entry_at view.entries place)

-- what is named as the next to be marked may be marked, once its slots are out
abbrev pub NamedMayBeMarked : {S D B : Type 0} → TrackerView S D B → Type 0
NamedMayBeMarked view =
    (by after place : ℕ) → next_mark view by after ≡ Some place →
    is_marking_by (marking place view) place by ≡ true
