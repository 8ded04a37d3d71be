-- What is named first is the least.
use Rattle.std.specs.Prelude.{◌≡◌, ℕ, ◌≤◌, true, Some}
use Rattle.std.specs.List.{slice_get}
use Rattle.cfs_tracker.specs.declared.pending.Pending.{Pending}
use Rattle.cfs_tracker.specs.declared.reading.Reading.{Reading}
use Rattle.cfs_tracker.specs.Dispatch.{ahead, is_ahead, is_read_ahead}
use Rattle.cfs_tracker.specs.Reads.{blocker_of_read, is_before}
use Rattle.cfs_tracker.specs.View.{TrackerView}

-- No live entry that overlaps a change and stands before it has a place below the one that is named
-- for the change.
abbrev pub NoEntryIsLess : {S D B : Type 0} → TrackerView S D B → Type 0
NoEntryIsLess {S} view =
    (entry other : Pending S) (named k : ℕ) → ahead view entry ≡ Some named →
    slice_get view.entries k ≡ Some other → is_ahead entry.place entry.span other ≡ true →
    named ≤ other.place

-- Nor has such a read.
abbrev pub NoReadIsLess : {S D B : Type 0} → TrackerView S D B → Type 0
NoReadIsLess {S} view =
    (entry : Pending S) (other : Reading) (named k : ℕ) → ahead view entry ≡ Some named →
    slice_get view.reads k ≡ Some other → is_read_ahead entry.place entry.span other ≡ true →
    named ≤ other.place

-- No live entry that a read waits for has a place below the one that is named for the read.
abbrev pub NoneIsLessForReads : {S D B : Type 0} → TrackerView S D B → Type 0
NoneIsLessForReads {S} view =
    (read : Reading) (other : Pending S) (named k : ℕ) →
    blocker_of_read view.entries read ≡ Some named → slice_get view.entries k ≡ Some other →
    is_before read other ≡ true → named ≤ other.place
