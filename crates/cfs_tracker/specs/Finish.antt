-- A job ends.
use Rattle.std.specs.Prelude.{◌≡◌, ℕ, Bool, true, false, ◌||◌, Option, Some, None, List, is_none, set}
use Rattle.cfs_file.specs.declared.span.Span.{Span}
use Rattle.cfs_file.specs.declared.span.Span.TheVariants.{Nothing}
use Rattle.cfs_core.specs.declared.event.End.{End}
use Rattle.cfs_core.specs.declared.event.End.TheVariants as ends
use Rattle.cfs_core.specs.declared.event.SizeEnd.{SizeEnd}
use Rattle.cfs_core.specs.Words.{sized}
use Rattle.cfs_tracker.specs.declared.cell.Cell.{Cell}
use Rattle.cfs_tracker.specs.declared.cell.Cell.TheVariants.{Home}
use Rattle.cfs_tracker.specs.declared.doing.Doing.{Doing}
use Rattle.cfs_tracker.specs.declared.doing.Doing.TheVariants.{Waiting, Out}
use Rattle.cfs_tracker.specs.declared.pending.Pending.{Pending}
use Rattle.cfs_tracker.specs.declared.tile.Tile.{Tile}
use Rattle.cfs_tracker.specs.Dispatch.{next_cell}
use Rattle.cfs_tracker.specs.Follows.{gate_for}
use Rattle.cfs_tracker.specs.View.{TrackerView, doing, entry_at, with_entry, without}

-- ---- what is known of an entry that is out

abbrev pub blocks_in : {S : Type 0} → Doing S → Option (Option ℕ × Option ℕ)
blocks_in (Out first second) = Some (first, second)
blocks_in _ = None

-- the blocks of the job that has the entry
abbrev pub blocks_out : {S : Type 0} → Option (Pending S) → Option (Option ℕ × Option ℕ)
blocks_out None = None
blocks_out (Some entry) = blocks_in entry.doing

abbrev pub number_of : {B : Type 0} → Option (Tile B) → Option ℕ
number_of None = None
number_of (Some tile) = Some tile.block

-- the place is out, with these blocks
abbrev pub IsOut : {S D B : Type 0} → TrackerView S D B → ℕ → Option (Tile B) → Option (Tile B) →
    Type 0
IsOut view place first second =
    blocks_out (entry_at view.entries place) ≡ Some (number_of first, number_of second)

-- the last block that is done once a job's blocks are done too
abbrev pub last_number : Option ℕ → Option ℕ → Option ℕ → Option ℕ
last_number last None None = last
last_number last (Some block) None = Some block
last_number last first (Some block) = Some block

abbrev pub done_with : {S : Type 0} → Option ℕ → Doing S → Option ℕ
done_with last (Out first second) = last_number last first second
done_with last _ = last

-- behind the job's blocks the entry wants no further one
abbrev pub is_last_entry : {S B : Type 0} → List (Cell B) → Pending S → Bool
is_last_entry cells entry =
    entry.applied || is_none (next_cell cells entry.span (done_with entry.done entry.doing))

abbrev pub is_last_of : {S B : Type 0} → List (Cell B) → Option (Pending S) → Bool
is_last_of cells None = true
is_last_of cells (Some entry) = is_last_entry cells entry

abbrev pub is_last : {S D B : Type 0} → TrackerView S D B → ℕ → Bool
is_last view place = is_last_of view.cells (entry_at view.entries place)

abbrev pub span_in : {S : Type 0} → Option (Pending S) → Span
span_in None = Nothing
span_in (Some entry) = entry.span

abbrev pub applied_in : {S : Type 0} → Option (Pending S) → Bool
applied_in None = false
applied_in (Some entry) = entry.applied

abbrev pub applied_at : {S D B : Type 0} → TrackerView S D B → ℕ → Bool
applied_at view place = applied_in (entry_at view.entries place)

-- what the size word is to be for the entry
abbrev pub size_after : {S D B : Type 0} → TrackerView S D B → ℕ → ℕ
size_after view place = sized view.stored (span_in (entry_at view.entries place))

-- an end that leaves the entry as far as it was, whatever became of the size word
abbrev pub as_far : {S D B : Type 0} → TrackerView S D B → ℕ → SizeEnd → End
as_far view place size =
    ends.Back size (gate_for false (applied_at view place)) (applied_at view place)

-- ---- the blocks come home

abbrev pub home : {B : Type 0} → Option (Tile B) → List (Cell B) → List (Cell B)
home None cells = cells
home (Some tile) cells = set cells tile.block (Home tile.home)

abbrev pub brought : {S D B : Type 0} → Option (Tile B) → Option (Tile B) → TrackerView S D B →
    TrackerView S D B
brought first second view = record view { cells = home second (home first view.cells) }

-- ---- what becomes of the entry

-- it waits again, and has done these blocks; it is applied, if it was or is to be now
abbrev pub again_entry : {S : Type 0} → S → Bool → Option ℕ → Option ℕ → Pending S → Pending S
again_entry slots applied first second entry = record entry {
  applied = applied || entry.applied;
  done = last_number entry.done first second;
  doing = Waiting slots;
}

-- all is written, the size word is set and the gate closed
abbrev pub retired : {S D B : Type 0} → ℕ → Option (Tile B) → Option (Tile B) →
    TrackerView S D B → TrackerView S D B
retired place first second view = record (brought first second view) {
  entries = without place view.entries;
  stored = size_after view place;
  is_sure = true;
}

abbrev pub more_entry : {S : Type 0} → S → Option ℕ → Option ℕ → Pending S → Pending S
more_entry slots first second entry =
    record entry { done = last_number entry.done first second; doing = Waiting slots }

-- its blocks are done, and more are to come
abbrev pub more : {S D B : Type 0} → ℕ → S → Option (Tile B) → Option (Tile B) →
    TrackerView S D B → TrackerView S D B
more place slots first second view = record (brought first second view) {
  entries = with_entry place (more_entry slots (number_of first) (number_of second)) view.entries;
}

-- it is put back
abbrev pub put_back : {S D B : Type 0} → ℕ → S → Option (Tile B) → Option (Tile B) →
    TrackerView S D B → TrackerView S D B
put_back place slots first second view =
    record (brought first second view) {
      entries = with_entry place (doing (Waiting slots)) view.entries;
    }

-- the size word was being set
abbrev pub size_unsure : {S D B : Type 0} → ℕ → S → Option (Tile B) → Option (Tile B) →
    TrackerView S D B → TrackerView S D B
size_unsure place slots first second view =
    record (put_back place slots first second view) {
      stored = size_after view place;
      is_sure = false;
    }

abbrev pub applied_entry : {S : Type 0} → S → Pending S → Pending S
applied_entry slots entry = record entry { applied = true; doing = Waiting slots }

-- the size word was set, and the gate was being closed
abbrev pub applied : {S D B : Type 0} → ℕ → S → Option (Tile B) → Option (Tile B) →
    TrackerView S D B → TrackerView S D B
applied place slots first second view = record (brought first second view) {
  entries = with_entry place (applied_entry slots) view.entries;
  stored = size_after view place;
  is_sure = true;
}
