-- What a tracker is seen as.
use Rattle.std.specs.Prelude.{ℕ, ◌-◌, ◌==◌, ◌≤◌, Bool, not, if◌then◌else◌, Option, List, [], ◌∷◌, filter, find, vec_capacity, vec_len}
use Rattle.cfs_tracker.specs.declared.cell.Cell.{Cell}
use Rattle.cfs_tracker.specs.declared.doing.Doing.{Doing}
use Rattle.cfs_tracker.specs.declared.in_doubt.InDoubt.{InDoubt}
use Rattle.cfs_tracker.specs.declared.pending.Pending.{Pending}
use Rattle.cfs_tracker.specs.declared.reading.Reading.{Reading}
use Rattle.cfs_tracker.specs.declared.tracker.Tracker.{Tracker}

pub record TrackerView (S D B : Type 0) : Type 0 where
  -- how many places were given
  pub count : ℕ
  -- the length of the file after the log
  pub long : ℕ
  -- the size word as it reads, and whether it has that value in every image
  pub stored : ℕ
  pub is_sure : Bool
  pub entries : List (Pending S)
  pub reads : List Reading
  pub cells : List (Cell B)
  pub doubt : Option (InDoubt D)

abbrev pub view_of : {S D B : Type 0} → Tracker S D B → TrackerView S D B
view_of tracker = record {
  count = tracker.count;
  long = tracker.long;
  stored = tracker.stored;
  is_sure = tracker.is_sure;
  entries = tracker.entries.items;
  reads = tracker.reads.items;
  cells = tracker.cells.items;
  doubt = tracker.doubt;
}

-- ---- what is pending, by place

abbrev pub entry_place : {S : Type 0} → Pending S → ℕ
entry_place entry = entry.place

abbrev pub reading_place : Reading → ℕ
reading_place read = read.place

abbrev pub is_at : {S : Type 0} → ℕ → Pending S → Bool
is_at place entry = entry.place == place

abbrev pub is_read_at : ℕ → Reading → Bool
is_read_at place read = read.place == place

abbrev pub entry_at : {S : Type 0} → List (Pending S) → ℕ → Option (Pending S)
entry_at entries place = find (is_at place) entries

abbrev pub read_at : List Reading → ℕ → Option Reading
read_at reads place = find (is_read_at place) reads

abbrev pub without : {S : Type 0} → ℕ → List (Pending S) → List (Pending S)
without place entries = filter (λ e. not (is_at place e)) entries

-- the first entry of the place changed so, all others as they were
abbrev pub with_entry : {S : Type 0} → ℕ → (Pending S → Pending S) → List (Pending S) →
    List (Pending S)
with_entry place change [] = []
with_entry place change (entry ∷ entries) =
    if is_at place entry then change entry ∷ entries
    else entry ∷ with_entry place change entries

abbrev pub doing : {S : Type 0} → Doing S → Pending S → Pending S
doing now entry = record entry { doing = now }

-- ---- room

-- for so many entries, and for so many reads, there is room yet
abbrev pub entry_room : {S D B : Type 0} → Tracker S D B → ℕ
entry_room tracker = vec_capacity tracker.entries - vec_len tracker.entries

abbrev pub read_room : {S D B : Type 0} → Tracker S D B → ℕ
read_room tracker = vec_capacity tracker.reads - vec_len tracker.reads

-- there is no less room than there was
pub record KeepsRoom {S D B : Type 0} (old new : Tracker S D B) : Type 0 where
  pub entries : entry_room old ≤ entry_room new
  pub reads : read_room old ≤ read_room new
