-- What a pending read is answered.
use Rattle.std.specs.Prelude.{ℕ, ◌+◌, ◌-◌, ◌/◌, ◌%◌, ◌<◌, ◌≡◌, Bool, false, IsTrue, if◌then◌else◌}
use Rattle.std.specs.Prelude.{Option, Some, None, Result, Ok, Err, List, [], ◌∷◌, ◌++◌, drop}
use Rattle.std.specs.Prelude.{get_or, length, map, nat_lt}
use Rattle.std.specs.List.{range_with_len}
use Rattle.std.specs.Option.{option_or}
use Rattle.cfs_file.specs.declared.sizes.TheConstants.{BLOCK_LEN}
use Rattle.cfs_file.specs.declared.span.Span.{Span}
use Rattle.cfs_core.specs.declared.event.Event.{Event}
use Rattle.cfs_core.specs.declared.event.Event.TheVariants as events
use Rattle.cfs_core.specs.Words.{end_of, positions, start_of}
use Rattle.cfs_pmem.specs.declared.trace.Asked.{Asked}
use Rattle.cfs_pmem.specs.Images.{Seen}
use Rattle.cfs_pmem.specs.Operations.{Ask, all_allowed, last_refused}
use Rattle.cfs_block.specs.BlockImages.{BlockStep, content_of}
use Rattle.cfs_tracker.specs.declared.cell.Cell.{Cell}
use Rattle.cfs_tracker.specs.declared.cell.Cell.TheVariants as kinds
use Rattle.cfs_tracker.specs.declared.reading.Reading.{Reading}
use Rattle.cfs_tracker.specs.Cells.{cell_at}
use Rattle.cfs_tracker.specs.Dispatch.{holder}
use Rattle.cfs_tracker.specs.Reads.{blocker_of}
use Rattle.cfs_tracker.specs.View.{read_at}
use Rattle.cfs_inode.specs.declared.answers.ServeAnswer.{ServeAnswer}
use Rattle.cfs_inode.specs.declared.answers.ServeAnswer.TheVariants as answers
use Rattle.cfs_inode.specs.Reads.{without_read}
use Rattle.cfs_inode.specs.View.{StateView}

-- the blocks of the file, as they are seen
abbrev pub CellsSeen : Type 0
CellsSeen = List (Cell (Seen BlockStep))

-- ---- the bytes

-- a byte of a block that is at home, else 0
abbrev pub home_byte : Cell (Seen BlockStep) → ℕ → ℕ
home_byte (kinds.Home seen) k = get_or (content_of seen).bytes k 0
home_byte _ k = 0

abbrev pub byte_in : CellsSeen → ℕ → ℕ
byte_in cells position = home_byte (cell_at cells (position / BLOCK_LEN)) (position % BLOCK_LEN)

-- the stored byte at a position: 0 past the stored size, and where no block is at home
abbrev pub stored_byte : StateView → ℕ → ℕ
stored_byte state position =
    if nat_lt position state.tracker.stored then byte_in state.tracker.cells position else 0

-- those from a position on
abbrev pub stored_from : StateView → ℕ → ℕ → List ℕ
stored_from state from count = map (λ p. stored_byte state p) (range_with_len from count)

-- those of a span
abbrev pub stored_bytes : StateView → Span → List ℕ
stored_bytes state span = map (λ p. stored_byte state p) (positions span)

-- ---- the blocks

-- the number behind that of the last block with one of the positions between these
abbrev pub end_block : ℕ → ℕ → ℕ
end_block from to = if nat_lt from to then (to - 1) / BLOCK_LEN + 1 else from / BLOCK_LEN

-- the blocks with these positions
abbrev pub blocks_between : ℕ → ℕ → List ℕ
blocks_between from to =
    range_with_len (from / BLOCK_LEN) (end_block from to - from / BLOCK_LEN)

-- how many positions a span has
abbrev pub count_of : Span → ℕ
count_of span = end_of span - start_of span

-- the place whose job has the first of these blocks that is lent
abbrev pub first_lender : CellsSeen → List ℕ → Option ℕ
first_lender cells [] = None
first_lender cells (k ∷ ks) = option_or (holder cells (Some k)) (first_lender cells ks)

abbrev pub lender_in : CellsSeen → ℕ → ℕ → Option ℕ
lender_in cells from to = first_lender cells (blocks_between from to)

-- ---- what a read waits for

abbrev pub lender_for : CellsSeen → Option Reading → Option ℕ
lender_for cells None = None
lender_for cells (Some read) = lender_in cells (start_of read.span) (end_of read.span)

-- what stands in its way, else the place whose job has a block that it needs
abbrev pub waits_for : StateView → ℕ → Option ℕ
waits_for state place =
    option_or (blocker_of state.tracker.entries (read_at state.tracker.reads place))
    (lender_for state.tracker.cells (read_at state.tracker.reads place))

-- a read is pending, and has so many bytes
pub record IsRead (state : StateView) (place count : ℕ) : Type 0 where
  pub read : Reading
  pub there : read_at state.tracker.reads place ≡ Some read
  pub room : count ≡ count_of read.span

-- a read is pending, and has the positions between these
pub record IsReadOf (state : StateView) (place from to : ℕ) : Type 0 where
  pub read : Reading
  pub there : read_at state.tracker.reads place ≡ Some read
  pub from_is : from ≡ start_of read.span
  pub to_is : to ≡ end_of read.span

-- ---- the steps

abbrev pub home_device : Cell (Seen BlockStep) → List ℕ
home_device (kinds.Home seen) = seen.device ∷ []
home_device _ = []

-- the devices of the blocks that are at home among these, the last one first
abbrev pub home_devices : CellsSeen → List ℕ → List ℕ
home_devices cells [] = []
home_devices cells (k ∷ ks) = home_devices cells ks ++ home_device (cell_at cells k)

abbrev pub read_ask : ℕ → Ask
read_ask device = record { device = device; writing = false }

-- a front of these reading steps was allowed, but for the last one
pub record ReadsStop (devices : List ℕ) (asked_old asked_new : List Asked) : Type 0 where
  pub left : ℕ
  pub within : left < length devices
  pub asked : asked_new ≡ last_refused read_ask (drop left devices) ++ asked_old

-- One reading step of each of these devices: on Ok all were allowed, on Err the last one that was
-- asked for was refused.
abbrev pub Reads : {T E : Type 0} → List ℕ → Result T E → List Asked → List Asked → Type 0
Reads devices (Ok done) asked_old asked_new =
    asked_new ≡ all_allowed read_ask devices ++ asked_old
Reads devices (Err fault) asked_old asked_new = ReadsStop devices asked_old asked_new

-- ---- the answer

-- the reading steps of a read: one of each block at home that holds one of its positions
abbrev pub devices_for : StateView → Option Reading → List ℕ
devices_for state None = []
devices_for state (Some read) =
    home_devices state.tracker.cells (blocks_between (start_of read.span) (end_of read.span))

abbrev pub bytes_for : StateView → Option Reading → List ℕ
bytes_for state None = []
bytes_for state (Some read) = stored_bytes state read.span

abbrev pub read_of : StateView → ℕ → Option Reading
read_of state place = read_at state.tracker.reads place

-- What `serve` answers and leaves: the stored bytes of the read, which is pending no more; or the
-- place that it waits for, and nothing was done; or a block could not be read, and all is as it
-- was.
abbrev pub Serves : Bool → ℕ → ServeAnswer → List ℕ → List Asked → StateView → List Asked →
    StateView → Type 0
Serves obeys place answers.Served bytes asked_old old asked_new new =
    (waits_for old place ≡ None)
    × ((bytes ≡ bytes_for old (read_of old place))
    × ((new ≡ without_read place old)
    × (IsTrue obeys →
    Reads {T = Unit {0}} {E = Unit {0}} (devices_for old (read_of old place)) (Ok tt) asked_old
    asked_new)))
Serves obeys place (answers.NotYet before) bytes asked_old old asked_new new =
    (waits_for old place ≡ Some before) × ((asked_new ≡ asked_old) × (new ≡ old))
Serves obeys place answers.Failed bytes asked_old old asked_new new =
    (waits_for old place ≡ None)
    × ((new ≡ old)
    × (IsTrue obeys →
    Reads {T = Unit {0}} {E = Unit {0}} (devices_for old (read_of old place)) (Err tt) asked_old
    asked_new))

abbrev pub serve_events : ℕ → ServeAnswer → List ℕ → List Event
serve_events place answers.Served bytes = events.Serve place (Some bytes) ∷ []
serve_events place (answers.NotYet before) bytes = []
serve_events place answers.Failed bytes = []
