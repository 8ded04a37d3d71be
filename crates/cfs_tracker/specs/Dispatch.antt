-- A job takes a change and its next blocks.
use Rattle.std.specs.Prelude.{ℕ, Bool, true, false, ◌&&◌, if◌then◌else◌, Option, Some, None, List, length, find, nat_lt, nat_le, option_map, set}
use Rattle.std.specs.List.{range_with_len}
use Rattle.cfs_file.specs.declared.sizes.TheConstants.{FILE_BLOCKS}
use Rattle.cfs_file.specs.declared.span.Span.{Span}
use Rattle.cfs_file.specs.Span.{meets}
use Rattle.cfs_core.specs.Words.{block_span}
use Rattle.cfs_core.specs.Jobs.{is_above}
use Rattle.cfs_tracker.specs.declared.cell.Cell.{Cell}
use Rattle.cfs_tracker.specs.declared.cell.Cell.TheVariants as kinds
use Rattle.cfs_tracker.specs.declared.doing.Doing.{Doing}
use Rattle.cfs_tracker.specs.declared.doing.Doing.TheVariants.{Waiting, Out}
use Rattle.cfs_tracker.specs.declared.pending.Pending.{Pending}
use Rattle.cfs_tracker.specs.declared.reading.Reading.{Reading}
use Rattle.cfs_tracker.specs.declared.step.Step.{Step}
use Rattle.cfs_tracker.specs.declared.step.Step.TheVariants.{NotWaiting, NotYet, Takes}
use Rattle.cfs_tracker.specs.declared.tile.Tile.{Tile}
use Rattle.cfs_tracker.specs.Admit.{is_mapped}
use Rattle.cfs_tracker.specs.Cells.{cell_at}
use Rattle.cfs_tracker.specs.Reads.{is_live_doing, place_of}
use Rattle.cfs_tracker.specs.View.{TrackerView, entry_at, with_entry}

-- ---- the next blocks

-- the block is mapped, holds a position of the entry, and stands behind those that are done
abbrev pub is_wanted_cell : {B : Type 0} → List (Cell B) → Span → Option ℕ → ℕ → Bool
is_wanted_cell cells span done block =
    nat_lt block FILE_BLOCKS
    && (is_above done block && (is_mapped (cell_at cells block) && meets span (block_span block)))

abbrev pub next_cell : {B : Type 0} → List (Cell B) → Span → Option ℕ → Option ℕ
next_cell cells span done =
    find (is_wanted_cell cells span done) (range_with_len 0 (length cells))

-- none where the entry is applied
abbrev pub first_cell : {S B : Type 0} → List (Cell B) → Pending S → Option ℕ
first_cell cells entry = if entry.applied then None else next_cell cells entry.span entry.done

abbrev pub second_cell : {B : Type 0} → List (Cell B) → Span → Option ℕ → Option ℕ
second_cell cells span None = None
second_cell cells span (Some first) = next_cell cells span (Some first)

-- ---- what a change waits for

-- an earlier live entry that overlaps
abbrev pub is_ahead : {S : Type 0} → ℕ → Span → Pending S → Bool
is_ahead place span entry =
    nat_lt entry.place place && (is_live_doing entry.doing && meets entry.span span)

-- an earlier read that overlaps
abbrev pub is_read_ahead : ℕ → Span → Reading → Bool
is_read_ahead place span read = nat_lt read.place place && meets read.span span

abbrev pub lesser : Option ℕ → Option ℕ → Option ℕ
lesser None other = other
lesser (Some one) None = Some one
lesser (Some one) (Some other) = Some (if nat_le one other then one else other)

abbrev pub read_place : Option Reading → Option ℕ
read_place read = option_map (λ r. r.place) read

-- the first earlier live entry or read that overlaps
abbrev pub ahead : {S D B : Type 0} → TrackerView S D B → Pending S → Option ℕ
ahead view entry =
    lesser (place_of (find (is_ahead entry.place entry.span) view.entries))
    (read_place (find (is_read_ahead entry.place entry.span) view.reads))

-- the place whose job has the block
abbrev pub lent_to : {B : Type 0} → Cell B → Option ℕ
lent_to (kinds.Lent place) = Some place
lent_to _ = None

abbrev pub holder : {B : Type 0} → List (Cell B) → Option ℕ → Option ℕ
holder cells None = None
holder cells (Some block) = lent_to (cell_at cells block)

-- ---- what becomes of a change that is to be dispatched

abbrev pub is_waiting_doing : {S : Type 0} → Doing S → Bool
is_waiting_doing (Waiting slots) = true
is_waiting_doing _ = false

abbrev pub step_with : Option ℕ → Option ℕ → Option ℕ → Step
step_with (Some place) first second = NotYet place
step_with None first second = Takes first second

-- the lesser place among those whose jobs have one of the two blocks
abbrev pub step_of_blocks : {B : Type 0} → List (Cell B) → Option ℕ → Option ℕ → Step
step_of_blocks cells first second =
    step_with (lesser (holder cells first) (holder cells second)) first second

abbrev pub step_behind : {S D B : Type 0} → TrackerView S D B → Pending S → Option ℕ → Step
step_behind view entry (Some place) = NotYet place
step_behind view entry None =
    step_of_blocks view.cells (first_cell view.cells entry)
    (second_cell view.cells entry.span (first_cell view.cells entry))

abbrev pub step_of : {S D B : Type 0} → TrackerView S D B → Option (Pending S) → Step
step_of view None = NotWaiting
step_of view (Some entry) =
    if is_waiting_doing entry.doing then step_behind view entry (ahead view entry) else NotWaiting

abbrev pub step_at : {S D B : Type 0} → TrackerView S D B → ℕ → Step
step_at view place = step_of view (entry_at view.entries place)

-- ---- it is dispatched

abbrev pub lend : {B : Type 0} → ℕ → Option ℕ → List (Cell B) → List (Cell B)
lend place None cells = cells
lend place (Some block) cells = set cells block (kinds.Lent place)

-- it is out with these blocks, and from now on nothing else was chosen while it stood ready
abbrev pub sent : {S : Type 0} → Option ℕ → Option ℕ → Pending S → Pending S
sent first second entry = record entry { doing = Out first second; passed = 0 }

abbrev pub dispatched : {S D B : Type 0} → ℕ → Option ℕ → Option ℕ → TrackerView S D B →
    TrackerView S D B
dispatched place first second view = record view {
  entries = with_entry place (sent first second) view.entries;
  cells = lend place second (lend place first view.cells);
}

-- the block of the medium that is kept for a block of the file
abbrev pub tile_in : {B : Type 0} → ℕ → Cell B → Option (Tile B)
tile_in block (kinds.Home home) = Some (record { block = block; home = home })
tile_in block _ = None

abbrev pub tile_at : {B : Type 0} → List (Cell B) → Option ℕ → Option (Tile B)
tile_at cells None = None
tile_at cells (Some block) = tile_in block (cell_at cells block)

abbrev pub waiting_in : {S : Type 0} → Doing S → Option S
waiting_in (Waiting slots) = Some slots
waiting_in _ = None

-- the slots of a change that waits
abbrev pub waiting_slots : {S : Type 0} → Option (Pending S) → Option S
waiting_slots None = None
waiting_slots (Some entry) = waiting_in entry.doing

-- the block is not in the caller's hands to be given up
abbrev pub is_still : {B : Type 0} → Cell B → Bool
is_still (kinds.Moving is_sure) = if is_sure then false else true
is_still _ = true

-- there is no such block, or it is not
abbrev pub is_still_at : {B : Type 0} → List (Cell B) → Option ℕ → Bool
is_still_at cells None = true
is_still_at cells (Some block) = is_still (cell_at cells block)

-- neither of a job's two blocks is
abbrev pub are_still : {B : Type 0} → List (Cell B) → Option ℕ → Option ℕ → Bool
are_still cells first second = is_still_at cells first && is_still_at cells second

abbrev pub is_home : {B : Type 0} → Cell B → Bool
is_home (kinds.Home home) = true
is_home _ = false

-- there is no such block, or it is kept here
abbrev pub is_kept : {B : Type 0} → List (Cell B) → Option ℕ → Bool
is_kept cells None = true
is_kept cells (Some block) = is_home (cell_at cells block)
