-- A tracker is emptied, whose file is no longer in the tree.
use Rattle.std.specs.Prelude.{ℕ, Bool, true, false, ◌||◌, Option, is_some, length, find, nat_lt}
use Rattle.std.specs.List.{list_any, range_with_len}
use Rattle.cfs_tracker.specs.declared.cell.Cell.{Cell}
use Rattle.cfs_tracker.specs.declared.cell.Cell.TheVariants as kinds
use Rattle.cfs_tracker.specs.Cells.{cell_at}
use Rattle.cfs_tracker.specs.Trim.{is_held}
use Rattle.cfs_tracker.specs.View.{TrackerView}

-- the block is with a job or in the caller's hands
abbrev pub is_away : {B : Type 0} → Cell B → Bool
is_away (kinds.Lent place) = true
is_away (kinds.Moving is_sure) = true
is_away _ = false

-- a change is pending, a read is not answered, a request is in doubt, or a block is away
abbrev pub is_in_use : {S D B : Type 0} → TrackerView S D B → Bool
is_in_use view =
    nat_lt 0 (length view.entries)
    || (nat_lt 0 (length view.reads)
    || (is_some view.doubt || list_any (λ cell. is_away cell) view.cells))

-- the lowest block of the file that is kept here
abbrev pub next_kept : {S D B : Type 0} → TrackerView S D B → Option ℕ
next_kept view =
    find (λ block. is_held (cell_at view.cells block)) (range_with_len 0 (length view.cells))

-- the size word was written, and may be 0 or what it was
abbrev pub zero_unsure : {S D B : Type 0} → TrackerView S D B → TrackerView S D B
zero_unsure view = record view { stored = 0; is_sure = false }
