-- A block past the stored size is given up.
use Rattle.std.specs.Prelude.{ℕ, ◌*◌, Bool, true, false, not, ◌&&◌, Option, Some, None, length, find, nat_lt, nat_le}
use Rattle.std.specs.List.{list_any, range_with_len}
use Rattle.cfs_file.specs.declared.sizes.TheConstants.{BLOCK_LEN, FILE_BLOCKS}
use Rattle.cfs_file.specs.declared.span.Span.{Span}
use Rattle.cfs_file.specs.Span.{meets}
use Rattle.cfs_core.specs.Words.{block_span}
use Rattle.cfs_tracker.specs.declared.cell.Cell.{Cell}
use Rattle.cfs_tracker.specs.declared.cell.Cell.TheVariants as kinds
use Rattle.cfs_tracker.specs.declared.in_doubt.InDoubt.{InDoubt}
use Rattle.cfs_tracker.specs.declared.pending.Pending.{Pending}
use Rattle.cfs_tracker.specs.Cells.{cell_at}
use Rattle.cfs_tracker.specs.Reads.{is_live_doing}
use Rattle.cfs_tracker.specs.View.{TrackerView}

-- a live entry that overlaps
abbrev pub is_live_in : {S : Type 0} → Span → Pending S → Bool
is_live_in span entry = is_live_doing entry.doing && meets entry.span span

abbrev pub is_doubt_in : {D : Type 0} → Span → Option (InDoubt D) → Bool
is_doubt_in span None = false
is_doubt_in span (Some doubt) = meets doubt.span span

-- The block is one of the file's and begins at or past the stored size, and no live entry and no
-- request in doubt has a position of it.
abbrev pub is_past : {S D B : Type 0} → TrackerView S D B → ℕ → Bool
is_past view block =
    nat_lt block FILE_BLOCKS
    && (nat_le view.stored (BLOCK_LEN * block)
    && (not (list_any (is_live_in (block_span block)) view.entries)
    && not (is_doubt_in (block_span block) view.doubt)))

abbrev pub is_held : {B : Type 0} → Cell B → Bool
is_held (kinds.Home home) = true
is_held (kinds.Unsure home) = true
is_held _ = false

-- the lowest such block whose tag is set or unsure and that is kept here
abbrev pub next_trim : {S D B : Type 0} → TrackerView S D B → Option ℕ
next_trim view =
    find (λ block. is_held (cell_at view.cells block) && is_past view block)
    (range_with_len 0 (length view.cells))

abbrev pub is_moving : {B : Type 0} → Cell B → Bool
is_moving (kinds.Moving is_sure) = true
is_moving _ = false

-- what is left of it once its tag was taken away: none, or, where that failed, a block whose tag is
-- unsure
abbrev pub left_cell : {B : Type 0} → Option B → Cell B
left_cell None = kinds.Hole
left_cell (Some home) = kinds.Unsure home
