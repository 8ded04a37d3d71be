-- The blocks of the file.
use Rattle.std.specs.Prelude.{ℕ, Bool, true, false, if◌then◌else◌, Option, Some, None, List, get_or, set}
use Rattle.cfs_tracker.specs.declared.cell.Cell.{Cell}
use Rattle.cfs_tracker.specs.declared.cell.Cell.TheVariants as kinds
use Rattle.cfs_tracker.specs.View.{TrackerView}

abbrev pub cell_at : {B : Type 0} → List (Cell B) → ℕ → Cell B
cell_at list block = get_or list block kinds.Hole

abbrev pub with_cell : {S D B : Type 0} → ℕ → Cell B → TrackerView S D B → TrackerView S D B
with_cell block cell view = record view { cells = set view.cells block cell }

-- the block that is kept here
abbrev pub held_in : {B : Type 0} → Cell B → Option B
held_in (kinds.Home home) = Some home
held_in (kinds.Unsure home) = Some home
held_in _ = None

-- it is in the caller's hands now
abbrev pub moving : {B : Type 0} → Cell B → Cell B
moving (kinds.Home home) = kinds.Moving true
moving (kinds.Unsure home) = kinds.Moving false
moving cell = cell

-- no block is tagged in every image, and none is kept here
abbrev pub is_bare : {B : Type 0} → Cell B → Bool
is_bare kinds.Hole = true
is_bare (kinds.Moving is_sure) = if is_sure then false else true
is_bare _ = false

-- what a block is once its tag was tried
abbrev pub tagged_cell : {B : Type 0} → B → Bool → Cell B
tagged_cell block kept = if kept then kinds.Home block else kinds.Unsure block
