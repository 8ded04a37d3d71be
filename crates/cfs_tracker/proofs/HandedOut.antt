-- What a job is given is what its entry is out with.
use Rattle.std.proofs.Common.{◌≡◌, ◌∙◌, ap, List, Option, None, Some, refl, true, ℕ}
use Rattle.std.specs.Prelude.{option_map}
use Rattle.cfs_tracker.specs.declared.cell.Cell.{Cell}
use Rattle.cfs_tracker.specs.declared.cell.Cell.TheVariants as kinds
use Rattle.cfs_tracker.specs.View.{TrackerView, entry_at, with_entry}
use Rattle.cfs_tracker.specs.Cells.{cell_at}
use Rattle.cfs_tracker.specs.Dispatch.{dispatched, is_home, is_kept, sent, tile_at, tile_in}
use Rattle.cfs_tracker.specs.Finish.{IsOut, number_of}
use Rattle.cfs_tracker.proofs.Dispatching.{AreBlocks, IsTaking, kept-by}
use Rattle.cfs_tracker.proofs.Entries.{here-with}

tile-in : {B : Type 0} (block : ℕ) (cell : Cell B) → is_home cell ≡ true →
    number_of (tile_in block cell) ≡ Some block
tile-in block kinds.Hole h = cc
tile-in block (kinds.Home home) h = refl
tile-in block (kinds.Unsure home) h = cc
tile-in block (kinds.Lent place) h = cc
tile-in block (kinds.Moving is_sure) h = cc

tile-number : {B : Type 0} (cells : List (Cell B)) (held : Option ℕ) → is_kept cells held ≡ true →
    number_of (tile_at cells held) ≡ held
tile-number cells None h = refl
tile-number cells (Some block) h = tile-in block (cell_at cells block) h

pub handed-out : {S D B : Type 0} (view : TrackerView S D B) (place : ℕ)
    (first second : Option ℕ) → IsTaking view place first second → AreBlocks view first second →
    IsOut (dispatched place first second view) place (tile_at view.cells first)
    (tile_at view.cells second)
handed-out {S} view place first second is are =
    let one = tile-number view.cells first (kept-by view.cells first are.first_kept) in
    let two = tile-number view.cells second (kept-by view.cells second are.second_kept) in
    let there : entry_at (with_entry place (sent first second) view.entries) place
    ≡ Some (sent first second is.entry) =
    here-with view.entries place (sent first second) (λ e. refl)
    ∙ ap (option_map (sent first second)) is.there in
    rw (there, one, two) refl
