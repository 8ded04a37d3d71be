-- A tracker goes on to follow its core where one block of the file changes its tag.
use Rattle.std.proofs.Common.{◌≡◌, ◌∙◌, arith, ◌<◌, get_or, inl, inr, length, List, refl, set, sym, true, false, ℕ, Bool, subst, get_or-set_other, length-set}
use Rattle.std.proofs.lemmas.Grind.{get_or-set_at}
use Rattle.cfs_file.specs.declared.sizes.TheConstants.{FILE_BLOCKS}
use Rattle.cfs_core.specs.declared.flag.Flag.{Flag}
use Rattle.cfs_core.specs.declared.flag.Flag.TheVariants as flags
use Rattle.cfs_core.specs.declared.inode_core.Core.{Core}
use Rattle.cfs_core.proofs.Order.{same_or_not}
use Rattle.cfs_core_laws.specs.Reached.{IsReached}
use Rattle.cfs_tracker.specs.declared.cell.Cell.{Cell}
use Rattle.cfs_tracker.specs.declared.cell.Cell.TheVariants as kinds
use Rattle.cfs_tracker.specs.View.{TrackerView}
use Rattle.cfs_tracker.specs.Cells.{cell_at, with_cell}
use Rattle.cfs_tracker.specs.Follows.{CellStands, Follows}

-- it is with no job
abbrev pub is_lent_cell : {B : Type 0} → Cell B → Bool
is_lent_cell (kinds.Lent place) = true
is_lent_cell _ = false

pub cell-here : {B : Type 0} (cells : List (Cell B)) (block : ℕ) (cell : Cell B) →
    block < length cells → cell_at (set cells block cell) block ≡ cell
cell-here cells block cell less = get_or-set_at cells block block cell kinds.Hole refl less

pub cell-beside : {B : Type 0} (cells : List (Cell B)) (block other : ℕ) (cell : Cell B) →
    (other ≡ block → ⊥) → cell_at (set cells block cell) other ≡ cell_at cells other
cell-beside cells block other cell apart = get_or-set_other cells block other cell kinds.Hole apart

pub not-lent-cell : {B : Type 0} (cell : Cell B) (place : ℕ) → is_lent_cell cell ≡ false →
    cell ≡ kinds.Lent place → ⊥
not-lent-cell cell place none is = (let lent : is_lent_cell cell ≡ true = rw is refl in cc)

pub follows-cell : {S D B : Type 0} (view : TrackerView S D B) (core : Core) (block : ℕ)
    (cell : Cell B) (tags : List Flag) → Follows view core →
    IsReached (record core { tags = tags }) → block < FILE_BLOCKS →
    is_lent_cell (cell_at view.cells block) ≡ false →
    ((other : ℕ) → (other ≡ block → ⊥) →
    get_or tags other flags.Off ≡ get_or core.tags other flags.Off) →
    CellStands cell (get_or tags block flags.Off) →
    Follows (with_cell block cell view) (record core { tags = tags })
follows-cell {S} {D} {B} view core block cell tags follows reached less own beside stands = record {
  reached = reached;
  up = follows.up;
  count = follows.count;
  long = follows.long;
  size = follows.size;
  sure = follows.sure;
  entries = follows.entries;
  rise = follows.rise;
  reads_rise = follows.reads_rise;
  syncs = follows.syncs;
  many = length-set view.cells block cell ∙ follows.many;
  cells = λ other low. elim (same_or_not other block) [
    | inl same ↦
        subst (λ (k : ℕ). CellStands (cell_at (set view.cells block cell) k) (get_or tags k
        flags.Off))
        (sym same)
        (subst (λ (c : Cell B). CellStands c (get_or tags block flags.Off))
        (sym (cell-here view.cells block cell (omega (arith, follows.many)))) stands)
    | inr apart ↦
        subst (λ (c : Cell B). CellStands c (get_or tags other flags.Off))
        (sym (cell-beside view.cells block other cell apart))
        (subst (λ (flag : Flag). CellStands (cell_at view.cells other) flag)
        (sym (beside other apart)) (follows.cells other low))
  ];
  lent = λ q other has. elim (same_or_not other block) [
    | inl same ↦
        absurd (not-lent-cell (cell_at view.cells block) q own
        (subst (λ (k : ℕ). cell_at view.cells k ≡ kinds.Lent q) same (follows.lent q other has)))
    | inr apart ↦ cell-beside view.cells block other cell apart ∙ follows.lent q other has
  ];
  doubt = follows.doubt;
}
