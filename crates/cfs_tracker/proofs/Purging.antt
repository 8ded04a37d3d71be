-- Other work is chosen, and a tracker is emptied.
use Rattle.std.proofs.Common.{◌≡◌, ◌∙◌, ◌+◌, ◌<◌, ◌||◌, ap, arith, inl, inr, length, List, [], ◌∷◌}
use Rattle.std.proofs.Common.{None, Option, Some, refl, replicate, sym, false, true, suc, zero, ℕ}
use Rattle.std.proofs.Common.{subst, Bool}
use Rattle.std.specs.Prelude.{find, is_some, nat_lt}
use Rattle.std.specs.List.{list_any, range_with_len}
use Rattle.std.proofs.lemmas.Bool.{cases_Bool}
use Rattle.std.proofs.lemmas.Bool.Decides.{nat_tests}
use Rattle.cfs_file.specs.declared.sizes.TheConstants.{FILE_BLOCKS}
use Rattle.cfs_core.specs.declared.inode_core.Core.{Core}
use Rattle.cfs_core.proofs.Legal.{neither}
use Rattle.cfs_tracker.specs.declared.cell.Cell.{Cell}
use Rattle.cfs_tracker.specs.declared.cell.Cell.TheVariants as kinds
use Rattle.cfs_tracker.specs.declared.in_doubt.InDoubt.{InDoubt}
use Rattle.cfs_tracker.specs.Cells.{cell_at}
use Rattle.cfs_tracker.specs.Follows.{Follows}
use Rattle.cfs_tracker.specs.New.{stored_view}
use Rattle.cfs_tracker.specs.Purge.{is_away, is_in_use, next_kept}
use Rattle.cfs_tracker.specs.Trim.{is_held}
use Rattle.cfs_tracker.specs.View.{TrackerView}
use Rattle.cfs_tracker.specs.Work.{noted, passed_entry}
use Rattle.cfs_tracker.proofs.Putting.{follows-changed}

pub follows-noted : {S D B : Type 0} (view : TrackerView S D B) (core : Core) (place : ℕ) →
    Follows view core → Follows (noted place view) core
follows-noted view core place follows =
    follows-changed view core place passed_entry (λ e. refl) follows (λ e there is. record {
      grant = is.grant;
      span = is.span;
      applied = is.applied;
      done = is.done;
      doing = is.doing;
      gate = is.gate;
      idle = is.idle;
    })

-- ---- nothing is left

-- no number of a range passes where none is found there
range-none : (test : ℕ → Bool) (from count k : ℕ) →
    find test (range_with_len from count) ≡ None → k < count → test (from + k) ≡ false
range-none test from zero k none less = absurd (omega arith)
range-none test from (suc count) zero none less = elim (cases_Bool (test from)) [
  | inl own ↦
      let it : find test (range_with_len from (suc count)) ≡ Some from = rw own refl in
      cc
  | inr beside ↦ (let same : from + 0 ≡ from = omega arith in rw same beside)
]
range-none test from (suc count) (suc k) none less = elim (cases_Bool (test from)) [
  | inl own ↦
      let it : find test (range_with_len from (suc count)) ≡ Some from = rw own refl in
      cc
  | inr beside ↦
      let rest : find test (range_with_len from (suc count))
      ≡ find test (range_with_len (from + 1) count) =
      rw beside refl in
      let same : from + suc k ≡ from + 1 + k = omega arith in
      rw same (range-none test (from + 1) count k (sym rest ∙ none) (omega (arith, less)))
]

is-hole : {B : Type 0} (cell : Cell B) → is_away cell ≡ false → is_held cell ≡ false →
    cell ≡ kinds.Hole
is-hole kinds.Hole away held = refl
is-hole (kinds.Home home) away held = cc
is-hole (kinds.Unsure home) away held = cc
is-hole (kinds.Lent place) away held = cc
is-hole (kinds.Moving is_sure) away held = cc

all-holes : {B : Type 0} (cells : List (Cell B)) →
    list_any (λ cell. is_away cell) cells ≡ false →
    ((k : ℕ) → k < length cells → is_held (cell_at cells k) ≡ false) →
    cells ≡ replicate (length cells) kinds.Hole
all-holes [] away none = refl
all-holes {B} (cell ∷ cells) away none =
    let parts = neither (is_away cell) (list_any (λ c. is_away c) cells) away in
    let rest = all-holes cells parts.1 (λ k less. none (suc k) (omega (arith, less))) in
    let own = is-hole cell parts.0 (none 0 (omega arith)) in
    ap (λ (c : Cell B). c ∷ cells) own ∙ ap (λ (cs : List (Cell B)). kinds.Hole ∷ cs) rest

no-items : {X : Type 0} (xs : List X) → nat_lt 0 (length xs) ≡ false → xs ≡ []
no-items [] none = refl
no-items (x ∷ xs) none =
    (let some : nat_lt 0 (length (x ∷ xs)) ≡ true = grind (arith, nat_tests) in cc)

no-doubt : {D : Type 0} (doubt : Option (InDoubt D)) → is_some doubt ≡ false → doubt ≡ None
no-doubt None none = refl
no-doubt (Some doubt) none = cc

pub record IsUnused {S D B : Type 0} (view : TrackerView S D B) : Type 0 where
  pub entries : view.entries ≡ []
  pub reads : view.reads ≡ []
  pub doubt : view.doubt ≡ None
  pub away : list_any (λ cell. is_away cell) view.cells ≡ false

pub unused : {S D B : Type 0} (view : TrackerView S D B) → is_in_use view ≡ false → IsUnused view
unused view none =
    let entries = nat_lt 0 (length view.entries) in
    let reads = nat_lt 0 (length view.reads) in
    let away = list_any (λ cell. is_away cell) view.cells in
    let one = neither entries (reads || (is_some view.doubt || away)) none in
    let two = neither reads (is_some view.doubt || away) one.1 in
    let three = neither (is_some view.doubt) away two.1 in
    record {
      entries = no-items view.entries one.0;
      reads = no-items view.reads two.0;
      doubt = no-doubt view.doubt three.0;
      away = three.1;
    }

pub emptied-view : {S D B : Type 0} (view : TrackerView S D B) → length view.cells ≡ FILE_BLOCKS →
    is_in_use view ≡ false → next_kept view ≡ None →
    record view { count = 0; long = 0; stored = 0; is_sure = true } ≡ stored_view 0
emptied-view {S} {D} {B} view long none bare =
    let is = unused view none in
    let holes = all-holes view.cells is.away (λ k less.
    subst (λ (n : ℕ). is_held (cell_at view.cells n) ≡ false) (omega arith)
    (range-none (λ block. is_held (cell_at view.cells block)) 0 (length view.cells) k bare less)) in
    let cells : view.cells ≡ replicate FILE_BLOCKS kinds.Hole =
    holes ∙ ap (λ n. replicate n kinds.Hole) long in
    rw (is.entries, is.reads, is.doubt, cells) refl
