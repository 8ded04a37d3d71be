-- Blocks that are lent stay with jobs.
use Rattle.std.proofs.Common.{◌≡◌, ◌∙◌, ◌++◌, ◌||◌, ◌⊎◌, ◌==◌, ℕ, Bool, true, false, List, [], ◌∷◌}
use Rattle.std.proofs.Common.{Option, Some, None, Result, Ok, Err, ap, inl, inr, refl}
use Rattle.std.proofs.Common.{replicate, set, suc, sym, zero}
use Rattle.std.specs.List.{list_any}
use Rattle.std.proofs.lemmas.Bool.{cases_Bool, eq-eqb, or_left, or_right, true≢false}
use Rattle.std.proofs.lemmas.List.Folds.{list_any-append}
use Rattle.cfs_block.specs.BlockImages.{BlockStep}
use Rattle.cfs_job.specs.declared.turn.Turn.{Turn}
use Rattle.cfs_job.specs.declared.turn.Turn.TheVariants as turns
use Rattle.cfs_job.specs.Steps.{MakesTurn}
use Rattle.cfs_job.specs.Views.{JobView, TileView}
use Rattle.cfs_pmem.specs.declared.trace.Asked.{Asked}
use Rattle.cfs_file.specs.declared.sizes.TheConstants.{FILE_BLOCKS}
use Rattle.cfs_pmem.specs.Images.{Seen, WordStep}
use Rattle.cfs_tracker.specs.declared.cell.Cell.{Cell}
use Rattle.cfs_tracker.specs.declared.cell.Cell.TheVariants as kinds
use Rattle.cfs_tracker.specs.Cells.{cell_at}
use Rattle.cfs_tracker.specs.Finish.{home}
use Rattle.cfs_inode.specs.Backs.{tile_back}
use Rattle.cfs_inode.specs.declared.mapped.Mapped.{Mapped}
use Rattle.cfs_inode.specs.Jobs.{AreTile}
use Rattle.cfs_inode.specs.New.{MappedSeen, stored_state, with_homes}
use Rattle.cfs_inode.specs.View.{StateView}
use Rattle.cfs_active.specs.View.{ActiveView}
use Rattle.cfs_granted.specs.Lending.{IsWithJobs, holds, is_tile}
use Rattle.cfs_granted.proofs.Grantings.{Granting, homes-lent, not-lent, set-lent}

abbrev pub LendsNone : ℕ → Type 0
LendsNone block = ⊥

-- the same jobs are out
pub stays-lent : (test : ℕ → Bool) (old new : ActiveView) → new.jobs ≡ old.jobs →
    Granting test LendsNone old.state new.state → IsWithJobs old → IsWithJobs new
stays-lent test old new same granting lent = record {
  each = λ block place is.
      ap (λ js. list_any (λ j. holds block j) js) same
      ∙ elim (granting.cells block place is) [
        | inl before ↦ lent.each block place before
        | inr none ↦ absurd none
      ];
}

-- the same jobs are out, and the same blocks are lent
pub same-lent : (old new : ActiveView) →
    new.state.tracker.cells ≡ old.state.tracker.cells → new.jobs ≡ old.jobs → IsWithJobs old →
    IsWithJobs new
same-lent old new cells jobs lent = record {
  each = λ block place is.
      ap (λ js. list_any (λ j. holds block j) js) jobs
      ∙ lent.each block place (sym (ap (λ cs. cell_at cs block) cells) ∙ is);
}

-- no block of a stored file is
homes-none : {B : Type 0} (blocks : List (Mapped B)) (cells : List (Cell B)) (block place : ℕ) →
    cell_at (with_homes blocks cells) block ≡ kinds.Lent place →
    cell_at cells block ≡ kinds.Lent place
homes-none [] cells block place is = is
homes-none (mapped ∷ rest) cells block place is =
    (set-lent cells mapped.at block place (kinds.Home mapped.block) refl
    (homes-none rest (set cells mapped.at (kinds.Home mapped.block)) block place is)).0

hole-none : {B : Type 0} (n block place : ℕ) →
    cell_at {B = B} (replicate n kinds.Hole) block ≡ kinds.Lent place → ⊥
hole-none zero block place is = not-lent kinds.Hole place refl is
hole-none (suc n) zero place is = not-lent kinds.Hole place refl is
hole-none (suc n) (suc block) place is = hole-none n block place is

pub stored-lent : (ino stored : ℕ) (size : Seen WordStep) (blocks : List MappedSeen)
    (active : ActiveView) →
    active ≡ record { state = stored_state ino size stored blocks; jobs = [] } → IsWithJobs active
stored-lent ino stored size blocks active same = record {
  each = λ block place is.
      absurd (hole-none FILE_BLOCKS block place
      (homes-none blocks (replicate FILE_BLOCKS kinds.Hole) block place
      (sym (ap (λ (a : ActiveView). cell_at a.state.tracker.cells block) same) ∙ is)));
}

-- a further one is
pub given-lent : (test : ℕ → Bool) (old new : ActiveView) (job : JobView) →
    new.jobs ≡ old.jobs ++ job ∷ [] →
    Granting test (λ block. holds block job ≡ true) old.state new.state → IsWithJobs old →
    IsWithJobs new
given-lent test old new job are granting lent = record {
  each = λ block place is.
      ap (λ js. list_any (λ j. holds block j) js) are
      ∙ list_any-append (λ j. holds block j) old.jobs (job ∷ [])
      ∙ elim (granting.cells block place is) [
        | inl before ↦ or_left _ _ (lent.each block place before)
        | inr given ↦ or_right _ _ (or_left (holds block job) false given)
      ];
}

-- a block that a job was given is one that it has
pub tile-held : (cells : List (Cell (Seen BlockStep))) (at : Option ℕ) (tile : Option TileView)
    (block : ℕ) → AreTile cells at tile → at ≡ Some block → is_tile block tile ≡ true
tile-held cells None None block tiles is = absurd (some-none block (sym is))
  where
    some-none : {X : Type 0} (x : X) → Some x ≡ None → ⊥
    some-none x is = cc
tile-held cells None (Some tile) block tiles is = absurd tiles
tile-held cells (Some at) None block tiles is = absurd tiles
tile-held cells (Some at) (Some tile) block tiles is =
    eq-eqb tile.at block (tiles.at ∙ some-is at block is)
  where
    or_else : {X : Type 0} → X → Option X → X
    or_else x None = x
    or_else x (Some y) = y

    some-is : {X : Type 0} (x y : X) → Some x ≡ Some y → x ≡ y
    some-is x y is = ap (λ o. or_else x o) is

-- one of them is taken back, and its blocks come home
pub back-lent : (old new : ActiveView) (before : List JobView) (job : JobView)
    (behind : List JobView) → old.jobs ≡ before ++ job ∷ behind → new.jobs ≡ before ++ behind →
    new.state.tracker.cells
    ≡ home (tile_back job.second) (home (tile_back job.first) old.state.tracker.cells) →
    IsWithJobs old → IsWithJobs new
back-lent old new before job behind were are cells lent = record {
  each = λ block place is.
      let apart = homes-lent old.state.tracker.cells job block place
      (sym (ap (λ cs. cell_at cs block) cells) ∙ is) in
      let test : JobView → Bool = λ j. holds block j in
      let had : list_any test (before ++ job ∷ behind) ≡ true =
      sym (ap (λ js. list_any test js) were) ∙ lent.each block place apart.0 in
      let split : list_any test before || (holds block job || list_any test behind) ≡ true =
      sym (list_any-append test before (job ∷ behind)) ∙ had in
      let without : list_any test before || list_any test behind ≡ true =
      sym (ap (λ b. list_any test before || (b || list_any test behind)) apart.1) ∙ split in
      ap (λ js. list_any test js) are ∙ list_any-append test before behind ∙ without;
}

-- one of them makes a step
pub step-held : {T E : Type 0} (slots blocks keeps : Bool) (turn : Turn) (result : Result T E)
    (asked_old : List Asked) (old : JobView) (asked_new : List Asked) (new : JobView) →
    MakesTurn slots blocks keeps turn result asked_old old asked_new new → (block : ℕ) →
    holds block new ≡ holds block old
step-held slots blocks keeps turns.WriteFirst result asked_old old asked_new new did block =
    ap (λ j. holds block j) did.is
    ∙ ap (λ (t : TileView). (t.at == block) || is_tile block old.second) did.step.noted
    ∙ sym (ap (λ t. is_tile block t || is_tile block old.second) did.here)
step-held slots blocks keeps turns.WriteSecond result asked_old old asked_new new did block =
    ap (λ j. holds block j) did.is
    ∙ ap (λ (t : TileView). is_tile block old.first || (t.at == block)) did.step.noted
    ∙ sym (ap (λ t. is_tile block old.first || is_tile block t) did.here)
step-held slots blocks keeps turns.FlushFirst result asked_old old asked_new new did block =
    ap (λ j. holds block j) did.is
    ∙ ap (λ (t : TileView). (t.at == block) || is_tile block old.second) did.step.noted
    ∙ sym (ap (λ t. is_tile block t || is_tile block old.second) did.here)
step-held slots blocks keeps turns.FlushSecond result asked_old old asked_new new did block =
    ap (λ j. holds block j) did.is
    ∙ ap (λ (t : TileView). is_tile block old.first || (t.at == block)) did.step.noted
    ∙ sym (ap (λ t. is_tile block old.first || is_tile block t) did.here)
step-held slots blocks keeps turns.Nothing result asked_old old asked_new new did block =
    ap (λ j. holds block j) did.2

pub stepped-lent : (old new : ActiveView) (before : List JobView) (was now : JobView)
    (behind : List JobView) → old.jobs ≡ before ++ was ∷ behind →
    new.jobs ≡ before ++ now ∷ behind → new.state ≡ old.state →
    ((block : ℕ) → holds block now ≡ holds block was) → IsWithJobs old → IsWithJobs new
stepped-lent old new before was now behind were are same held lent = record {
  each = λ block place is.
      let test : JobView → Bool = λ j. holds block j in
      ap (λ js. list_any test js) are ∙ list_any-append test before (now ∷ behind)
      ∙ ap (λ b. list_any test before || (b || list_any test behind)) (held block)
      ∙ sym (list_any-append test before (was ∷ behind))
      ∙ sym (ap (λ js. list_any test js) were)
      ∙ lent.each block place
      (sym (ap (λ (s : StateView). cell_at s.tracker.cells block) same) ∙ is);
}
