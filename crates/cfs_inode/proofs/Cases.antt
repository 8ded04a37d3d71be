-- What is known of a doing or of a block is known of what it is told as.
use Rattle.std.proofs.Common.{◌≡◌, ◌∙◌, ap, inl, inr, List, [], ◌∷◌, map, Option, None, Some, refl}
use Rattle.std.proofs.Common.{ℕ}
use Rattle.std.proofs.Common.{Bool, true, false}
use Rattle.std.specs.List.{find}
use Rattle.std.specs.Option.{option_map}
use Rattle.std.proofs.Math.ListN.{get_or-map}
use Rattle.std.proofs.lemmas.Bool.{cases_Bool}
use Rattle.cfs_tracker.specs.declared.cell.Cell.{Cell}
use Rattle.cfs_tracker.specs.declared.cell.Cell.TheVariants as kinds
use Rattle.cfs_tracker.specs.declared.doing.Doing.{Doing}
use Rattle.cfs_tracker.specs.declared.doing.Doing.TheVariants as doings
use Rattle.cfs_tracker.specs.declared.pending.Pending.{Pending}
use Rattle.cfs_tracker.specs.Admit.{is_mapped}
use Rattle.cfs_tracker.specs.Cells.{cell_at}
use Rattle.cfs_tracker.specs.Dispatch.{is_waiting_doing, lent_to}
use Rattle.cfs_tracker.specs.Reads.{is_live_doing, place_of}
use Rattle.cfs_inode.specs.View.{told_cell, told_doing, told_entry}

-- ---- doings

pub live-told : {S T : Type 0} (tell : S → T) (now : Doing S) →
    is_live_doing (told_doing tell now) ≡ is_live_doing now
live-told tell (doings.Waiting slots) = refl
live-told tell doings.Marking = refl
live-told tell (doings.Out first second) = refl
live-told tell (doings.Covered slots) = refl
live-told tell doings.Closing = refl

pub waiting-told : {S T : Type 0} (tell : S → T) (now : Doing S) →
    is_waiting_doing (told_doing tell now) ≡ is_waiting_doing now
waiting-told tell (doings.Waiting slots) = refl
waiting-told tell doings.Marking = refl
waiting-told tell (doings.Out first second) = refl
waiting-told tell (doings.Covered slots) = refl
waiting-told tell doings.Closing = refl

-- ---- blocks

pub cell-told : {B C : Type 0} (tell : B → C) (cells : List (Cell B)) (block : ℕ) →
    cell_at (map (told_cell tell) cells) block ≡ told_cell tell (cell_at cells block)
cell-told tell cells block = get_or-map (told_cell tell) cells block kinds.Hole

pub mapped-told : {B C : Type 0} (tell : B → C) (cell : Cell B) →
    is_mapped (told_cell tell cell) ≡ is_mapped cell
mapped-told tell kinds.Hole = refl
mapped-told tell (kinds.Home block) = refl
mapped-told tell (kinds.Unsure block) = refl
mapped-told tell (kinds.Lent place) = refl
mapped-told tell (kinds.Moving is_sure) = refl

pub mapped-at : {B C : Type 0} (tell : B → C) (cells : List (Cell B)) (block : ℕ) →
    is_mapped (cell_at (map (told_cell tell) cells) block) ≡ is_mapped (cell_at cells block)
mapped-at tell cells block =
    ap is_mapped (cell-told tell cells block) ∙ mapped-told tell (cell_at cells block)

pub lent-told : {B C : Type 0} (tell : B → C) (cell : Cell B) →
    lent_to (told_cell tell cell) ≡ lent_to cell
lent-told tell kinds.Hole = refl
lent-told tell (kinds.Home block) = refl
lent-told tell (kinds.Unsure block) = refl
lent-told tell (kinds.Lent place) = refl
lent-told tell (kinds.Moving is_sure) = refl

-- ---- the first entry that passes a test

pub find-told : {S T : Type 0} (tell : S → T) (test : Pending S → Bool) (now : Pending T → Bool) →
    ((e : Pending S) → now (told_entry tell e) ≡ test e) → (es : List (Pending S)) →
    find now (map (told_entry tell) es) ≡ option_map (told_entry tell) (find test es)
find-told tell test now same [] = refl
find-told tell test now same (e ∷ es) = elim (cases_Bool (test e)) [
  | inl own ↦
      let also : now (told_entry tell e) ≡ true = same e ∙ own in
      rw (own, also) refl
  | inr beside ↦
      let also : now (told_entry tell e) ≡ false = same e ∙ beside in
      rw (beside, also) (find-told tell test now same es)
]

place-told : {S T : Type 0} (tell : S → T) (entry : Option (Pending S)) →
    place_of (option_map (told_entry tell) entry) ≡ place_of entry
place-told tell None = refl
place-told tell (Some entry) = refl

pub first-told : {S T : Type 0} (tell : S → T) (test : Pending S → Bool)
    (now : Pending T → Bool) → ((e : Pending S) → now (told_entry tell e) ≡ test e) →
    (es : List (Pending S)) →
    place_of (find now (map (told_entry tell) es)) ≡ place_of (find test es)
first-told tell test now same es =
    ap place_of (find-told tell test now same es) ∙ place-told tell (find test es)
