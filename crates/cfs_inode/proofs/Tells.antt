-- A tracker whose slots and blocks are told as something else.
use Rattle.std.proofs.Common.{◌≡◌, ◌∙◌, ap, inl, inr, List, [], ◌∷◌, map, Option, None, Some, refl, ℕ}
use Rattle.std.proofs.lemmas.Bool.{cases_Bool}
use Rattle.std.specs.Option.{option_map}
use Rattle.cfs_tracker.specs.declared.doing.Doing.{Doing}
use Rattle.cfs_tracker.specs.declared.doing.Doing.TheVariants as doings
use Rattle.cfs_tracker.specs.declared.pending.Pending.{Pending}
use Rattle.cfs_tracker.specs.Skip.{closing, covered_in, covered_slots, skipped, unclosed}
use Rattle.cfs_tracker.specs.View.{TrackerView, doing, entry_at, is_at, with_entry, without}
use Rattle.cfs_inode.specs.View.{told, told_doing, told_entry}

-- ---- entries

pub at-told : {S T : Type 0} (tell : S → T) (es : List (Pending S)) (place : ℕ) →
    entry_at (map (told_entry tell) es) place ≡ option_map (told_entry tell) (entry_at es place)
at-told tell [] place = refl
at-told tell (x ∷ xs) place = elim (cases_Bool (is_at place x)) [
  | inl own ↦ rw own refl
  | inr beside ↦ rw beside (at-told tell xs place)
]

pub with-told : {S T : Type 0} (tell : S → T) (es : List (Pending S)) (place : ℕ) (now : Doing S) →
    map (told_entry tell) (with_entry place (doing now) es)
    ≡ with_entry place (doing (told_doing tell now)) (map (told_entry tell) es)
with-told tell [] place now = refl
with-told tell (x ∷ xs) place now = elim (cases_Bool (is_at place x)) [
  | inl own ↦ rw own refl
  | inr beside ↦
      rw beside (ap (λ ys. told_entry tell x ∷ ys) (with-told tell xs place now))
]

pub with-told-by : {S T : Type 0} (tell : S → T) (es : List (Pending S)) (place : ℕ)
    (change : Pending S → Pending S) (other : Pending T → Pending T) →
    ((e : Pending S) → told_entry tell (change e) ≡ other (told_entry tell e)) →
    map (told_entry tell) (with_entry place change es)
    ≡ with_entry place other (map (told_entry tell) es)
with-told-by tell [] place change other same = refl
with-told-by tell (x ∷ xs) place change other same = elim (cases_Bool (is_at place x)) [
  | inl own ↦ rw own (ap (λ y. y ∷ map (told_entry tell) xs) (same x))
  | inr beside ↦
      rw beside (ap (λ ys. told_entry tell x ∷ ys) (with-told-by tell xs place change other same))
]

pub without-told : {S T : Type 0} (tell : S → T) (es : List (Pending S)) (place : ℕ) →
    map (told_entry tell) (without place es) ≡ without place (map (told_entry tell) es)
without-told tell [] place = refl
without-told tell (x ∷ xs) place = elim (cases_Bool (is_at place x)) [
  | inl own ↦ rw own (without-told tell xs place)
  | inr beside ↦
      rw beside (ap (λ ys. told_entry tell x ∷ ys) (without-told tell xs place))
]

-- an entry that is changed twice, or changed and dropped

pub with-with : {S : Type 0} (es : List (Pending S)) (place : ℕ) (one now : Doing S) →
    with_entry place (doing now) (with_entry place (doing one) es)
    ≡ with_entry place (doing now) es
with-with [] place one now = refl
with-with (x ∷ xs) place one now = elim (cases_Bool (is_at place x)) [
  | inl own ↦ rw (own, own) refl
  | inr beside ↦ rw (beside, beside) (ap (λ ys. x ∷ ys) (with-with xs place one now))
]

pub without-with : {S : Type 0} (es : List (Pending S)) (place : ℕ) (one : Doing S) →
    without place (with_entry place (doing one) es) ≡ without place es
without-with [] place one = refl
without-with (x ∷ xs) place one = elim (cases_Bool (is_at place x)) [
  | inl own ↦ rw (own, own) refl
  | inr beside ↦ rw (beside, beside) (ap (λ ys. x ∷ ys) (without-with xs place one))
]

-- ---- no-ops

covered-in-told : {S T : Type 0} (tell : S → T) (now : Doing S) →
    covered_in (told_doing tell now) ≡ option_map tell (covered_in now)
covered-in-told tell (doings.Waiting slots) = refl
covered-in-told tell doings.Marking = refl
covered-in-told tell (doings.Out first second) = refl
covered-in-told tell (doings.Covered slots) = refl
covered-in-told tell doings.Closing = refl

covered-entry-told : {S T : Type 0} (tell : S → T) (entry : Option (Pending S)) →
    covered_slots (option_map (told_entry tell) entry) ≡ option_map tell (covered_slots entry)
covered-entry-told tell None = refl
covered-entry-told tell (Some entry) = covered-in-told tell entry.doing

pub covered-told : {S T : Type 0} (tell : S → T) (es : List (Pending S)) (place : ℕ) →
    covered_slots (entry_at (map (told_entry tell) es) place)
    ≡ option_map tell (covered_slots (entry_at es place))
covered-told tell es place =
    ap covered_slots (at-told tell es place) ∙ covered-entry-told tell (entry_at es place)

pub told-skipped : {S D B T E C : Type 0} (live : S → T) (doubt : D → E) (block : B → C)
    (place : ℕ) (view : TrackerView S D B) →
    told live doubt block (skipped place (closing place view))
    ≡ skipped place (told live doubt block view)
told-skipped live doubt block place view =
    ap (λ es. record (told live doubt block view) { entries = es })
    (ap (λ es. map (told_entry live) es) (without-with view.entries place doings.Closing)
    ∙ without-told live view.entries place)

pub told-unclosed : {S D B T E C : Type 0} (live : S → T) (doubt : D → E) (block : B → C)
    (place : ℕ) (slots : S) (view : TrackerView S D B) →
    told live doubt block (unclosed place slots (closing place view))
    ≡ unclosed place (live slots) (told live doubt block view)
told-unclosed live doubt block place slots view =
    ap (λ es. record (told live doubt block view) { entries = es })
    (ap (λ es. map (told_entry live) es)
    (with-with view.entries place doings.Closing (doings.Covered slots))
    ∙ with-told live view.entries place (doings.Covered slots))
