-- Cells that have a value each.
use Rattle.std.proofs.Common.{ℕ, zero, suc, ◌+◌, ◌<◌, ◌≤◌, ◌≡◌, ◌∙◌, Option, Some, None, List, [], ◌∷◌, ◌++◌, length, get_or, take, drop, refl, sym, ap, subst, arith, reverse}
use Rattle.std.proofs.lemmas.List.{append-nil, length-append, length-reverse, reverse-append, take_at}
use Rattle.std.specs.List.{refill}
use Rattle.std.specs.Option.{IfNone, option_to_list}
use Rattle.cfs_vec.specs.Cells.{somes, AreFull}

pub somes-append : {T : Type 0} (a b : List (Option T)) → somes (a ++ b) ≡ somes a ++ somes b
somes-append [] b = refl
somes-append (None ∷ a) b = somes-append a b
somes-append (Some x ∷ a) b = ap (λ xs. x ∷ xs) (somes-append a b)

pub somes_few : {T : Type 0} (cells : List (Option T)) → length (somes cells) ≤ length cells
somes_few [] = omega arith
somes_few (None ∷ cells) = omega (arith, somes_few cells)
somes_few (Some x ∷ cells) = omega (arith, somes_few cells)

pub full_more : {T : Type 0} (cells : List (Option T)) (x : T) → AreFull cells → AreFull (cells ++ Some x ∷ [])
full_more {T} cells x full = omega (arith, length-append cells (Some x ∷ []), ap (λ (xs : List T). length xs) (somes-append cells (Some x ∷ [])), length-append (somes cells) (x ∷ []))

-- the cell at an index has the value at that index
pub full_at : {T : Type 0} (cells : List (Option T)) (i : ℕ) (cell : Option T) (x : T) → AreFull cells → i < length cells → cell ≡ get_or cells i cell → cell ≡ Some x
    → x ≡ get_or (somes cells) i x
full_at [] i cell x full l is some = absurd (omega arith)
full_at (None ∷ cells) i cell x full l is some = absurd (omega (arith, somes_few cells))
full_at (Some y ∷ cells) zero cell x full l is some = let e : Some x ≡ Some y = sym some ∙ is in cc
full_at (Some y ∷ cells) (suc i) cell x full l is some = full_at cells i cell x (omega arith) (omega arith) is some

pub none_not_at : {T : Type 0} (cells : List (Option T)) (i : ℕ) (cell : Option T) → AreFull cells → i < length cells → cell ≡ get_or cells i cell → cell ≡ None → ⊥
none_not_at [] i cell full l is none = omega arith
none_not_at (None ∷ cells) i cell full l is none = omega (arith, somes_few cells)
none_not_at (Some y ∷ cells) zero cell full l is none = let e : Some y ≡ None = sym is ∙ none in cc
none_not_at (Some y ∷ cells) (suc i) cell full l is none = none_not_at cells i cell (omega arith) (omega arith) is none

-- where the last cell is taken away
pub full_less : {T : Type 0} (cells : List (Option T)) (cell : Option T) → AreFull (cells ++ cell ∷ []) → AreFull cells × (somes (cells ++ cell ∷ []) ≡ somes cells ++ option_to_list cell)
full_less {T} cells None full =
    absurd (omega (arith, somes_few cells, length-append cells (None ∷ []), ap (λ (xs : List T). length xs) (somes-append cells (None ∷ [])), length-append (somes cells) []))
full_less {T} cells (Some x) full = (
  omega (arith, full, length-append cells (Some x ∷ []), ap (λ (xs : List T). length xs) (somes-append cells (Some x ∷ [])), length-append (somes cells) (x ∷ [])),
  somes-append cells (Some x ∷ []),
)

-- in the other order
reverse-cons : {T : Type 0} (x : T) (xs : List T) → reverse (x ∷ xs) ≡ reverse xs ++ x ∷ []
reverse-cons x xs = reverse-append (x ∷ []) xs

pub somes-reverse : {T : Type 0} (cells : List (Option T)) → somes (reverse cells) ≡ reverse (somes cells)
somes-reverse [] = refl
somes-reverse (None ∷ cells) = ap (λ xs. somes xs) (reverse-cons None cells) ∙ somes-append (reverse cells) (None ∷ []) ∙ append-nil (somes (reverse cells)) ∙ somes-reverse cells
somes-reverse (Some x ∷ cells) =
    ap (λ xs. somes xs) (reverse-cons (Some x) cells) ∙ somes-append (reverse cells) (Some x ∷ []) ∙ ap (λ xs. xs ++ x ∷ []) (somes-reverse cells) ∙ sym (reverse-cons x (somes cells))

pub full_reverse : {T : Type 0} (cells : List (Option T)) → AreFull cells → AreFull (reverse cells)
full_reverse {T} cells full = omega (arith, full, ap (λ (xs : List T). length xs) (somes-reverse cells), length-reverse (somes cells), length-reverse cells)

-- where the last cell was taken away, if there was one
pub full_popped : {T : Type 0} (old new : List (Option T)) (cell : Option (Option T)) → old ≡ new ++ option_to_list cell → AreFull old → AreFull new
full_popped old new None is full = subst (λ cells. AreFull cells) (is ∙ append-nil new) full
full_popped old new (Some cell) is full = (full_less new cell (subst (λ cells. AreFull cells) is full)).0

pub popped_some : {T : Type 0} (old new : List (Option T)) (popped : Option (Option T)) (cell : Option T) → old ≡ new ++ option_to_list popped → popped ≡ Some cell → AreFull old
    → somes old ≡ somes new ++ option_to_list cell
popped_some old new popped cell is some full =
    let all : old ≡ new ++ cell ∷ [] = is ∙ ap (λ p. new ++ option_to_list p) some in
    ap (λ cells. somes cells) all ∙ (full_less new cell (subst (λ cells. AreFull cells) all full)).1

pub refilled : {T : Type 0} (old new : List T) → length new ≡ length old → refill (length old) old new ≡ new
refilled old new e =
    ap (λ n. take n (new ++ drop (length new) old)) (sym e) ∙ take_at new (drop (length new) old) (length new) refl

-- no cell is empty
pub popped_none : {T : Type 0} (old new : List (Option T)) (popped : Option (Option T)) (cell : Option T) → old ≡ new ++ option_to_list popped → popped ≡ Some cell → AreFull old
    → IfNone cell (somes old ≡ [])
popped_none {T} old new popped None is some full =
    let all : old ≡ new ++ None ∷ [] = is ∙ ap (λ p. new ++ option_to_list p) some in
    absurd (omega (
      arith,
      full,
      somes_few new,
      ap (λ (cells : List (Option T)). length cells) all,
      length-append new (None ∷ []),
      ap (λ (cells : List (Option T)). length (somes cells)) all,
      ap (λ (xs : List T). length xs) (somes-append new (None ∷ [])),
      length-append (somes new) [],
    ))
popped_none old new popped (Some x) is some full = tt
