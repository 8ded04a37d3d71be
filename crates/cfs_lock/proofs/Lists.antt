-- Sums over a list in which one element changes, and facts about each element.
use Rattle.std.proofs.Common.{◌≡◌, ◌≢◌, ℕ, zero, suc, ◌+◌, ◌≤◌, List, [], ◌∷◌, ◌++◌, sum_by, set, sym, ap, ◌∙◌, subst, ⊎_elim, arith}
use Rattle.std.proofs.lemmas.List.Sums.{sum_by-cons}
use Rattle.atomic_table.specs.Table.{rest}
use Rattle.atomic_table.proofs.Lists.{at_set, at_snoc}
use mathlib.Core.Option.{some, some-injective, some-ne-none}
use lib.ListN.{get_elem?}

module _ {A : Type 0} (f : A → ℕ) where
  -- the sum after a change of one element
  pub moved : (l : List A) (i : ℕ) (v w : A) → get_elem? l i ≡ some v → sum_by f (set l i w) + f v ≡ sum_by f l + f w
  moved [] i v w e = absurd (some-ne-none v (sym e))
  moved (x ∷ xs) zero v w e = omega (arith, sum_by-cons f w xs, sum_by-cons f x xs, ap f (some-injective x v e))
  moved (x ∷ xs) (suc i) v w e = omega (arith, sum_by-cons f x (set xs i w), sum_by-cons f x xs, moved xs i v w e)

  pub one : (l : List A) (i : ℕ) (v : A) → get_elem? l i ≡ some v → f v ≤ sum_by f l
  one [] i v e = absurd (some-ne-none v (sym e))
  one (x ∷ xs) zero v e = omega (arith, sum_by-cons f x xs, ap f (some-injective x v e))
  one (x ∷ xs) (suc i) v e = omega (arith, sum_by-cons f x xs, one xs i v e)

  -- two elements are within the sum
  pub two : (l : List A) (i j : ℕ) (v w : A) → j ≢ i → get_elem? l i ≡ some v → get_elem? l j ≡ some w → f v + f w ≤ sum_by f l
  two [] i j v w n e e' = absurd (some-ne-none v (sym e))
  two (x ∷ xs) zero zero v w n e e' = absurd (n (omega arith))
  two (x ∷ xs) zero (suc j) v w n e e' = omega (arith, sum_by-cons f x xs, ap f (some-injective x v e), one xs j w e')
  two (x ∷ xs) (suc i) zero v w n e e' = omega (arith, sum_by-cons f x xs, ap f (some-injective x w e'), one xs i v e)
  two (x ∷ xs) (suc i) (suc j) v w n e e' = omega (arith, sum_by-cons f x xs, two xs i j v w (λ p. n (ap suc p)) e e')

  -- a change that leaves the element's term leaves the sum
  pub same_sum : (l : List A) (i : ℕ) (v w : A) → get_elem? l i ≡ some v → f w ≡ f v → sum_by f (set l i w) ≡ sum_by f l
  same_sum l i v w e p = omega (arith, moved l i v w e, p)

  pub under : (g : A → ℕ) (l : List A) → ((i : ℕ) (v : A) → get_elem? l i ≡ some v → f v ≤ g v) → sum_by f l ≤ sum_by g l
  under g [] h = omega arith
  under g (x ∷ xs) h = omega (arith, sum_by-cons f x xs, sum_by-cons g x xs, h 0 x (λ i. some x), under g xs (λ i. h (suc i)))

module _ {A : Type 0} (P : A → Type 0) where
  -- what holds of the new element and of all others, holds of each
  pub each_set : (l : List A) (i : ℕ) (w : A) → P w → ((j : ℕ) (v : A) → j ≢ i → get_elem? l j ≡ some v → P v) → (j : ℕ) (v : A) → get_elem? (set l i w) j ≡ some v → P v
  each_set l i w p h j v e = ⊎_elim (λ t. subst P t.1 p) (λ t. h j v t.0 t.1) (at_set l i j w v e)

  pub each_snoc : (l : List A) (w : A) → P w → ((j : ℕ) (v : A) → get_elem? l j ≡ some v → P v) → (j : ℕ) (v : A) → get_elem? (l ++ w ∷ []) j ≡ some v → P v
  each_snoc l w p h j v e = ⊎_elim (λ t. h j v t) (λ t. subst P t p) (at_snoc l w v j e)

-- a list is its first element and the rest
pub split_front : {A : Type 0} (l m : List (ℕ × A)) (x : ℕ × A) → l ≡ x ∷ m → l ≡ x ∷ rest l
split_front l m x e = e ∙ ap (λ r. x ∷ r) (sym (ap rest e))
