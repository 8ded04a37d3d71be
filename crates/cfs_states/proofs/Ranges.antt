-- What functions of a number give over a range, where they differ at one number.
use Rattle.std.proofs.Common.{◌≡◌, ◌≢◌, ◌∙◌, ℕ, zero, suc, ◌+◌, ◌<◌, ◌≤◌, inl, inr}
use Rattle.std.proofs.Common.{Option, Some, None, List, [], ◌∷◌, ◌++◌, arith, refl, sym, ap, subst}
use Rattle.std.specs.List.{cons_option, filter_map, flat_map, range_with_len}
use Rattle.std.specs.List.Sorted.{IsPermutation}
use Rattle.std.proofs.lemmas.List.Concat.{flat_map-cons}
use Rattle.std.proofs.lemmas.List.Sorted.{IsPermutation-append, IsPermutation-append_right}
use Rattle.std.proofs.lemmas.List.Sorted.{IsPermutation-cons, IsPermutation-middle}
use Rattle.std.proofs.lemmas.List.Sorted.{IsPermutation-refl, IsPermutation-trans}
use Rattle.cfs_core.proofs.Order.{same_or_not}

-- ---- lists that are equal or permutations

pub same-order : {X : Type 0} (xs ys : List X) → xs ≡ ys → IsPermutation xs ys
same-order {X} xs ys same = subst (λ (l : List X). IsPermutation xs l) same (IsPermutation-refl xs)

pub turned : {X : Type 0} (x y : X) (xs : List X) → IsPermutation (x ∷ y ∷ xs) (y ∷ x ∷ xs)
turned x y xs = IsPermutation-middle (x ∷ []) y xs

-- one more at the front of the second part is one more at the front
pub moved-front : {X : Type 0} (xs ys zs : List X) (x : X) → IsPermutation ys (x ∷ zs) →
    IsPermutation (xs ++ ys) (x ∷ (xs ++ zs))
moved-front xs ys zs x same =
    IsPermutation-trans _ _ _ (IsPermutation-append_right xs ys (x ∷ zs) same)
    (IsPermutation-middle xs x zs)

cons-option-more : {X : Type 0} (o : Option X) (xs ys : List X) (x : X) →
    IsPermutation xs (x ∷ ys) → IsPermutation (cons_option o xs) (x ∷ cons_option o ys)
cons-option-more None xs ys x same = same
cons-option-more (Some first) xs ys x same =
    IsPermutation-trans _ _ _ (IsPermutation-cons first xs (x ∷ ys) same) (turned first x ys)

-- ---- filter_map over a range

pub filter_map-agree : {Y : Type 0} (f g : ℕ → Option Y) (a n : ℕ) →
    ((k : ℕ) → a ≤ k → k < a + n → f k ≡ g k) →
    filter_map f (range_with_len a n) ≡ filter_map g (range_with_len a n)
filter_map-agree f g a zero same = refl
filter_map-agree {Y} f g a (suc n) same =
    ap (λ (o : Option Y). cons_option o (filter_map f (range_with_len (a + 1) n)))
    (same a (omega arith) (omega arith))
    ∙ ap (λ (l : List Y). cons_option (g a) l)
    (filter_map-agree f g (a + 1) n (λ k low high. same k (omega arith) (omega arith)))

-- f and g agree but at b, where f alone has an item
pub filter_map-more : {Y : Type 0} (f g : ℕ → Option Y) (b : ℕ) (y : Y) (a n : ℕ) → a ≤ b →
    b < a + n → f b ≡ Some y → g b ≡ None →
    ((k : ℕ) → k ≢ b → a ≤ k → k < a + n → f k ≡ g k) →
    IsPermutation (filter_map f (range_with_len a n)) (y ∷ filter_map g (range_with_len a n))
filter_map-more f g b y a zero low high here none same = absurd (omega arith)
filter_map-more {Y} f g b y a (suc n) low high here none same = elim (same_or_not a b) [
  | inl is ↦
      same-order _ _
      (ap (λ (o : Option Y). cons_option o (filter_map f (range_with_len (a + 1) n)))
      (ap f is ∙ here)
      ∙ ap (λ (l : List Y). y ∷ l)
      (filter_map-agree f g (a + 1) n
      (λ k low high. same k (λ e. absurd (omega arith)) (omega arith) (omega arith))
      ∙ sym (ap (λ (o : Option Y). cons_option o (filter_map g (range_with_len (a + 1) n)))
      (ap g is ∙ none))))
  | inr differs ↦
      subst (λ (o : Option Y).
      IsPermutation (cons_option (f a) (filter_map f (range_with_len (a + 1) n)))
      (y ∷ cons_option o (filter_map g (range_with_len (a + 1) n))))
      (same a differs (omega arith) (omega arith))
      (cons-option-more (f a) _ _ y
      (filter_map-more f g b y (a + 1) n (let apart : a ≢ b = differs in omega arith)
      (omega arith) here none
      (λ k other low high. same k other (omega arith) (omega arith))))
]

-- ---- flat_map over a range

pub flat_map-agree : {Y : Type 0} (f g : ℕ → List Y) (a n : ℕ) →
    ((k : ℕ) → a ≤ k → k < a + n → IsPermutation (f k) (g k)) →
    IsPermutation (flat_map f (range_with_len a n)) (flat_map g (range_with_len a n))
flat_map-agree f g a zero same = IsPermutation-refl []
flat_map-agree {Y} f g a (suc n) same =
    subst (λ (l : List Y). IsPermutation l (flat_map g (a ∷ range_with_len (a + 1) n)))
    (sym (flat_map-cons f a (range_with_len (a + 1) n)))
    (subst (λ (l : List Y). IsPermutation (f a ++ flat_map f (range_with_len (a + 1) n)) l)
    (sym (flat_map-cons g a (range_with_len (a + 1) n)))
    (IsPermutation-append (f a) (g a) _ _ (same a (omega arith) (omega arith))
    (flat_map-agree f g (a + 1) n (λ k low high. same k (omega arith) (omega arith)))))

-- f and g agree but at b, where f has one more
pub flat_map-more : {Y : Type 0} (f g : ℕ → List Y) (b : ℕ) (y : Y) (a n : ℕ) → a ≤ b →
    b < a + n → f b ≡ y ∷ g b → ((k : ℕ) → k ≢ b → f k ≡ g k) →
    IsPermutation (flat_map f (range_with_len a n)) (y ∷ flat_map g (range_with_len a n))
flat_map-more f g b y a zero low high here same = absurd (omega arith)
flat_map-more {Y} f g b y a (suc n) low high here same =
    subst (λ (l : List Y). IsPermutation l (y ∷ flat_map g (a ∷ rest)))
    (sym (flat_map-cons f a rest))
    (subst (λ (l : List Y). IsPermutation (f a ++ flat_map f rest) (y ∷ l))
    (sym (flat_map-cons g a rest)) (elim (same_or_not a b) [
      | inl is ↦
          subst (λ (l : List Y). IsPermutation (l ++ flat_map f rest) (y ∷ (g a ++ flat_map g rest)))
          (sym (ap f is ∙ here ∙ ap (λ (k : ℕ). y ∷ g k) (sym is)))
          (IsPermutation-cons y (g a ++ flat_map f rest) (g a ++ flat_map g rest)
          (IsPermutation-append_right (g a) _ _
          (flat_map-agree f g (a + 1) n
          (λ k low high. same-order _ _ (same k (λ e. absurd (omega arith)))))))
      | inr differs ↦
          subst (λ (l : List Y). IsPermutation (l ++ flat_map f rest) (y ∷ (g a ++ flat_map g rest)))
          (sym (same a differs))
          (moved-front (g a) _ _ y
          (flat_map-more f g b y (a + 1) n (let apart : a ≢ b = differs in omega arith)
          (omega arith) here same))
    ]))
  where
    rest : List ℕ
    rest = range_with_len (a + 1) n
