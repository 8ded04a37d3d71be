-- Lists whose numbers ascend are one where they have the same members.
use Rattle.std.proofs.Common.{◌≡◌, ◌∙◌, ℕ, zero, suc, ◌+◌, ◌<◌, ◌≤◌, inl, inr, nat_eq}
use Rattle.std.proofs.Common.{List, [], ◌∷◌, length, map, get_or, arith, refl, sym, ap}
use Rattle.std.specs.List.{IsDistinct}
use Rattle.std.specs.List.Sorted.{IsNonDecreasingBy, IsPermutation}
use Rattle.std.specs.Cmp.{nat_eq_equiv, unsigned_Decides}
use Rattle.std.proofs.lemmas.List.{get_or-map, length-map}
use Rattle.std.proofs.lemmas.List.Sorted.{Contains-permutation, IsPermutation-map}
use Rattle.std.proofs.lemmas.List.Sorted.{IsPermutation-sym}
use Rattle.std.proofs.lemmas.Map.Keys.{IsDistinct-IsPermutation}
use Rattle.std.proofs.lemmas.Map.Made.{AllPairs-from_IsDistinct, IsDistinct-from_AllPairs}
use Rattle.cfs_medium.proofs.Has.{Has, contains-had, has-contained}

module _ {X : Type 0} (n : X → ℕ) where
  -- each number is above the one before
  abbrev pub Ascends : ℕ → List X → Type 0
  Ascends low [] = Unit {0}
  Ascends low (x ∷ xs) = (low ≤ n x) × Ascends (n x + 1) xs

  pub ascends-low : (low : ℕ) (xs : List X) (x : X) → Ascends low xs → Has xs x → low ≤ n x
  ascends-low low [] x up has = absurd has
  ascends-low low (y ∷ ys) x up has = elim has [
    | inl same ↦ omega (arith, up.0, ap n same)
    | inr more ↦ omega (arith, up.0, ascends-low (n y + 1) ys x up.1 more)
  ]

  -- the first of two such lists
  first-same : (low high : ℕ) (x y : X) (xs ys : List X) → Ascends low (x ∷ xs) →
      Ascends high (y ∷ ys) → Has (y ∷ ys) x → Has (x ∷ xs) y → x ≡ y
  first-same low high x y xs ys up over has had = elim has [
    | inl same ↦ same
    | inr later ↦ elim had [
      | inl same ↦ sym same
      | inr deeper ↦ absurd (omega (
        arith,
        ascends-low (n y + 1) ys x over.1 later,
        ascends-low (n x + 1) xs y up.1 deeper,
      ))
    ]
  ]

  -- a member of the rest is one of the other rest
  rest-has : (low : ℕ) (x y z : X) (xs ys : List X) → Ascends low (x ∷ xs) → x ≡ y →
      Has xs z → Has (y ∷ ys) z → Has ys z
  rest-has low x y z xs ys up same has had = elim had [
    | inl first ↦ absurd (omega (
      arith,
      ascends-low (n x + 1) xs z up.1 has,
      ap n first,
      ap n same,
    ))
    | inr more ↦ more
  ]

  pub ascending-same : (low high : ℕ) (xs ys : List X) → Ascends low xs → Ascends high ys →
      ((x : X) → Has xs x → Has ys x) → ((x : X) → Has ys x → Has xs x) → xs ≡ ys
  ascending-same low high [] [] up over there back = refl
  ascending-same low high [] (y ∷ ys) up over there back = absurd (back y (inl refl))
  ascending-same low high (x ∷ xs) [] up over there back = absurd (there x (inl refl))
  ascending-same low high (x ∷ xs) (y ∷ ys) up over there back =
      let same : x ≡ y = first-same low high x y xs ys up over (there x (inl refl))
      (back y (inl refl)) in
      ap (λ (z : X). z ∷ xs) same
      ∙ ap (λ (l : List X). y ∷ l)
      (ascending-same (n x + 1) (n y + 1) xs ys up.1 over.1
      (λ z has. rest-has low x y z xs ys up same has (there z (inr has)))
      (λ z has. rest-has high y x z ys xs over (sym same) has (back z (inr has))))

  -- neighbours that rise
  ascends-neighbours : (low : ℕ) (xs : List X) →
      ((d : X) → 0 < length xs → low ≤ n (get_or xs 0 d)) →
      ((k : ℕ) (d : X) → suc k < length xs → n (get_or xs k d) < n (get_or xs (suc k) d)) →
      Ascends low xs
  ascends-neighbours low [] first up = tt
  ascends-neighbours low (x ∷ xs) first up = (
    first x (omega arith),
    ascends-neighbours (n x + 1) xs (λ d less. let step = up 0 d (omega arith) in omega (arith, step))
        (λ k d less. up (suc k) d (omega arith)),
  )

  ascends-pairs : (low : ℕ) (xs : List X) (i j d : ℕ) → Ascends low xs → i < j →
      j < length (map n xs) → get_or (map n xs) i d < get_or (map n xs) j d
  ascends-pairs low [] i j d up less within = absurd (omega arith)
  ascends-pairs low (x ∷ xs) zero zero d up less within = absurd (omega arith)
  ascends-pairs low (x ∷ xs) zero (suc j) d up less within =
      let inside : j < length (map n xs) = omega arith in
      omega (arith, low-at (n x + 1) xs j d up.1 inside)
    where
      low-at : (low : ℕ) (xs : List X) (j d : ℕ) → Ascends low xs → j < length (map n xs) →
          low ≤ get_or (map n xs) j d
      low-at low [] j d up less = absurd (omega arith)
      low-at low (y ∷ ys) zero d up less = up.0
      low-at low (y ∷ ys) (suc j) d up less =
          omega (arith, up.0, low-at (n y + 1) ys j d up.1 (omega arith))
  ascends-pairs low (x ∷ xs) (suc i) zero d up less within = absurd (omega arith)
  ascends-pairs low (x ∷ xs) (suc i) (suc j) d up less within =
      ascends-pairs (n x + 1) xs i j d up.1 (omega arith) (omega arith)

  apart : (low : ℕ) (xs : List X) → Ascends low xs → IsDistinct nat_eq (map n xs)
  apart low xs up =
      IsDistinct-from_AllPairs unsigned_Decides (map n xs)
      (λ i j d less within same. absurd (omega (
        arith,
        same,
        ascends-pairs low xs i j d up less within,
      )))

  -- what is sorted by its numbers, and has the members of such a list, is that list
  pub sorted-same : (low : ℕ) (xs ys : List X) → Ascends low xs → IsPermutation xs ys →
      IsNonDecreasingBy n ys → ys ≡ xs
  sorted-same low xs ys up one sorted =
      sym (ascending-same low 0 xs ys up
      (ascends-neighbours 0 ys (λ d less. omega arith) (λ k d less.
      let long : length (map n ys) ≡ length ys = length-map ys n in
      omega (
        arith,
        sorted k (suc k) d (omega arith) less,
        get_or-map n ys k d 0 (omega arith),
        get_or-map n ys (suc k) d 0 (omega arith),
        AllPairs-from_IsDistinct unsigned_Decides (map n ys) distinct k (suc k) 0 (omega arith)
            (omega (arith, long)),
      )))
      (λ x has. has-contained ys x (Contains-permutation xs ys x one (contains-had xs x has)))
      (λ x has. has-contained xs x
      (Contains-permutation ys xs x (IsPermutation-sym xs ys one) (contains-had ys x has))))
    where
      distinct : IsDistinct nat_eq (map n ys)
      distinct = IsDistinct-IsPermutation nat_eq nat_eq_equiv.symm _ _
          (IsPermutation-map n xs ys one) (apart low xs up)
