-- What stands at devices one after another is found again in this order by a sort.
use Rattle.std.proofs.Common.{subst, ℕ, zero, suc, ◌+◌, ◌-◌, ◌<◌, ◌≤◌, ◌≡◌, ◌∙◌, nat_eq, List, [], ◌∷◌, length, get_or, map, sym, ap, arith}
use Rattle.std.specs.List.{All, IsDistinct, range_with_len}
use Rattle.std.specs.List.Sorted.{IsNonDecreasingBy, IsPermutation}
use Rattle.cfs_pmem.specs.Images.{Seen}
use Rattle.cfs_gather.specs.WordForWord.{FindsAll}
use Rattle.cfs_gather.proofs.ListLemmas.{told_permutation}
use Rattle.std.specs.Cmp.{nat_eq_equiv, unsigned_Decides}
use Rattle.std.proofs.lemmas.Grind.{same_number_lists}
use Rattle.std.proofs.lemmas.List.{get_or_default, get_or-map, length-map, same_lists}
use Rattle.std.proofs.lemmas.List.FromFn.{get_or-range_with_len, length-range_with_len}
use Rattle.std.proofs.lemmas.List.Sorted.{All-permutation, IsPermutation-map, length_permutation}
use Rattle.std.proofs.lemmas.Map.Keys.{IsDistinct-IsPermutation}
use Rattle.std.proofs.lemmas.Map.Made.{AllPairs-from_IsDistinct, IsDistinct-from_AllPairs}

-- numbers that rise, of which none is lower than the first one
rises : (a : ℕ) (ns : List ℕ) → ((k : ℕ) → k < length ns → a ≤ get_or ns k 0)
    → ((k : ℕ) → suc k < length ns → get_or ns k 0 < get_or ns (suc k) 0)
    → (k : ℕ) → k < length ns → a + k ≤ get_or ns k 0
rises a ns low up zero less = omega (arith, low 0 less)
rises a ns low up (suc k) less = omega (arith, rises a ns low up k (omega arith), up k less)

-- and none is higher than the last one
falls : (b : ℕ) (ns : List ℕ) → ((k : ℕ) → k < length ns → get_or ns k 0 < b)
    → ((k : ℕ) → suc k < length ns → get_or ns k 0 < get_or ns (suc k) 0)
    → (j k : ℕ) → k + j + 1 ≡ length ns → get_or ns k 0 + j < b
falls b ns high up zero k is = omega (arith, high k (omega arith))
falls b ns high up (suc j) k is =
    omega (arith, falls b ns high up j (suc k) (omega arith), up k (omega arith))

-- so they stand one after another
one_by_one : (a : ℕ) (ns : List ℕ) → ((k : ℕ) → k < length ns → a ≤ get_or ns k 0)
    → ((k : ℕ) → k < length ns → get_or ns k 0 < a + length ns)
    → ((k : ℕ) → suc k < length ns → get_or ns k 0 < get_or ns (suc k) 0)
    → ns ≡ range_with_len a (length ns)
one_by_one a ns low high up =
    same_number_lists ns (range_with_len a (length ns)) (sym (length-range_with_len a (length ns)))
    (λ k less. omega (
      arith,
      rises a ns low up k less,
      falls (a + length ns) ns high up (length ns - 1 - k) k (omega arith),
      get_or-range_with_len a (length ns) k 0 less,
    ))

apart_in : (a len : ℕ) → IsDistinct nat_eq (range_with_len a len)
apart_in a len =
    IsDistinct-from_AllPairs unsigned_Decides (range_with_len a len)
    (λ i j d less within same.
    let long : length (range_with_len a len) ≡ len = length-range_with_len a len in
    absurd (omega (
      arith,
      same,
      get_or-range_with_len a len i d (omega arith),
      get_or-range_with_len a len j d (omega arith),
    )))

module _ {X : Type 0} (n : X → ℕ) where
  -- Each is the one that stands at its number.
  abbrev Stands : ℕ → List X → X → Type 0
  Stands a xs x = (a ≤ n x) × (n x < a + length xs) × (x ≡ get_or xs (n x - a) x)

  number_at : (a : ℕ) (xs : List X) (k : ℕ) (d : X) → map n xs ≡ range_with_len a (length xs)
      → k < length xs → n (get_or xs k d) ≡ a + k
  number_at a xs k d is less =
      sym (get_or-map n xs k d 0 less) ∙ ap (λ l. get_or l k 0) is
      ∙ get_or-range_with_len a (length xs) k 0 less

  each_stands : (a : ℕ) (xs : List X) → map n xs ≡ range_with_len a (length xs)
      → All (Stands a xs) xs
  each_stands a xs is k d less =
      let number = number_at a xs k d is less in
      let back : n (get_or xs k d) - a ≡ k = omega (arith, number) in (
        omega (arith, number),
        omega (arith, number),
        get_or_default xs k d (get_or xs k d) less
            ∙ ap (λ i. get_or xs i (get_or xs k d)) (sym back),
      )

  numbers_again : (a : ℕ) (xs : List X) (y : X) (ys : List X) → length (y ∷ ys) ≡ length xs
      → All (Stands a xs) (y ∷ ys) → IsDistinct nat_eq (map n (y ∷ ys))
      → IsNonDecreasingBy n (y ∷ ys)
      → map n (y ∷ ys) ≡ range_with_len a (length (map n (y ∷ ys)))
  numbers_again a xs y ys long each apart sorted =
      let as_long : length (map n (y ∷ ys)) ≡ length (y ∷ ys) = length-map (y ∷ ys) n in
      one_by_one a (map n (y ∷ ys))
      (λ k less. omega (
        arith,
        (each k y (omega arith)).0,
        get_or-map n (y ∷ ys) k y 0 (omega arith),
      ))
      (λ k less. omega (
        arith,
        (each k y (omega arith)).1,
        get_or-map n (y ∷ ys) k y 0 (omega arith),
      ))
      (λ k less. omega (
        arith,
        sorted k (suc k) y (omega arith) (omega arith),
        get_or-map n (y ∷ ys) k y 0 (omega arith),
        get_or-map n (y ∷ ys) (suc k) y 0 (omega arith),
        AllPairs-from_IsDistinct unsigned_Decides (map n (y ∷ ys)) apart k (suc k) 0
            (omega arith) less,
      ))

  -- the same elements, sorted, are the same list
  pub sorted_again : (a : ℕ) (xs all ys : List X) → map n xs ≡ range_with_len a (length xs)
      → IsPermutation xs all → IsPermutation all ys → IsNonDecreasingBy n ys → ys ≡ xs
  sorted_again a xs all [] is one two sorted =
      same_lists [] xs (length_permutation all [] two ∙ length_permutation xs all one)
      (λ k d less. absurd (omega (arith, less)))
  sorted_again a xs all (y ∷ ys) is one two sorted =
      let long : length (y ∷ ys) ≡ length xs =
      length_permutation all (y ∷ ys) two ∙ length_permutation xs all one in
      let each = All-permutation (Stands a xs) all (y ∷ ys) two
      (All-permutation (Stands a xs) xs all one (each_stands a xs is)) in
      let first = subst (λ l. IsDistinct nat_eq l) (sym is) (apart_in a (length xs)) in
      let apart = IsDistinct-IsPermutation nat_eq nat_eq_equiv.symm _ _
      (IsPermutation-map n all (y ∷ ys) two)
      (IsDistinct-IsPermutation nat_eq nat_eq_equiv.symm _ _
      (IsPermutation-map n xs all one) first) in
      let numbers = numbers_again a xs y ys long each apart sorted in
      let as_long : length (map n (y ∷ ys)) ≡ length (y ∷ ys) = length-map (y ∷ ys) n in
      same_lists (y ∷ ys) xs long
      (λ k d less.
      let number = number_at a (y ∷ ys) k d
      (numbers ∙ ap (λ l. range_with_len a l) as_long) less in
      let back : n (get_or (y ∷ ys) k d) - a ≡ k = omega (arith, number) in
      (each k d less).2
      ∙ ap (λ i. get_or xs i (get_or (y ∷ ys) k d)) back
      ∙ get_or_default xs k (get_or (y ∷ ys) k d) d (omega arith))

-- what is told of a sorted list is sorted
sorted_told : {X A : Type 0} (f : X → A) (n : A → ℕ) (xs : List X)
    → IsNonDecreasingBy (λ x. n (f x)) xs → IsNonDecreasingBy n (map f xs)
sorted_told f n [] sorted i j d order less = absurd (omega (arith, less))
sorted_told f n (x ∷ xs) sorted i j d order less =
    let long : length (map f (x ∷ xs)) ≡ length (x ∷ xs) = length-map (x ∷ xs) f in
    omega (
      arith,
      sorted i j x order (omega arith),
      ap n (get_or-map f (x ∷ xs) i x d (omega arith)),
      ap n (get_or-map f (x ∷ xs) j x d (omega arith)),
    )

-- what was gathered and sorted is what stood
pub finds_all : {X S : Type 0} (f : X → Seen S) (parts : List (Seen S)) (before now : List X)
    → map f before ≡ parts → IsPermutation before now
    → IsNonDecreasingBy (λ x. (f x).device) now → FindsAll parts (map f now)
finds_all f parts before now is same sorted first stood stands one =
    sorted_again (λ seen. seen.device) first stood parts (map f now) stands one
    (told_permutation f parts before now is same)
    (sorted_told f (λ seen. seen.device) now sorted)
