-- What is taken from a pool, and what stays.
use Rattle.std.specs.Prelude.{ℕ, ◌≤◌, [], ◌∷◌, ◌++◌, All, List, Option, Some, None, map, refl}
use Rattle.std.specs.Coded.{Coded, code_by, coded×, coded_ℕ, coded_list}
use Rattle.std.specs.List.Sorted.{IsNonDecreasingBy, IsPermutation}
use Rattle.cfs_pool.specs.declared.ranked.Ranked.{Ranked}

-- the items that are free, in any order, and for how many there is room
pub record Stock (X : Type 0) : Type 0 where
  pub free : List X
  pub room : ℕ

abbrev pub stock_code : {X : Type 0} → Coded X → Coded (Stock X)
stock_code {X} code =
    code_by (List X × ℕ) (coded× (coded_list code) coded_ℕ)
    (λ s. (s.free, s.room)) (λ p. record { free = p.0; room = p.1 }) (λ _. refl)

-- the items of a heap
abbrev pub items_of : {X : Type 0} → List (Ranked X) → List X
items_of ranked = map (λ r. r.item) ranked

-- the items in a list of places
abbrev pub taken_of : {X : Type 0} → List (Option X) → List X
taken_of [] = []
taken_of (None ∷ places) = taken_of places
taken_of (Some item ∷ places) = item ∷ taken_of places

-- these are the items of the lowest numbers, ascending: together with what stays they are those
-- that were there, and none that stays has a lower number than one that is taken
pub record TakesLowest {X : Type 0} (number : X → ℕ) (before taken after : List X) : Type 0 where
  pub together : IsPermutation before (taken ++ after)
  pub ascending : IsNonDecreasingBy number taken
  pub lowest : All (λ left. All (λ item. number item ≤ number left) taken) after
