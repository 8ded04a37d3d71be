-- Items that come out of a heap, one after another.
use Rattle.std.proofs.Common.{ℕ, ◌+◌, ◌≡◌, ◌≤◌, arith, false, List, [], ◌∷◌, ◌++◌, All, Option, Some, None, length, get_or, refl, sym, ap, ◌∙◌, subst, append_assoc, length-append}
use Rattle.std.specs.List.Sorted.{IsPermutation}
use Rattle.std.specs.Ordering.{flip_args, nat_cmp, on, is_lt}
use Rattle.std.specs.BinaryHeap.{IsHeap, IsUpperBound}
use Rattle.std.proofs.lemmas.Bool.Decides.{nat_tests}
use Rattle.std.proofs.lemmas.List.{append-nil}
use Rattle.std.proofs.lemmas.List.Elements.{All-cons, All-get_or, All-head, All-nil, All-push, All-tail}
use Rattle.std.proofs.lemmas.List.Sorted.{All-permutation, IsNonDecreasingBy-push, IsPermutation-append_right, IsPermutation-map, IsPermutation-pop_more, IsPermutation-refl, IsPermutation-trans, length_permutation}
use Rattle.cfs_pool.specs.Pool.{TakesLowest, items_of, taken_of}
use Rattle.cfs_pool.specs.declared.ranked.Ranked.{Ranked}

pub taken_of-push : {X : Type 0} (places : List (Option X)) (item : X) →
    taken_of (places ++ Some item ∷ []) ≡ taken_of places ++ item ∷ []
taken_of-push [] item = refl
taken_of-push (None ∷ places) item = taken_of-push places item
taken_of-push (Some x ∷ places) item = ap (λ l. x ∷ l) (taken_of-push places item)

not_below : (a b : ℕ) → is_lt (nat_cmp b a) ≡ false → a ≤ b
not_below a b e = grind (arith, nat_tests)

-- no item of a heap is lower than its greatest
upper : {X : Type 0} (number : X → ℕ) (top : X) (rest : List (Ranked X)) →
    IsUpperBound (flip_args (on (λ r. number r.item) nat_cmp)) (record { item = top }) rest →
    All (λ left. number top ≤ number left) (items_of rest)
upper number top [] h = All-nil (λ left. number top ≤ number left)
upper number top (r ∷ rest) h =
    All-cons (λ left. number top ≤ number left) r.item (items_of rest)
    (not_below (number top) (number r.item) h.0) (upper number top rest h.1)

pub taken_none : {X : Type 0} (number : X → ℕ) (before : List X) → TakesLowest number before [] before
taken_none number before = record {
  together = IsPermutation-refl before;
  ascending = λ i j d le lt. absurd (omega arith);
  lowest = λ k d lt i e within. absurd (omega arith);
}

-- one more
pub taken_more : {X : Type 0} (number : X → ℕ) (before : List X) (places : List (Option X))
    (left rest : List (Ranked X)) (top : Ranked X) →
    TakesLowest number before (taken_of places) (items_of left) → IsPermutation left (top ∷ rest) →
    IsUpperBound (flip_args (on (λ r. number r.item) nat_cmp)) top rest →
    TakesLowest number before (taken_of (places ++ Some top.item ∷ [])) (items_of rest)
taken_more {X} number before places left rest top h moved greatest =
    let items : IsPermutation (items_of left) (top.item ∷ items_of rest) =
    IsPermutation-map (λ r. r.item) left (top ∷ rest) moved in
    let low : All (λ other. All (λ item. number item ≤ number other) (taken_of places))
    (top.item ∷ items_of rest) =
    All-permutation (λ other. All (λ item. number item ≤ number other) (taken_of places))
    (items_of left) (top.item ∷ items_of rest) items h.lowest in
    let first : All (λ item. number item ≤ number top.item) (taken_of places) =
    All-head (λ other. All (λ item. number item ≤ number other) (taken_of places)) top.item
    (items_of rest) low in
    let above : All (λ other. number top.item ≤ number other) (items_of rest) =
    upper number top.item rest greatest in
    let P : List X → Type 0 = λ taken. TakesLowest number before taken (items_of rest) in
    subst P (sym (taken_of-push places top.item)) (record {
      together = IsPermutation-pop_more before (taken_of places) (items_of left) (items_of rest)
          top.item h.together items;
      ascending = IsNonDecreasingBy-push number (taken_of places) top.item h.ascending
          (λ d some. All-get_or (λ item. number item ≤ number top.item) (taken_of places) _ d
          (omega arith) first);
      lowest = λ k d lt.
          All-push (λ item. number item ≤ number (get_or (items_of rest) k d)) (taken_of places) top.item
          (All-tail (λ other. All (λ item. number item ≤ number other) (taken_of places)) top.item
          (items_of rest) low k d lt)
          (above k d lt);
    })

-- so many items have been taken out of a heap
pub record IsTaking {X : Type 0} (number : X → ℕ) (before : List (Ranked X))
    (places : List (Option X)) (left : List (Ranked X)) (k old new : ℕ) : Type 0 where
  pub heap : IsHeap (flip_args (on (λ r. number r.item) nat_cmp)) left
  pub places_count : length places ≡ k
  pub count : length (taken_of places) ≡ k
  pub left_count : length left + k ≡ length before
  pub lowest : TakesLowest number (items_of before) (taken_of places) (items_of left)
  pub room : new ≡ old

pub taking_more : {X : Type 0} (number : X → ℕ) (before : List (Ranked X))
    (places : List (Option X)) (left rest : List (Ranked X)) (k old new newer : ℕ) (top : Ranked X) →
    IsTaking number before places left k old new → IsPermutation left (top ∷ rest) →
    IsHeap (flip_args (on (λ r. number r.item) nat_cmp)) rest →
    IsUpperBound (flip_args (on (λ r. number r.item) nat_cmp)) top rest → newer ≡ new →
    IsTaking number before (places ++ Some top.item ∷ []) rest (k + 1) old newer
taking_more number before places left rest k old new newer top h moved heap greatest same =
    let one = length_permutation left (top ∷ rest) moved in
    record {
      heap = heap;
      places_count = length-append places _ ∙ (let e = h.places_count in
          let f : length places + 1 ≡ k + 1 = omega arith in f);
      count = ap length (taken_of-push places top.item) ∙ length-append (taken_of places) _
          ∙ (let e = h.count in let f : length (taken_of places) + 1 ≡ k + 1 = omega arith in f);
      left_count = (let e = h.left_count in omega arith);
      lowest = taken_more number (items_of before) places left rest top h.lowest moved greatest;
      room = same ∙ h.room;
    }

-- some items of a list are in a heap, and the others still stand in the list
pub record IsFilling {X : Type 0} (number : X → ℕ) (all rest : List X) (ranked : List (Ranked X))
    (before now : ℕ) : Type 0 where
  pub heap : IsHeap (flip_args (on (λ r. number r.item) nat_cmp)) ranked
  pub together : IsPermutation all (rest ++ items_of ranked)
  pub count : length rest + length ranked ≡ length all
  pub room : before ≤ now

pub filling_none : {X : Type 0} (number : X → ℕ) (all : List X) (ranked : List (Ranked X)) (n : ℕ) →
    IsHeap (flip_args (on (λ r. number r.item) nat_cmp)) ranked → ranked ≡ [] →
    IsFilling number all all ranked n n
filling_none number all ranked n h none = record {
  heap = h;
  together = (let P : List (Ranked _) → Type 0 = λ r. IsPermutation all (all ++ items_of r) in
      subst P (sym none) (let Q : List _ → Type 0 = λ l. IsPermutation all l in
      subst Q (sym (append-nil all)) (IsPermutation-refl all)));
  count = (let e : length ranked ≡ 0 = ap length none in omega arith);
  room = omega arith;
}

pub filling_more : {X : Type 0} (number : X → ℕ) (all rest left : List X) (item : X)
    (ranked more : List (Ranked X)) (before now later : ℕ) →
    IsFilling number all rest ranked before now → rest ≡ left ++ item ∷ [] →
    IsPermutation (record { item = item } ∷ ranked) more →
    IsHeap (flip_args (on (λ r. number r.item) nat_cmp)) more → now ≤ later →
    IsFilling number all left more before later
filling_more {X} number all rest left item ranked more before now later h is moved heap room =
    let items : IsPermutation (item ∷ items_of ranked) (items_of more) =
    IsPermutation-map (λ r. r.item) (record { item = item } ∷ ranked) more moved in
    let P : List X → Type 0 = λ l. IsPermutation all l in
    let one = length_permutation (record { item = item } ∷ ranked) more moved in
    record {
      heap = heap;
      together = IsPermutation-trans all (left ++ item ∷ items_of ranked) (left ++ items_of more)
          (subst P (ap (λ l. l ++ items_of ranked) is ∙ append_assoc left (item ∷ []) (items_of ranked))
          h.together)
          (IsPermutation-append_right left (item ∷ items_of ranked) (items_of more) items);
      count = (let e = h.count in
          let f : length rest ≡ length left + 1 = ap length is ∙ length-append left (item ∷ []) in
          omega arith);
      room = (let e = h.room in omega arith);
    }

pub filled : {X : Type 0} (number : X → ℕ) (all rest : List X) (ranked : List (Ranked X))
    (before now : ℕ) → IsFilling number all rest ranked before now → rest ≡ [] →
    IsPermutation all (items_of ranked)
filled {X} number all rest ranked before now h none =
    let P : List X → Type 0 = λ l. IsPermutation all (l ++ items_of ranked) in
    subst P none h.together
