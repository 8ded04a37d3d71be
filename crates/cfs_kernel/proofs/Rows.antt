-- Rows that may be empty, each at its number.
use Rattle.std.proofs.Common.{ℕ, zero, suc, ◌+◌, ◌≡◌, ◌≢◌, ◌<◌, ◌≤◌, Bool, true, false, not, List, [], ◌∷◌, length, map, Option, Some, None, inl, inr, refl, sym, ◌∙◌, ap, subst, arith, rules}
use Rattle.std.specs.Prelude.{IfSome, IsSome, get_or, is_some, nat_eq, replicate, set, slice_get}
use Rattle.std.specs.Option.{option_and_then}
use Rattle.std.proofs.lemmas.Bool.{cases_Bool, eqb-false, eqb-true}
use Rattle.std.proofs.lemmas.List.{length-map, map-set}
use Rattle.cfs_grants.specs.declared.grant.Grant.{Grant}
use Rattle.cfs_grants.specs.Grants.{free_from, free_queue}
use Rattle.cfs_queue.specs.Queue.{Slots, out_slots}
use Rattle.cfs_kernel.specs.Queues.{AreWhole, home_at}

abbrev pub at : {X : Type 0} → List (Option X) → ℕ → Option X
at rows i = option_and_then (λ row. row) (slice_get rows i)

pub set_same : {X : Type 0} (rows : List (Option X)) (i : ℕ) (row : Option X) → i < length rows → at (set rows i row) i ≡ row
set_same [] i row low = absurd (omega arith)
set_same (first ∷ rows) zero row low = refl
set_same (first ∷ rows) (suc i) row low = set_same rows i row (omega arith)

pub set_other : {X : Type 0} (rows : List (Option X)) (i j : ℕ) (row : Option X) → j ≢ i → at (set rows i row) j ≡ at rows j
set_other [] i j row apart = refl
set_other (first ∷ rows) zero zero row apart = absurd (apart refl)
set_other (first ∷ rows) zero (suc j) row apart = refl
set_other (first ∷ rows) (suc i) zero row apart = refl
set_other (first ∷ rows) (suc i) (suc j) row apart = set_other rows i j row (λ e. apart (ap (λ n. suc n) e))

pub at_past : {X : Type 0} (rows : List (Option X)) (i : ℕ) → length rows ≤ i → at rows i ≡ None
at_past [] i past = refl
at_past (first ∷ rows) zero past = absurd (omega arith)
at_past (first ∷ rows) (suc i) past = at_past rows i (omega arith)

pub at_within : {X : Type 0} (rows : List (Option X)) (i : ℕ) → is_some (at rows i) ≡ true → i < length rows
at_within [] i there = absurd (cc)
at_within (first ∷ rows) zero there = omega arith
at_within (first ∷ rows) (suc i) there = let low = at_within rows i there in omega (arith, low)

-- what an index reads
pub row_read : {X : Type 0} (rows : List (Option X)) (i : ℕ) (row : Option X) → i < length rows → row ≡ get_or rows i row → at rows i ≡ row
row_read [] i row low is = absurd (omega arith)
row_read (first ∷ rows) zero row low is = sym is
row_read (first ∷ rows) (suc i) row low is = row_read rows i row (omega arith) is

-- two tables, of which one has a row exactly where the other has none
pub others_length : {X Y : Type 0} (these : List (Option X)) (those : List (Option Y)) →
    map (λ x. is_some x) these ≡ map (λ y. not (is_some y)) those → length those ≡ length these
others_length {X = X} {Y = Y} these those e =
    sym (length-map those (λ (y : Option Y). not (is_some y))) ∙ ap length (sym e) ∙ length-map these (λ (x : Option X). is_some x)

pub others_at : {X Y : Type 0} (these : List (Option X)) (those : List (Option Y)) →
    map (λ x. is_some x) these ≡ map (λ y. not (is_some y)) those → (i : ℕ) → i < length these →
    is_some (at these i) ≡ not (is_some (at those i))
others_at [] those e i low = absurd (omega arith)
others_at (x ∷ these) [] e i low = absurd (cc)
others_at (x ∷ these) (y ∷ those) e zero low = cc
others_at (x ∷ these) (y ∷ those) e (suc i) low = others_at these those (cc) i (omega arith)

pub others_set : {X Y : Type 0} (these : List (Option X)) (those : List (Option Y)) (i : ℕ) (x : Option X) (y : Option Y) →
    map (λ x. is_some x) these ≡ map (λ y. not (is_some y)) those → is_some x ≡ not (is_some y) →
    map (λ x. is_some x) (set these i x) ≡ map (λ y. not (is_some y)) (set those i y)
others_set {X = X} {Y = Y} these those i x y e same =
    map-set (λ (x : Option X). is_some x) these i x
    ∙ ap (λ (bs : List Bool). set bs i (is_some x)) e
    ∙ ap (λ (b : Bool). set (map (λ (y : Option Y). not (is_some y)) those) i b) same
    ∙ sym (map-set (λ (y : Option Y). not (is_some y)) those i y)

pub not_neither : {X Y : Type 0} (these : List (Option X)) (those : List (Option Y)) (i : ℕ) →
    map (λ x. is_some x) these ≡ map (λ y. not (is_some y)) those → i < length these →
    at these i ≡ None → at those i ≡ None → ⊥
not_neither these those i e low no_this no_that =
    let one = others_at these those e i low in
    let a : is_some (at these i) ≡ false = ap (λ row. is_some row) no_this in
    let b : not (is_some (at those i)) ≡ true = ap (λ row. not (is_some row)) no_that in
    let clash : false ≡ true = sym a ∙ one ∙ b in
    cc

-- the lowest queue that is free has no grant
some_is : {X : Type 0} (row : Option X) → (row ≡ None → ⊥) → IsSome row
some_is None never = absurd (never refl)
some_is (Some x) never = search rules

pub free_from_is : (first : ℕ) (rows : List (Option Grant)) (queue : ℕ) → free_from first rows ≡ Some queue →
    (i : ℕ) × (queue ≡ first + i) × (i < length rows) × (at rows i ≡ None)
free_from_is first [] queue e = absurd (cc)
free_from_is first (None ∷ rows) queue e = (0, (let same : first ≡ queue = cc in omega (arith, same)), omega arith, refl)
free_from_is first (Some grant ∷ rows) queue e =
    let rest = free_from_is (suc first) rows queue e in
    (suc rest.0, (let is = rest.1 in omega (arith, is)), (let low = rest.2 in omega (arith, low)), rest.3)

pub free_queue_is : (rows : List (Option Grant)) (queue : ℕ) → free_queue rows ≡ Some queue →
    (queue < length rows) × (at rows queue ≡ None)
free_queue_is rows queue e =
    let found = free_from_is 0 rows queue e in
    let same : found.0 ≡ queue = let is = found.1 in omega (arith, is) in
    (subst (λ i. i < length rows) same found.2, subst (λ i. at rows i ≡ None) same found.3)

-- that queue is home
pub free_is_home : {X : Type 0} (grants : List (Option Grant)) (home : List (Option (Slots X))) (found : Option ℕ) →
    map (λ grant. is_some grant) grants ≡ map (λ queue. not (is_some queue)) home → found ≡ free_queue grants →
    IfSome found (λ queue. IsSome (home_at home queue))
free_is_home grants home None out is = tt
free_is_home grants home (Some queue) out is =
    let free = free_queue_is grants queue (sym is) in
    some_is (home_at home queue) (λ none. not_neither grants home queue out free.0 free.1 none)

-- the rows of a table that begins: each queue is home, and none has a grant
abbrev none_of : Option Grant
none_of = None

pub all_out : {X : Type 0} (queues : List (Slots X)) →
    map (λ grant. is_some grant) (replicate (length queues) none_of) ≡ map (λ queue. not (is_some queue)) (map (λ queue. Some queue) queues)
all_out [] = refl
all_out (queue ∷ queues) = ap (λ rest. false ∷ rest) (all_out queues)

-- where a queue comes home, or goes, all that are home are whole and at their numbers
pub whole_set : {X : Type 0} (home : List (Option (Slots X))) (number : ℕ) (row : Option (Slots X)) → AreWhole home → number < length home →
    ((queue : Slots X) → row ≡ Some queue → (queue.number ≡ number) × (out_slots queue ≡ [])) → AreWhole (set home number row)
whole_set home number row whole low is other queue there = elim (cases_Bool (nat_eq other number)) [
  | inl t ↦
      let same : other ≡ number = eqb-true other number t in
      let here : row ≡ Some queue = sym (set_same home number row low) ∙ ap (λ n. home_at (set home number row) n) (sym same) ∙ there in
      ((is queue here).0 ∙ sym same, (is queue here).1)
  | inr f ↦ whole other queue (sym (set_other home number other row (eqb-false other number f)) ∙ there)
]
