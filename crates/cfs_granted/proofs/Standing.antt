-- Grants that stand, before and behind a row is given or taken.
use Rattle.std.proofs.Common.{◌≡◌, ◌∙◌, ◌||◌, ◌&&◌, ℕ, Bool, true, false, List, [], ◌∷◌, Some, None}
use Rattle.std.proofs.Common.{ap, filter, get_or, inl, inr, refl, set, suc, sym, zero}
use Rattle.std.specs.List.{list_all}
use Rattle.std.proofs.lemmas.Bool.{and_from, and_parts, cases_Bool, or_right, or_left}
use Rattle.cfs_grants.specs.declared.grant.Grant.{Grant}
use Rattle.cfs_grants.specs.Grants.{grant_at}
use Rattle.cfs_granted.specs.Rows.{Rows, is_numbered, may_write, stands}

-- ---- lists

pub all-filter : {X : Type 0} (p q : X → Bool) (xs : List X) → list_all p xs ≡ true →
    list_all p (filter q xs) ≡ true
all-filter p q [] all = refl
all-filter p q (x ∷ xs) all =
    let parts = and_parts (p x) (list_all p xs) all in
    elim (cases_Bool (q x)) [
      | inl passes ↦ rw passes (and_from (p x) (list_all p (filter q xs)) parts.0 (all-filter p q xs parts.1))
      | inr fails ↦ rw fails (all-filter p q xs parts.1)
    ]

pub all-weaker : {X : Type 0} (p q : X → Bool) (xs : List X) →
    ((x : X) → p x ≡ true → q x ≡ true) → list_all p xs ≡ true → list_all q xs ≡ true
all-weaker p q [] weaker all = refl
all-weaker p q (x ∷ xs) weaker all =
    let parts = and_parts (p x) (list_all p xs) all in
    and_from (q x) (list_all q xs) (weaker x parts.0) (all-weaker p q xs weaker parts.1)

-- ---- grants

-- a grant that writes stands
pub writer-stands : (number : ℕ) (rows : Rows) → may_write number rows ≡ true →
    stands number rows ≡ true
writer-stands number [] writes = writes
writer-stands number (None ∷ rows) writes = writer-stands number rows writes
writer-stands number (Some grant ∷ rows) writes =
    elim (cases_Bool (is_numbered number (Some grant))) [
      | inl same ↦ or_left (is_numbered number (Some grant)) (stands number rows) same
      | inr other ↦ or_right (is_numbered number (Some grant)) (stands number rows)
          (writer-stands number rows
          (sym (ap (λ b. (b && grant.writes) || may_write number rows) other) ∙ writes))
    ]

-- what stood stands yet, behind a row is given that had none
pub stands-given : (number queue : ℕ) (grant : Grant) (rows : Rows) →
    grant_at rows queue ≡ None → stands number rows ≡ true →
    stands number (set rows queue (Some grant)) ≡ true
stands-given number queue grant [] none there = there
stands-given number zero grant (row ∷ rows) none there =
    or_right (is_numbered number (Some grant)) (stands number rows)
    (ap (λ r. stands number (r ∷ rows)) (sym none) ∙ there)
stands-given number (suc queue) grant (row ∷ rows) none there =
    elim (cases_Bool (is_numbered number row)) [
      | inl same ↦ or_left (is_numbered number row) (stands number (set rows queue (Some grant))) same
      | inr other ↦ or_right (is_numbered number row) (stands number (set rows queue (Some grant)))
          (stands-given number queue grant rows none
          (sym (ap (λ b. b || stands number rows) other) ∙ there))
    ]

-- and where it has another number than the grant that a row gives up
pub stands-closed : (number queue : ℕ) (rows : Rows) →
    is_numbered number (get_or rows queue None) ≡ false → stands number rows ≡ true →
    stands number (set rows queue None) ≡ true
stands-closed number queue [] other there = there
stands-closed number zero (row ∷ rows) other there =
    sym (ap (λ b. b || stands number rows) other) ∙ there
stands-closed number (suc queue) (row ∷ rows) other there =
    elim (cases_Bool (is_numbered number row)) [
      | inl same ↦ or_left (is_numbered number row) (stands number (set rows queue None)) same
      | inr apart ↦ or_right (is_numbered number row) (stands number (set rows queue None))
          (stands-closed number queue rows other
          (sym (ap (λ b. b || stands number rows) apart) ∙ there))
    ]
