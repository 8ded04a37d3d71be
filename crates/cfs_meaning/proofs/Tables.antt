-- Tables of grants: what a queue has once it is granted or given back.
use Rattle.std.proofs.Common.{ℕ, zero, suc, ◌+◌, ◌≡◌, ◌≢◌, ◌<◌, List, [], ◌∷◌, length, Option, Some}
use Rattle.std.proofs.Common.{None, refl, ap, subst, arith}
use Rattle.std.specs.Prelude.{set}
use Rattle.cfs_grants.specs.declared.grant.Grant.{Grant}
use Rattle.cfs_grants.specs.Grants.{free_from, free_queue, grant_at}

pub at-set : (table : List (Option Grant)) (queue : ℕ) (row : Option Grant) →
    queue < length table → grant_at (set table queue row) queue ≡ row
at-set [] queue row low = absurd (omega arith)
at-set (first ∷ table) zero row low = refl
at-set (first ∷ table) (suc queue) row low = at-set table queue row (omega arith)

pub at-other : (table : List (Option Grant)) (queue other : ℕ) (row : Option Grant) →
    other ≢ queue → grant_at (set table queue row) other ≡ grant_at table other
at-other [] queue other row apart = refl
at-other (first ∷ table) zero zero row apart = absurd (apart refl)
at-other (first ∷ table) zero (suc other) row apart = refl
at-other (first ∷ table) (suc queue) zero row apart = refl
at-other (first ∷ table) (suc queue) (suc other) row apart =
    at-other table queue other row (λ is. apart (ap (λ n. suc n) is))

from-is : (first : ℕ) (table : List (Option Grant)) (queue : ℕ) →
    free_from first table ≡ Some queue →
    (k : ℕ) × (queue ≡ first + k) × (k < length table) × (grant_at table k ≡ None)
from-is first [] queue is = absurd (cc)
from-is first (None ∷ table) queue is =
    (0, (let same : first ≡ queue = cc in omega (arith, same)), omega arith, refl)
from-is first (Some grant ∷ table) queue is =
    let rest = from-is (suc first) table queue is in (
      suc rest.0,
      (let same = rest.1 in omega (arith, same)),
      (let low = rest.2 in omega (arith, low)),
      rest.3,
    )

-- a free queue is one of the table, and has no grant
pub free-is : (table : List (Option Grant)) (queue : ℕ) → free_queue table ≡ Some queue →
    (queue < length table) × (grant_at table queue ≡ None)
free-is table queue is =
    let found = from-is 0 table queue is in
    let same : found.0 ≡ queue = let at = found.1 in omega (arith, at) in
    (subst (λ k. k < length table) same found.2, subst (λ k. grant_at table k ≡ None) same found.3)
