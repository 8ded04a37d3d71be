-- Slots of one queue, one above the other.
use Rattle.std.proofs.Common.{ℕ, zero, suc, ◌+◌, ◌-◌, ◌==◌, ◌<◌, ◌≡◌, ◌↔◌, true, false, List, [], ◌∷◌, length, get_or, take, inl, inr, sym, subst, arith}
use Rattle.std.proofs.lemmas.Bool.{cases_eq, ne_eqb}
use Rattle.std.specs.Prelude.{IsTrue}
use Rattle.cfs_slot.specs.Tails.{AreAbove}
use Rattle.cfs_long.specs.Chain.{AreChain, IsAbove}

above_more : (first : ℕ) (rest : List ℕ) (k : ℕ) → k < length rest → AreAbove first (take k rest) → IsAbove (get_or (first ∷ rest) k 0) (get_or rest k 0) → AreAbove first (take (suc k) rest)
above_more first [] k l h one = absurd (omega (arith, l))
above_more first (next ∷ rest) zero l h one = (one.0, one.1, one.2, tt)
above_more first (next ∷ rest) (suc k) l h one = (h.0, h.1, h.2, above_more next rest k (omega (arith, l)) h.3 one)

above_one : (first : ℕ) (rest : List ℕ) (k : ℕ) → k < length rest → AreAbove first rest → IsAbove (get_or (first ∷ rest) k 0) (get_or rest k 0)
above_one first [] k l h = absurd (omega (arith, l))
above_one first (next ∷ rest) zero l h = (h.0, h.1, h.2)
above_one first (next ∷ rest) (suc k) l h = above_one next rest k (omega (arith, l)) h.3

before : (k : ℕ) → suc k - 1 ≡ k
before k = omega arith

-- at first
pub chain_first : (devices : List ℕ) → 0 < length devices → AreChain (take 1 devices)
chain_first [] l = absurd (omega (arith, l))
chain_first (first ∷ rest) l = tt

-- one more
pub chain_more : (devices : List ℕ) (at : ℕ) → 0 < at → at < length devices → AreChain (take at devices) → IsAbove (get_or devices (at - 1) 0) (get_or devices at 0) → AreChain (take (at + 1) devices)
chain_more [] at some l h one = absurd (omega (arith, l))
chain_more (first ∷ rest) zero some l h one = absurd (omega (arith, some))
chain_more (first ∷ rest) (suc k) some l h one =
    let step : suc k + 1 ≡ suc (suc k) = omega arith in
    subst (λ n. AreChain (take n (first ∷ rest))) (sym step)
    (above_more first rest k (omega (arith, l)) h (subst (λ n. IsAbove (get_or (first ∷ rest) n 0) (get_or rest k 0)) (before k) one))

-- of all of them each is
pub chain_one : (devices : List ℕ) (at : ℕ) → 0 < at → at < length devices → AreChain devices → IsAbove (get_or devices (at - 1) 0) (get_or devices at 0)
chain_one [] at some l h = absurd (omega (arith, l))
chain_one (first ∷ rest) zero some l h = absurd (omega (arith, some))
chain_one (first ∷ rest) (suc k) some l h =
    subst (λ n. IsAbove (get_or (first ∷ rest) n 0) (get_or rest k 0)) (sym (before k)) (above_one first rest k (omega (arith, l)) h)

pub none_chain : (devices : List ℕ) → length devices ≡ 0 → AreChain devices → ⊥
none_chain [] e chain = chain
none_chain (first ∷ rest) e chain = omega (arith, e)

pub is_none : (n : ℕ) → (n == 0) ≡ true → n ≡ 0
is_none n e = elim (cases_eq n 0) [
  | inl here ↦ here
  | inr other ↦ let not_none : (n == 0) ≡ false = ne_eqb n 0 other in cc
]

pub is_some : (n : ℕ) → (n == 0) ≡ false → 0 < n
is_some zero e = cc
is_some (suc n) e = omega arith

-- a test that fails
pub never : {P : Type 0} → (P → ⊥) → IsTrue false ↔ P
never none = (λ e. cc, λ p. absurd (none p))
