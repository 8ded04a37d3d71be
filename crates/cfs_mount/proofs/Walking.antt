-- How far a walk over the records of a journal goes.
use Rattle.std.proofs.Common.{◌≡◌, ◌≢◌, ◌∙◌, ℕ, zero, suc, ◌+◌, ◌%◌, ◌<◌, ◌≤◌, ◌==◌, Bool, true}
use Rattle.std.proofs.Common.{false, if◌then◌else◌, List, [], ◌∷◌, length, get_or, refl, sym, ap}
use Rattle.std.proofs.Common.{subst, arith}
use Rattle.std.proofs.lemmas.Bool.Decides.{nat_tests}
use Rattle.cfs_journal.specs.Records.{gate_of}
use Rattle.cfs_journal.specs.Standing.{walk}

-- it goes no further than it may
pub walk_few : (most through : ℕ) (journal : List (List ℕ)) →
    length (walk most through journal) ≤ most
unfolding walk
walk_few zero through journal = omega arith
walk_few (suc most) through journal =
    split (gate_of (get_or journal (through % 64) []) == suc through)
    (walk_few most (suc through) journal)
  where
    split : (b : Bool) → length (walk most (suc through) journal) ≤ most →
        length (if b then get_or journal (through % 64) [] ∷ walk most (suc through) journal
        else []) ≤ suc most
    split true few = omega (arith, few)
    split false few = omega arith

-- a record that it reaches has the gate behind that of the record before it
pub walk_gate : (most through : ℕ) (journal : List (List ℕ)) (k : ℕ) →
    k < length (walk most through journal) →
    gate_of (get_or journal ((through + k) % 64) []) ≡ through + k + 1
unfolding walk
walk_gate zero through journal k below = absurd (omega (arith, below))
walk_gate (suc most) through journal k below =
    split (gate_of (get_or journal (through % 64) []) == suc through) refl
    (walk_gate most (suc through) journal) k below
  where
    split : (b : Bool) → (gate_of (get_or journal (through % 64) []) == suc through) ≡ b →
        ((k : ℕ) → k < length (walk most (suc through) journal) →
        gate_of (get_or journal ((suc through + k) % 64) []) ≡ suc through + k + 1) →
        (k : ℕ) → k < length (if b then get_or journal (through % 64) []
        ∷ walk most (suc through) journal else []) →
        gate_of (get_or journal ((through + k) % 64) []) ≡ through + k + 1
    split false is deeper k below = absurd (omega (arith, below))
    split true is deeper zero below =
        let same : through ≡ through + zero = omega arith in
        let here : gate_of (get_or journal (through % 64) []) ≡ suc through =
        grind (arith, nat_tests, is) in
        subst (λ t. gate_of (get_or journal (t % 64) []) ≡ t + 1) same (here ∙ omega arith)
    split true is deeper (suc k) below =
        let next : suc through + k ≡ through + suc k = omega arith in
        subst (λ t. gate_of (get_or journal (t % 64) []) ≡ t + 1) next
        (deeper k (omega (arith, below)))

-- and where it ends before it must, the next gate is another one
pub walk_end : (most through : ℕ) (journal : List (List ℕ)) →
    length (walk most through journal) < most →
    gate_of (get_or journal ((through + length (walk most through journal)) % 64) [])
    ≢ through + length (walk most through journal) + 1
unfolding walk
walk_end zero through journal less = absurd (omega (arith, less))
walk_end (suc most) through journal less =
    split (gate_of (get_or journal (through % 64) []) == suc through) refl
    (walk_end most (suc through) journal) less
  where
    Ends : ℕ → ℕ → Type 0
    Ends from n = gate_of (get_or journal ((from + n) % 64) []) ≢ from + n + 1

    split : (b : Bool) → (gate_of (get_or journal (through % 64) []) == suc through) ≡ b →
        (length (walk most (suc through) journal) < most →
        Ends (suc through) (length (walk most (suc through) journal))) →
        length (if b then get_or journal (through % 64) [] ∷ walk most (suc through) journal
        else []) < suc most →
        Ends through (length (if b then get_or journal (through % 64) []
        ∷ walk most (suc through) journal else []))
    split false is deeper less gate =
        let same : through + 0 ≡ through = omega arith in
        let here : gate_of (get_or journal (through % 64) []) ≡ suc through =
        ap (λ t. gate_of (get_or journal (t % 64) [])) (sym same) ∙ gate ∙ omega arith in
        absurd (grind (arith, nat_tests, is, here))
    split true is deeper less gate =
        let n : ℕ = length (walk most (suc through) journal) in
        let next : suc through + n ≡ through + suc n = omega arith in
        deeper (omega (arith, less))
        (subst (λ t. gate_of (get_or journal (t % 64) []) ≡ t + 1) (sym next) gate)
