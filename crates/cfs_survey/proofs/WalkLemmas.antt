-- The records that a walk reaches.
use Rattle.std.proofs.Common.{◌≡◌, ℕ, ◌+◌, ◌%◌, ◌<◌, zero, suc, List, [], ◌∷◌, length, get_or, true}
use Rattle.std.proofs.Common.{false, Bool, refl, ◌∙◌, ap, arith}
use Rattle.std.specs.Prelude.{◌==◌, if◌then◌else◌}
use Rattle.cfs_journal.specs.Records.{gate_of}
use Rattle.cfs_journal.specs.Standing.{walk}

pub walk_none : (most through : ℕ) (journal : List (List ℕ)) → most ≡ 0 →
    length (walk most through journal) ≡ 0
unfolding walk
walk_none zero through journal none = refl
walk_none (suc n) through journal none = absurd (cc)

pub walk_stops : (most through : ℕ) (journal : List (List ℕ)) →
    (get_or (get_or journal (through % 64) []) 0 0 == through + 1) ≡ false
    → length (walk most through journal) ≡ 0
unfolding walk
walk_stops zero through journal other = refl
walk_stops (suc n) through journal other =
    let next : suc through ≡ through + 1 = omega arith in
    let here : List ℕ = get_or journal (through % 64) [] in
    ap (λ b. length (if b then here ∷ walk n (suc through) journal else []))
    (ap (λ s. gate_of here == s) next ∙ other)

pub walk_goes_on : (most n through : ℕ) (journal : List (List ℕ)) → most ≡ suc n →
    (get_or (get_or journal (through % 64) []) 0 0 == through + 1) ≡ true
    → length (walk most through journal) ≡ 1 + length (walk n (through + 1) journal)
unfolding walk
walk_goes_on zero n through journal more is = absurd (cc)
walk_goes_on (suc most) n through journal more is =
    let same : most ≡ n = cc in
    let next : suc through ≡ through + 1 = omega arith in
    let here : List ℕ = get_or journal (through % 64) [] in
    ap (λ b. length (if b then here ∷ walk most (suc through) journal else []))
    (ap (λ s. gate_of here == s) next ∙ is)
    ∙ ap (λ m. suc (length (walk m (suc through) journal))) same
    ∙ ap (λ t. suc (length (walk n t journal))) next
    ∙ (let one : suc (length (walk n (through + 1) journal))
    ≡ 1 + length (walk n (through + 1) journal) = omega arith in one)

-- each record reached stands at its position
pub walk_at : (most through : ℕ) (journal : List (List ℕ)) (k : ℕ) →
    k < length (walk most through journal)
    → get_or (walk most through journal) k [] ≡ get_or journal ((through + k) % 64) []
unfolding walk
walk_at zero through journal k below = absurd (omega (arith, below))
walk_at (suc n) through journal k below =
    split (gate_of (get_or journal (through % 64) []) == suc through)
    (walk_at n (suc through) journal) k below
  where
    split : (b : Bool)
        → ((k : ℕ) → k < length (walk n (suc through) journal) →
        get_or (walk n (suc through) journal) k [] ≡ get_or journal ((suc through + k) % 64) [])
        → (k : ℕ) →
        k < length (if b then get_or journal (through % 64) [] ∷
        walk n (suc through) journal else [])
        → get_or (if b then get_or journal (through % 64) [] ∷ walk n (suc through) journal else [])
        k [] ≡ get_or journal ((through + k) % 64) []
    split false deeper k below = absurd (omega (arith, below))
    split true deeper zero below =
        let same : through ≡ through + zero = omega arith in
        ap (λ t. get_or journal (t % 64) []) same
    split true deeper (suc k) below =
        let next : suc through + k ≡ through + suc k = omega arith in
        deeper k (omega (arith, below)) ∙ ap (λ t. get_or journal (t % 64) []) next
