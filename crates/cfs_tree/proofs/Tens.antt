-- Two hundred spans in tens, for the tests.
use Rattle.std.proofs.Common.{ℕ, zero, suc, ◌+◌, ◌-◌, ◌*◌, ◌^◌, ◌≡◌, ◌<◌, ◌≤◌, ◌⊎◌, inl, inr, ◌∙◌, false, cond, nat_lt, List, [], ◌∷◌, length, ap, arith}
use Rattle.std.proofs.lemmas.Bool.{cases_lt}
use Rattle.std.proofs.lemmas.Bool.Decides.{nat_tests}
use Rattle.std.proofs.lemmas.Nat.{mul-le}
use Rattle.std.proofs.Math.Pow.{pow_mono}
use Rattle.cfs_file.specs.declared.span.Span.{Span}
use Rattle.cfs_file.specs.declared.span.Span.TheVariants.{Range}
use Rattle.cfs_tree.specs.Spans.{IsWithinBound, insert_in_order, order_of, overlap_count}
use Rattle.cfs_tree.proofs.Lists.{square}

-- the spans [10 i, 10 i + 5) of the places i + 1, so many from this i on
abbrev pub tens_from : ℕ → ℕ → List (ℕ × Span)
tens_from i zero = []
tens_from i (suc n) = (i + 1, Range (10 * i) (10 * i + 5)) ∷ tens_from (i + 1) n

-- one more comes last
pub tens_more : (i n k : ℕ) → k ≡ i + n
    → insert_in_order (k + 1, Range (10 * k) (10 * k + 5)) (tens_from i n) ≡ tens_from i (n + 1)
tens_more i zero k e = let same : k ≡ i = omega arith in ap (λ (j : ℕ). (j + 1, Range (10 * j) (10 * j + 5)) ∷ []) same
tens_more i (suc n) k e =
    let new : ℕ × Span = (k + 1, Range (10 * k) (10 * k + 5)) in
    let first : ℕ × Span = (i + 1, Range (10 * i) (10 * i + 5)) in
    let later : nat_lt (order_of new) (order_of first) ≡ false = grind (arith, nat_tests) in
    let step : k ≡ i + 1 + n = omega arith in
    let more : suc (n + 1) ≡ suc n + 1 = omega arith in
    ap (λ b. cond b (new ∷ first ∷ tens_from (i + 1) n) (first ∷ insert_in_order new (tens_from (i + 1) n))) later
    ∙ ap (λ l. first ∷ l) (tens_more (i + 1) n k step)
    ∙ ap (λ m. tens_from i m) more

low_by : (h n : ℕ) → n ≤ 200 → 2 ^ h ≤ (n + 1) ^ 2 → (15 < h) ⊎ (h ≤ 15) → h ≤ 15
low_by h n few high (inr low) = low
low_by h n few high (inl lt) =
    let big : 65536 ≤ 2 ^ h = pow_mono (let l : 16 ≤ h = omega arith in l) in
    let most : (n + 1) * (n + 1) ≤ 201 * 201 = mul-le (n + 1) (n + 1) 201 201 (omega arith) (omega arith) in
    omega (arith, square (n + 1))

-- Where at most k of at most 200 spans are overlapped, the bound is 16 (k + 1) steps.
pub few_steps : (spans : List (ℕ × Span)) (asked : Span) (k before after : ℕ) → length spans ≤ 200 → overlap_count asked spans ≤ k
    → IsWithinBound spans asked (after - before) → after ≤ before + (k + 1) * 16
few_steps spans asked k before after few some (h, high, within) =
    let low = low_by h (length spans) few high (cases_lt 15 h) in
    let most = mul-le (overlap_count asked spans + 1) (h + 1) (k + 1) 16 (omega arith) (omega arith) in
    omega arith
