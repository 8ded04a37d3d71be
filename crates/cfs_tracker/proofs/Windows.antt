-- A search over a range, where nothing passes but in a part of it.
use Rattle.std.proofs.Common.{◌≡◌, ◌∙◌, ap, arith, ◌+◌, ◌-◌, ◌<◌, ◌≤◌, ◌&&◌, cond, inl, inr, length, List, Option, None, Some, refl, suc, true, false, zero, max, min, ℕ, Bool}
use Rattle.std.specs.Prelude.{nat_lt}
use Rattle.std.specs.List.{find, range_with_len}
use Rattle.std.proofs.lemmas.Bool.{cases_lt}
use Rattle.std.proofs.lemmas.Bool.Decides.{nat_tests}
use Rattle.std.proofs.lemmas.List.{get_or_past}
use Rattle.cfs_file.specs.declared.sizes.TheConstants.{FILE_BLOCKS}
use Rattle.cfs_file.specs.declared.span.Span.{Span}
use Rattle.cfs_file.specs.Span.{meets}
use Rattle.cfs_core.specs.Words.{block_span}
use Rattle.cfs_core.specs.Jobs.{is_above}
use Rattle.cfs_tracker.specs.declared.cell.Cell.{Cell}
use Rattle.cfs_tracker.specs.declared.cell.Cell.TheVariants as kinds
use Rattle.cfs_tracker.specs.Admit.{is_mapped}
use Rattle.cfs_tracker.specs.Cells.{cell_at}
use Rattle.cfs_tracker.specs.Dispatch.{is_wanted_cell, next_cell}

-- nothing passes from a number on
find-none : (test : ℕ → Bool) (a n : ℕ) → ((k : ℕ) → a ≤ k → test k ≡ false) →
    find test (range_with_len a n) ≡ None
find-none test a zero fails = refl
find-none test a (suc n) fails =
    rw (fails a (omega arith)) (find-none test (a + 1) n (λ k le. fails k (omega arith)))

find-cut : (test : ℕ → Bool) (a n m : ℕ) → m ≤ n →
    ((k : ℕ) → a + m ≤ k → test k ≡ false) →
    find test (range_with_len a n) ≡ find test (range_with_len a m)
find-cut test a n zero le fails = find-none test a n (λ k low. fails k (omega arith))
find-cut test a zero (suc m) le fails = absurd (omega arith)
find-cut test a (suc n) (suc m) le fails =
    ap (λ (o : Option ℕ). cond (test a) (Some a) o)
    (find-cut test (a + 1) n m (omega arith) (λ k low. fails k (omega arith)))

-- nothing passes before a number
pub find-skip : (test : ℕ → Bool) (a n m : ℕ) → m ≤ n →
    ((k : ℕ) → k < a + m → test k ≡ false) →
    find test (range_with_len a n) ≡ find test (range_with_len (a + m) (n - m))
find-skip test a n zero le fails =
    (let one : a + 0 ≡ a = omega arith in let two : n - 0 ≡ n = omega arith in rw (one, two) refl)
find-skip test a zero (suc m) le fails = absurd (omega arith)
find-skip test a (suc n) (suc m) le fails =
    let first : test a ≡ false = fails a (omega arith) in
    let rest = find-skip test (a + 1) n m (omega arith) (λ k low. fails k (omega arith)) in
    let one : a + 1 + m ≡ a + suc m = omega arith in
    let two : n - m ≡ suc n - suc m = omega arith in
    rw first (rest ∙ (ap (λ (x : ℕ). find test (range_with_len x (n - m))) one
    ∙ ap (λ (x : ℕ). find test (range_with_len (a + suc m) x)) two))

find-window : (test : ℕ → Bool) (count low high : ℕ) → low ≤ count → high ≤ count →
    ((k : ℕ) → k < low → test k ≡ false) → ((k : ℕ) → high ≤ k → test k ≡ false) →
    find test (range_with_len 0 count) ≡ find test (range_with_len low (high - low))
find-window test count low high one two before behind =
    let skip = find-skip test 0 count low one (λ k less. before k (omega arith)) in
    let from : 0 + low ≡ low = omega arith in
    skip ∙ (ap (λ (x : ℕ). find test (range_with_len x (count - low))) from
    ∙ find-cut test low (count - low) (high - low) (omega arith) (λ k le. behind k (omega arith)))

-- ---- the blocks that a span may want

low-fails : {B : Type 0} (cells : List (Cell B)) (span : Span) (done : Option ℕ) (block : ℕ) →
    (is_above done block && meets span (block_span block)) ≡ false →
    is_wanted_cell cells span done block ≡ false
low-fails cells span done block h =
    four (nat_lt block FILE_BLOCKS) (is_above done block) (is_mapped (cell_at cells block))
    (meets span (block_span block)) h
  where
    four : (a b c d : Bool) → (b && d) ≡ false → (a && (b && (c && d))) ≡ false
    four false b c d h = refl
    four true false c d h = refl
    four true true false d h = refl
    four true true true d h = h

past-fails : {B : Type 0} (cells : List (Cell B)) (span : Span) (done : Option ℕ) (block : ℕ) →
    length cells ≤ block → is_wanted_cell cells span done block ≡ false
past-fails cells span done block past =
    let hole : cell_at cells block ≡ kinds.Hole = get_or_past cells block kinds.Hole past in
    let none : is_mapped (cell_at cells block) ≡ false = rw hole refl in
    three (nat_lt block FILE_BLOCKS) (is_above done block) (is_mapped (cell_at cells block))
    (meets span (block_span block)) none
  where
    three : (a b c d : Bool) → c ≡ false → (a && (b && (c && d))) ≡ false
    three false b c d h = refl
    three true false c d h = refl
    three true true false d h = refl
    three true true true d h = cc

and-left : (a b : Bool) → a ≡ false → (a && b) ≡ false
and-left false b h = refl
and-left true b h = cc

pub and-right : (a b : Bool) → b ≡ false → (a && b) ≡ false
and-right false b h = refl
and-right true b h = h

end-fails : {B : Type 0} (cells : List (Cell B)) (span : Span) (done : Option ℕ) (last block : ℕ) →
    ((k : ℕ) → last ≤ k → k < FILE_BLOCKS → meets span (block_span k) ≡ false) → last ≤ block →
    is_wanted_cell cells span done block ≡ false
end-fails cells span done last block ends le = elim (cases_lt block FILE_BLOCKS) [
  | inl low ↦
      low-fails cells span done block
      (and-right (is_above done block) (meets span (block_span block)) (ends block le low))
  | inr past ↦
      let none : nat_lt block FILE_BLOCKS ≡ false = grind (arith, nat_tests) in
      and-left (nat_lt block FILE_BLOCKS)
      (is_above done block && (is_mapped (cell_at cells block) && meets span (block_span block)))
      none
]

-- It is enough to search between the bounds that a span and the blocks that are done set.
pub next-window : {B : Type 0} (cells : List (Cell B)) (span : Span) (done : Option ℕ)
    (first above last low high : ℕ) →
    ((k : ℕ) → k < first → meets span (block_span k) ≡ false) →
    ((k : ℕ) → k < above → is_above done k ≡ false) →
    ((k : ℕ) → last ≤ k → k < FILE_BLOCKS → meets span (block_span k) ≡ false) →
    low ≤ length cells → high ≤ length cells → ((k : ℕ) → k < low → k < max first above) →
    ((k : ℕ) → high ≤ k → min last (length cells) ≤ k) →
    next_cell cells span done ≡ find (is_wanted_cell cells span done) (range_with_len low (high -
    low))
next-window cells span done first above last low high starts aboves ends one two lows highs =
    find-window (is_wanted_cell cells span done) (length cells) low high one two
    (λ k less. elim (cases_lt k first) [
      | inl before ↦
          low-fails cells span done k
          (and-right (is_above done k) (meets span (block_span k)) (starts k before))
      | inr from ↦
          low-fails cells span done k
          (and-left (is_above done k) (meets span (block_span k))
          (aboves k (omega (arith, lows k less))))
    ])
    (λ k le. elim (cases_lt k last) [
      | inl before ↦ past-fails cells span done k (omega (arith, highs k le))
      | inr from ↦ end-fails cells span done last k ends from
    ])
