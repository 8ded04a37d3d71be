-- Where a number stands among the numbers of runs.
use Rattle.std.proofs.Common.{ℕ, zero, suc, ◌+◌, ◌-◌, ◌≡◌, ◌≢◌, ◌<◌, ◌≤◌, ◌⊎◌, inl, inr, max, arith, List, [], ◌∷◌, ◌++◌, All, Contains, Some, slice_get, drop, get_or, insert, length, take, refl, sym, ap, ◌∙◌, subst, length-append}
use Rattle.std.specs.List.{range_with_len}
use Rattle.std.proofs.lemmas.Bool.{cases_lt}
use Rattle.std.proofs.lemmas.List.{drop_more, get_or_default, take_all, take_at, take-append-drop}
use Rattle.std.proofs.lemmas.List.Elements.{All-append, All-nil, All-contains, All-same, All-weaker}
use Rattle.std.proofs.lemmas.Option.{get_or_from_slice_get, slice_get_within}
use Rattle.cfs_extent.specs.Runs.{AreAscending, AreRuns, EndsPast, IsLowest, IsSeat, RisesFrom, StandsAt, StartsFrom, end_of, next_start, numbers_of}
use Rattle.cfs_extent.specs.declared.run.Run.{Run}
use Rattle.cfs_extent.proofs.RunLemmas.{AreRuns-back, AreRuns-front, EndsPast-at, StartsFrom-drop, few_numbers, no_run, numbers_of-append}
use Rattle.cfs_extent.proofs.SplitAt.{above_start, as_runs, below_end, below_range, insert_at, stands}

pub below_256 : (f : ℕ) (R : List Run) → AreRuns f R → All (λ n. n < 256) (numbers_of R)
below_256 f [] h = All-nil (λ x. x < 256)
below_256 f (r ∷ R) h =
    All-append (λ x. x < 256) (range_with_len r.first r.count) (numbers_of R)
    (below_range r.first r.count 256 h.2) (below_256 (end_of r + 1) R h.3)

front : (R : List Run) (at : ℕ) → AreRuns 0 R → AreRuns 0 (take at R)
front R at h =
    AreRuns-front 0 (take at R) (drop at R)
    (let P : List Run → Type 0 = λ l. AreRuns 0 l in subst P (sym (take-append-drop at R)) h)

back : (R : List Run) (at : ℕ) → AreRuns 0 R → AreRuns (next_start 0 (take at R)) (drop at R)
back R at h =
    AreRuns-back 0 (take at R) (drop at R)
    (let P : List Run → Type 0 = λ l. AreRuns 0 l in subst P (sym (take-append-drop at R)) h)

pub numbers_split : (R : List Run) (at : ℕ) →
    numbers_of R ≡ numbers_of (take at R) ++ numbers_of (drop at R)
numbers_split R at =
    ap numbers_of (sym (take-append-drop at R)) ∙ numbers_of-append (take at R) (drop at R)

-- past the last run
pub all_below : (R : List Run) (k at n : ℕ) → AreRuns 0 R → IsSeat R k at n → length R ≤ at →
    All (λ n. n < k) (numbers_of R)
all_below R k at n h seat le =
    below_end 0 k R h
    (let P : List Run → Type 0 = λ l. next_start 0 l ≤ k + 1 in
    subst P (take_all at R le) seat.below)

apart_below : (k : ℕ) (N : List ℕ) → All (λ n. n < k) N → All (λ n. n ≢ k) N
apart_below k N h = All-weaker (λ n. n < k) (λ n. n ≢ k) (λ x lt e. absurd (omega arith)) N h

pub absent_past : (R : List Run) (k at n : ℕ) → AreRuns 0 R → IsSeat R k at n → length R ≤ at →
    All (λ n. n ≢ k) (numbers_of R)
absent_past R k at n h seat le = apart_below k (numbers_of R) (all_below R k at n h seat le)

-- what stands behind the seat of a number, where that run begins past it
behind : (R : List Run) (k at n m : ℕ) (r : Run) → AreRuns 0 R → at < length R → r ≡ get_or R at r →
    m ≤ r.first → All (λ n. m ≤ n) (numbers_of (drop at R))
behind R k at n m r h lt is le =
    let b : AreRuns (next_start 0 (take at R)) (r ∷ drop (at + 1) R) =
    AreRuns-back 0 (take at R) (r ∷ drop (at + 1) R) (as_runs R at r lt is h) in
    let P : List Run → Type 0 = λ l. All (λ n. m ≤ n) (numbers_of l) in
    subst P (sym (drop_more R at r lt ∙ ap (λ x. x ∷ drop (at + 1) R) (sym is)))
    (above_start r.first m (r ∷ drop (at + 1) R) le (omega arith, b.1, b.2, b.3))

pub absent_gap : (R : List Run) (k at n : ℕ) (r : Run) → AreRuns 0 R → IsSeat R k at n →
    at < length R → r ≡ get_or R at r → k < r.first → All (λ n. n ≢ k) (numbers_of R)
absent_gap R k at n r h seat lt is gap =
    All-same (λ n. n ≢ k) (numbers_of R) (numbers_of (take at R) ++ numbers_of (drop at R))
    (numbers_split R at)
    (All-append (λ n. n ≢ k) (numbers_of (take at R)) (numbers_of (drop at R))
    (apart_below k _ (below_end 0 k (take at R) (front R at h) seat.below))
    (All-weaker (λ n. k + 1 ≤ n) (λ n. n ≢ k) (λ x le e. absurd (omega arith)) _
    (behind R k at n (k + 1) r h lt is (omega arith))))

Contains-stands : (N : List ℕ) (i k : ℕ) → StandsAt N i k → Contains N k
Contains-stands N i k h =
    (i, slice_get_within N i k h.there, get_or_from_slice_get N i k k h.there)

pub lowest_at : (R : List Run) (k at n : ℕ) (r : Run) → AreRuns 0 R → IsSeat R k at n →
    at < length R → r ≡ get_or R at r → IsLowest (numbers_of R) k (max k r.first)
lowest_at R k at n r h seat lt is =
    let b : AreRuns (next_start 0 (take at R)) (r ∷ drop (at + 1) R) =
    AreRuns-back 0 (take at R) (r ∷ drop (at + 1) R) (as_runs R at r lt is h) in
    let some : 0 < r.count = b.1 in
    let past : k < end_of r =
    (let e : EndsPast k (r ∷ drop (at + 1) R) =
    (let P : List Run → Type 0 = λ l. EndsPast k l in
    subst P (drop_more R at r lt ∙ ap (λ x. x ∷ drop (at + 1) R) (sym is)) seat.past) in e) in
    elim (cases_lt k r.first) [
      | inl gap ↦
          let e : max k r.first ≡ r.first = omega arith in
          let P : ℕ → Type 0 = λ m. IsLowest (numbers_of R) k m in
          subst P (sym e) (record {
            from = omega arith;
            there = Contains-stands _ _ _ (stands R at r.first r lt is h (omega arith) (omega arith));
            lowest = All-same (λ n. (n < k) ⊎ (r.first ≤ n)) (numbers_of R) _ (numbers_split R at)
                (All-append (λ n. (n < k) ⊎ (r.first ≤ n)) (numbers_of (take at R)) (numbers_of (drop at R))
                (All-weaker (λ n. n < k) (λ n. (n < k) ⊎ (r.first ≤ n)) (λ x l. inl l) _
                (below_end 0 k (take at R) (front R at h) seat.below))
                (All-weaker (λ n. r.first ≤ n) (λ n. (n < k) ⊎ (r.first ≤ n)) (λ x l. inr l) _
                (behind R k at n r.first r h lt is (omega arith))));
          })
      | inr low ↦
          let e : max k r.first ≡ k = omega arith in
          let P : ℕ → Type 0 = λ m. IsLowest (numbers_of R) k m in
          subst P (sym e) (record {
            from = omega arith;
            there = Contains-stands _ _ _ (stands R at k r lt is h low past);
            lowest = λ i d within. cases_lt (get_or (numbers_of R) i d) k;
          })
    ]

pub seat_of : (R R' : List Run) (k at n : ℕ) → R' ≡ R → IsSeat R' k at n → IsSeat R k at n
seat_of R R' k at n same h = let P : List Run → Type 0 = λ l. IsSeat l k at n in subst P same h

-- a number that is not there stands before the run at its seat
pub starts_past : (R : List Run) (k at n : ℕ) → AreRuns 0 R → IsSeat R k at n →
    All (λ n. n ≢ k) (numbers_of R) → StartsFrom (k + 1) (drop at R)
starts_past R k at n h seat absent =
    StartsFrom-drop R at (k + 1) no_run (λ lt.
    let past = EndsPast-at R at k no_run lt seat.past in
    elim (cases_lt k (get_or R at no_run).first) [
      | inl gap ↦ omega arith
      | inr low ↦
          let there = (stands R at k (get_or R at no_run) lt (get_or_default R at no_run (get_or R at no_run) lt) h low past).there in
          absurd (absent _ k (slice_get_within (numbers_of R) _ k there)
          (get_or_from_slice_get (numbers_of R) _ k k there))
    ])

pub before_within : (R : List Run) (k at n : ℕ) → IsSeat R k at n → n ≤ length (numbers_of R)
before_within R k at n seat =
    let e = ap length (numbers_split R at) ∙ length-append (numbers_of (take at R)) (numbers_of (drop at R)) in
    omega (arith, seat.before)

pub before_below : (R : List Run) (k at n : ℕ) → AreRuns 0 R → IsSeat R k at n →
    All (λ other. other < k) (take n (numbers_of R))
before_below R k at n h seat =
    All-same (λ x. x < k) (take n (numbers_of R)) (numbers_of (take at R))
    (ap (take n) (numbers_split R at)
    ∙ take_at (numbers_of (take at R)) (numbers_of (drop at R)) n (sym seat.before))
    (below_end 0 k (take at R) (front R at h) seat.below)

pub inserted : (R : List Run) (k at n : ℕ) → IsSeat R k at n →
    numbers_of (take at R) ++ k ∷ numbers_of (drop at R) ≡ insert (numbers_of R) n k
inserted R k at n seat =
    sym (ap (λ l. insert l n k) (numbers_split R at)
    ∙ insert_at (numbers_of (take at R)) (numbers_of (drop at R)) n k (sym seat.before))

-- the seat of a number that is there is a run that has it
pub seat_within : (R : List Run) (k at n : ℕ) → AreRuns 0 R → IsSeat R k at n →
    Contains (numbers_of R) k → at < length R
seat_within R k at n h seat there =
    elim (cases_lt at (length R)) [
      | inl lt ↦ lt
      | inr le ↦
          let less : k < k = All-contains (λ x. x < k) (numbers_of R) k (all_below R k at n h seat le) there in
          absurd (omega arith)
    ]

pub seat_first : (R : List Run) (k at n : ℕ) (r : Run) → AreRuns 0 R → IsSeat R k at n →
    Contains (numbers_of R) k → slice_get R at ≡ Some r → r.first ≤ k
seat_first R k at n r h seat there is =
    elim (cases_lt k r.first) [
      | inl gap ↦
          absurd (All-contains (λ x. x ≢ k) (numbers_of R) k
          (absent_gap R k at n r h seat (slice_get_within R at r is)
          (sym (get_or_from_slice_get R at r r is)) gap) there refl)
      | inr le ↦ le
    ]

pub few_places : (R : List Run) (k at n : ℕ) (r : Run) → AreRuns 0 R → IsSeat R k at n →
    at < length R → r ≡ get_or R at r → r.first ≤ k → n + (k - r.first) < length (numbers_of R)
few_places R k at n r h seat lt is low =
    let past : k < end_of r =
    (let P : List Run → Type 0 = λ l. EndsPast k l in
    let e : EndsPast k (r ∷ drop (at + 1) R) =
    subst P (drop_more R at r lt ∙ ap (λ x. x ∷ drop (at + 1) R) (sym is)) seat.past in e) in
    let s = stands R at k r lt is h low past in
    omega (arith, slice_get_within (numbers_of R) _ k s.there, seat.before)

pub found_at : (R : List Run) (k at n : ℕ) (r : Run) → AreRuns 0 R → IsSeat R k at n →
    at < length R → r ≡ get_or R at r → r.first ≤ k → StandsAt (numbers_of R) (n + (k - r.first)) k
found_at R k at n r h seat lt is low =
    let past : k < end_of r =
    (let P : List Run → Type 0 = λ l. EndsPast k l in
    let e : EndsPast k (r ∷ drop (at + 1) R) =
    subst P (drop_more R at r lt ∙ ap (λ x. x ∷ drop (at + 1) R) (sym is)) seat.past in e) in
    let P : ℕ → Type 0 = λ m. StandsAt (numbers_of R) (m + (k - r.first)) k in
    subst P (sym seat.before) (stands R at k r lt is h low past)

pub few_places_fit : (R : List Run) → AreRuns 0 R → length (numbers_of R) ≤ 257
few_places_fit R h = omega (arith, few_numbers 0 R h (omega arith))

-- the numbers of runs ascend
rises_range : (f a n : ℕ) (L : List ℕ) → f ≤ a → RisesFrom (a + n) L →
    RisesFrom f (range_with_len a n ++ L)
rises_range f a zero [] le h = tt
rises_range f a zero (x ∷ L) le h = let low = h.0 in (omega arith, h.1)
rises_range f a (suc n) L le h = (
  le,
  rises_range (a + 1) (a + 1) n L (omega arith)
      (let P : ℕ → Type 0 = λ m. RisesFrom m L in
      let e : a + suc n ≡ (a + 1) + n = omega arith in subst P e h),
)

rises_lower : (f g : ℕ) (L : List ℕ) → g ≤ f → RisesFrom f L → RisesFrom g L
rises_lower f g [] le h = tt
rises_lower f g (x ∷ L) le h = let low = h.0 in (omega arith, h.1)

pub rises : (f : ℕ) (R : List Run) → AreRuns f R → RisesFrom f (numbers_of R)
rises f [] h = tt
rises f (r ∷ R) h =
    rises_range f r.first r.count (numbers_of R) h.0
    (rises_lower (end_of r + 1) (end_of r) (numbers_of R) (omega arith) (rises (end_of r + 1) R h.3))

pub ascending : (R : List Run) → AreRuns 0 R → AreAscending (numbers_of R)
ascending R h = record { ascending = rises 0 R h; below = below_256 0 R h }
