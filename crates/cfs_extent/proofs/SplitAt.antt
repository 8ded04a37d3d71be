-- A number that leaves the run at an index, as the code changes the list.
use Rattle.std.proofs.Common.{ℕ, zero, suc, add-one, ◌+◌, ◌-◌, ◌≡◌, ◌<◌, ◌≤◌, arith, List, [], ◌∷◌, ◌++◌, All, Some, drop, get_or, insert, length, remove, set, take, refl, sym, ap, ◌∙◌, subst, append_assoc, length-append}
use Rattle.std.specs.List.{range_with_len}
use Rattle.std.proofs.lemmas.List.{drop-drop, drop_at, get_or_at, length-take-le, set_split, take_at}
use Rattle.std.proofs.lemmas.List.Elements.{All-append, All-nil, All-cons}
use Rattle.std.proofs.lemmas.List.FromFn.{length-range_with_len}
use Rattle.std.proofs.lemmas.Option.{slice_get-get_or}
use Rattle.cfs_extent.specs.Runs.{AreRuns, StandsAt, end_of, next_start, numbers_of}
use Rattle.cfs_extent.specs.declared.run.Run.{Run}
use Rattle.cfs_extent.proofs.Joined.{Have}
use Rattle.cfs_extent.proofs.RunLemmas.{AreRuns-back, AreRuns-front, more_numbers, numbers_of-append, split_one}
use Rattle.cfs_extent.proofs.Split.{ended, later, middle, parts, shorter}

-- the number k of the run at an index is gone
abbrev pub Cut : List Run → ℕ → ℕ → Run → List Run → Type 0
Cut R at k r new =
    Have new (remove (numbers_of R) (length (numbers_of (take at R)) + (k - r.first)))

moved : (R R' new new' : List Run) (at k n : ℕ) (r : Run) → new ≡ new' → R ≡ R' → k - r.first ≡ n →
    Have new' (remove (numbers_of R') (length (numbers_of (take at R)) + n)) → Cut R at k r new
moved R R' new new' at k n r is whole e h =
    rw (is, e)
    (let P : List Run → Type 0 = λ l.
    Have new' (remove (numbers_of l) (length (numbers_of (take at R)) + n)) in
    subst P (sym whole) h)

pub insert_at : {X : Type 0} (P Q : List X) (n : ℕ) (x : X) → length P ≡ n →
    insert (P ++ Q) n x ≡ P ++ x ∷ Q
insert_at P Q n x e = rw (take_at P Q n e, drop_at P Q n e) refl

pub as_runs : (R : List Run) (at : ℕ) (r : Run) → at < length R → r ≡ get_or R at r → AreRuns 0 R →
    AreRuns 0 (take at R ++ r ∷ drop (at + 1) R)
as_runs R at r lt is h = let P : List Run → Type 0 = λ l. AreRuns 0 l in subst P (split_one R at r lt is) h

written : (R : List Run) (at : ℕ) (x : Run) → at < length R →
    set R at x ≡ take at R ++ x ∷ drop (at + 1) R
written R at x lt = set_split R at x lt ∙ ap (λ n. take at R ++ x ∷ drop n R) (sym (add-one at))

pub middle_at : (R : List Run) (at k : ℕ) (r : Run) → at < length R → r ≡ get_or R at r →
    AreRuns 0 R → 0 < k - r.first → 0 < r.count - (k - r.first) - 1 → r.first ≤ k → k < end_of r →
    Cut R at k r
    (insert (set R at (record { first = r.first; count = k - r.first })) (at + 1)
    (record { first = k + 1; count = r.count - (k - r.first) - 1 }))
middle_at R at k r lt is h some more low past =
    let A : List Run = take at R in
    let B : List Run = drop (at + 1) R in
    let x : Run = record { first = r.first; count = k - r.first } in
    let y : Run = record { first = k + 1; count = r.count - (k - r.first) - 1 } in
    let length_A : length A ≡ at = length-take-le at R (omega arith) in
    moved R _ _ (A ++ x ∷ y ∷ B) at k (k - r.first) r
    (ap (λ l. insert l (at + 1) y) (written R at x lt ∙ sym (append_assoc A (x ∷ []) B))
    ∙ insert_at (A ++ x ∷ []) B (at + 1) y
    (length-append A (x ∷ []) ∙ (let e : length A + 1 ≡ at + 1 = omega arith in e))
    ∙ append_assoc A (x ∷ []) (y ∷ B))
    (split_one R at r lt is) refl
    (middle A B r (k - r.first) (r.count - (k - r.first) - 1) k (as_runs R at r lt is h)
    (omega arith) (omega arith) some more)

pub shorter_at : (R : List Run) (at k : ℕ) (r : Run) → at < length R → r ≡ get_or R at r →
    AreRuns 0 R → 0 < k - r.first → r.count - (k - r.first) - 1 ≡ 0 → r.first ≤ k → k < end_of r →
    Cut R at k r (set R at (record { first = r.first; count = k - r.first }))
shorter_at R at k r lt is h some none low past =
    moved R _ _ _ at k (k - r.first) r (written R at _ lt) (split_one R at r lt is) refl
    (shorter (take at R) (drop (at + 1) R) r (k - r.first) k (as_runs R at r lt is h) (omega arith)
    (omega arith) some)

pub later_at : (R : List Run) (at k : ℕ) (r : Run) → at < length R → r ≡ get_or R at r →
    AreRuns 0 R → k - r.first ≡ 0 → 0 < r.count - (k - r.first) - 1 → r.first ≤ k → k < end_of r →
    Cut R at k r (set R at (record { first = k + 1; count = r.count - (k - r.first) - 1 }))
later_at R at k r lt is h first more low past =
    let n : ℕ = r.count - (k - r.first) - 1 in
    let e : k ≡ r.first = omega arith in
    moved R _ _ _ at k 0 r
    (written R at _ lt
    ∙ ap (λ f. take at R ++ record { first = f + 1; count = n } ∷ drop (at + 1) R) e)
    (split_one R at r lt is) first
    (later (take at R) (drop (at + 1) R) r n (as_runs R at r lt is h) (omega arith) more)

pub ended_at : (R : List Run) (at k : ℕ) (r : Run) → at < length R → r ≡ get_or R at r →
    AreRuns 0 R → k - r.first ≡ 0 → r.count - (k - r.first) - 1 ≡ 0 → r.first ≤ k → k < end_of r →
    Cut R at k r (remove R at)
ended_at R at k r lt is h first none low past =
    moved R _ _ _ at k 0 r
    (ap (λ n. take at R ++ drop n R) (sym (add-one at)))
    (split_one R at r lt is) first
    (ended (take at R) (drop (at + 1) R) r (as_runs R at r lt is h) (omega arith))

pub next_start-le : (f : ℕ) (R : List Run) → AreRuns f R → f ≤ next_start f R
next_start-le f [] h = omega arith
next_start-le f (r ∷ R) h = let e = next_start-le (end_of r + 1) R h.3 in let low = h.0 in omega arith

pub below_range : (a n k : ℕ) → a + n ≤ k → All (λ x. x < k) (range_with_len a n)
below_range a zero k le = All-nil (λ x. x < k)
below_range a (suc n) k le = All-cons (λ x. x < k) a (range_with_len (a + 1) n) (omega arith) (below_range (a + 1) n k (omega arith))

-- all numbers of runs that end at a number or before it are below it
pub below_end : (f k : ℕ) (R : List Run) → AreRuns f R → next_start f R ≤ k + 1 →
    All (λ n. n < k) (numbers_of R)
below_end f k [] h le = All-nil (λ x. x < k)
below_end f k (r ∷ R) h le =
    All-append (λ x. x < k) (range_with_len r.first r.count) (numbers_of R)
    (below_range r.first r.count k
    (let e = next_start-le (end_of r + 1) R h.3 in omega arith))
    (below_end (end_of r + 1) k R h.3 le)

above_range : (a n k : ℕ) → k ≤ a → All (λ x. k ≤ x) (range_with_len a n)
above_range a zero k le = All-nil (λ x. k ≤ x)
above_range a (suc n) k le =
    All-cons (λ x. k ≤ x) a (range_with_len (a + 1) n) le (above_range (a + 1) n k (omega arith))

-- all numbers of runs from a number on are not below it
pub above_start : (f k : ℕ) (R : List Run) → k ≤ f → AreRuns f R → All (λ n. k ≤ n) (numbers_of R)
above_start f k [] le h = All-nil (λ x. k ≤ x)
above_start f k (r ∷ R) le h =
    let low = h.0 in
    All-append (λ x. k ≤ x) (range_with_len r.first r.count) (numbers_of R)
    (above_range r.first r.count k (omega arith))
    (above_start (end_of r + 1) k R (omega arith) h.3)

-- where a number of the run at an index stands
pub stands : (R : List Run) (at k : ℕ) (r : Run) → at < length R → r ≡ get_or R at r → AreRuns 0 R →
    r.first ≤ k → k < end_of r →
    StandsAt (numbers_of R) (length (numbers_of (take at R)) + (k - r.first)) k
stands R at k r lt is h low past =
    let A : List Run = take at R in
    let B : List Run = drop (at + 1) R in
    let m : ℕ = k - r.first in
    let n : ℕ = r.count - m - 1 in
    let F : List ℕ = numbers_of A ++ range_with_len r.first m in
    let L : List ℕ = range_with_len (k + 1) n ++ numbers_of B in
    let whole : numbers_of R ≡ F ++ k ∷ L =
    ap numbers_of (split_one R at r lt is)
    ∙ parts A B r m n k (omega arith) (omega arith) in
    let len : length F ≡ length (numbers_of A) + m =
    length-append (numbers_of A) (range_with_len r.first m)
    ∙ ap (λ x. length (numbers_of A) + x) (length-range_with_len r.first m) in
    let b = AreRuns-back 0 A (r ∷ B) (as_runs R at r lt is h) in
    let start = b.0 in
    let some : length (numbers_of A) + m < length (F ++ k ∷ L) =
    omega (arith, length-append F (k ∷ L)) in
    record {
      there = rw whole (slice_get-get_or (F ++ k ∷ L) (length (numbers_of A) + m) k some
          ∙ ap Some (get_or_at F k L k (length (numbers_of A) + m) len));
      below = rw (whole, take_at F (k ∷ L) (length (numbers_of A) + m) len)
          (All-append (λ x. x < k) (numbers_of A) (range_with_len r.first m)
          (below_end 0 k A (AreRuns-front 0 A (r ∷ B) (as_runs R at r lt is h)) (omega arith))
          (below_range r.first m k (omega arith)));
      above = rw (
        whole,
        sym (drop-drop 1 (length (numbers_of A) + m) (F ++ k ∷ L)),
        drop_at F (k ∷ L) (length (numbers_of A) + m) len,
      )
          (All-append (λ x. k < x) (range_with_len (k + 1) n) (numbers_of B)
          (above_range (k + 1) n (suc k) (omega arith))
          (above_start (end_of r + 1) (suc k) B (omega arith) b.3));
    }

-- there are more numbers than runs where a run has several
pub many_numbers : (R : List Run) (at : ℕ) (r : Run) → at < length R → r ≡ get_or R at r →
    AreRuns 0 R → length R + r.count ≤ length (numbers_of R) + 1
many_numbers R at r lt is h =
    let A : List Run = take at R in
    let B : List Run = drop (at + 1) R in
    let whole = as_runs R at r lt is h in
    let a = more_numbers 0 A (AreRuns-front 0 A (r ∷ B) whole) in
    let b = more_numbers _ B (AreRuns-back 0 A (r ∷ B) whole).3 in
    let numbers : length (numbers_of R) ≡ length (numbers_of A) + (r.count + length (numbers_of B)) =
    ap (λ l. length (numbers_of l)) (split_one R at r lt is)
    ∙ ap length (numbers_of-append A (r ∷ B))
    ∙ length-append (numbers_of A) _
    ∙ ap (λ x. length (numbers_of A) + x)
    (length-append (range_with_len r.first r.count) (numbers_of B)
    ∙ ap (λ x. x + length (numbers_of B)) (length-range_with_len r.first r.count)) in
    let runs : length R ≡ length A + length (r ∷ B) =
    ap length (split_one R at r lt is) ∙ length-append A (r ∷ B) in
    omega arith
