-- A number that joins runs, at the index of the first run past it.
use Rattle.std.proofs.Common.{ℕ, add-one, ◌+◌, ◌≡◌, ◌<◌, ◌≤◌, arith, List, [], ◌∷◌, ◌++◌, sym, ap, ◌∙◌, subst, append_assoc}
use Rattle.std.specs.List.{range_with_len}
use Rattle.std.proofs.lemmas.List.{append-nil}
use Rattle.cfs_extent.specs.Runs.{AreRuns, StartsFrom, end_of, next_start, numbers_of}
use Rattle.cfs_extent.specs.declared.run.Run.{Run}
use Rattle.cfs_extent.proofs.RunLemmas.{AreRuns-back, AreRuns-front, AreRuns-joined, AreRuns-moved, numbers_of-append, range_push, range_split}

-- these are runs, and they have these numbers
pub record Have (R : List Run) (N : List ℕ) : Type 0 where
  pub runs : AreRuns 0 R
  pub numbers : numbers_of R ≡ N

-- a run of its own
pub alone : (A B : List Run) (k : ℕ) → AreRuns 0 (A ++ B) → next_start 0 A ≤ k → k < 256 →
    StartsFrom (k + 2) B →
    Have (A ++ record { first = k; count = 1 } ∷ B) (numbers_of A ++ k ∷ numbers_of B)
alone A B k h low below far = record {
  runs = AreRuns-joined 0 A _ (AreRuns-front 0 A B h) (
    low,
    omega arith,
    omega arith,
    AreRuns-moved (next_start 0 A) ((k + 1) + 1) B (AreRuns-back 0 A B h)
        (let P : ℕ → Type 0 = λ n. StartsFrom n B in
        let e : k + 2 ≡ (k + 1) + 1 = omega arith in subst P e far),
  );
  numbers = numbers_of-append A _;
}

-- at the end of the run before
pub longer : (A B : List Run) (l : Run) (k : ℕ) → AreRuns 0 (A ++ l ∷ B) → end_of l ≡ k → k < 256 →
    StartsFrom (k + 2) B →
    Have (A ++ record { first = l.first; count = l.count + 1 } ∷ B)
    (numbers_of (A ++ l ∷ []) ++ k ∷ numbers_of B)
longer A B l k h at below far =
    let b = AreRuns-back 0 A (l ∷ B) h in
    record {
      runs = AreRuns-joined 0 A _ (AreRuns-front 0 A (l ∷ B) h) (
        b.0,
        omega arith,
        omega arith,
        AreRuns-moved (end_of l + 1) _ B b.3
            (let P : ℕ → Type 0 = λ n. StartsFrom n B in
            let e : k + 2 ≡ (l.first + (l.count + 1)) + 1 = omega arith in subst P e far),
      );
      numbers =
          numbers_of-append A _
          ∙ ap (λ r. numbers_of A ++ (r ++ numbers_of B)) (range_push l.first l.count)
          ∙ rw (numbers_of-append A (l ∷ []), append-nil (range_with_len l.first l.count), at)
          (simp append_assoc);
    }

-- at the start of the run behind
pub earlier : (A B : List Run) (r : Run) (k : ℕ) → AreRuns 0 (A ++ r ∷ B) → next_start 0 A ≤ k →
    r.first ≡ k + 1 →
    Have (A ++ record { first = k; count = r.count + 1 } ∷ B)
    (numbers_of A ++ k ∷ numbers_of (r ∷ B))
earlier A B r k h low at =
    let b = AreRuns-back 0 A (r ∷ B) h in
    record {
      runs = AreRuns-joined 0 A _ (AreRuns-front 0 A (r ∷ B) h) (
        low,
        omega arith,
        omega arith,
        (let P : ℕ → Type 0 = λ n. AreRuns n B in
            let e : (r.first + r.count) + 1 ≡ (k + (r.count + 1)) + 1 = omega arith in
            subst P e b.3),
      );
      numbers =
          numbers_of-append A _
          ∙ ap (λ l. numbers_of A ++ (l ++ numbers_of B)) (begun k r.first r.count at);
    }
  where
    begun : (k first count : ℕ) → first ≡ k + 1 →
        range_with_len k (count + 1) ≡ k ∷ range_with_len first count
    begun k first count e = rw (add-one count) (ap (λ n. k ∷ range_with_len n count) (sym e))

-- between two runs, which become one
pub closed : (A B : List Run) (l r : Run) (k : ℕ) → AreRuns 0 (A ++ l ∷ r ∷ B) → end_of l ≡ k →
    r.first ≡ k + 1 →
    Have (A ++ record { first = l.first; count = l.count + 1 + r.count } ∷ B)
    (numbers_of (A ++ l ∷ []) ++ k ∷ numbers_of (r ∷ B))
closed A B l r k h at next =
    let b = AreRuns-back 0 A (l ∷ r ∷ B) h in
    record {
      runs = AreRuns-joined 0 A _ (AreRuns-front 0 A (l ∷ r ∷ B) h) (
        b.0,
        omega arith,
        omega arith,
        (let P : ℕ → Type 0 = λ n. AreRuns n B in
            let e : (r.first + r.count) + 1 ≡ (l.first + (l.count + 1 + r.count)) + 1 = omega arith in
            subst P e b.3.3),
      );
      numbers =
          numbers_of-append A _
          ∙ ap (λ m. numbers_of A ++ (m ++ numbers_of B))
          (range_split l.first (l.count + 1) r.count
          ∙ ap (λ m. m ++ range_with_len (l.first + (l.count + 1)) r.count) (range_push l.first l.count))
          ∙ rw (numbers_of-append A (l ∷ []), append-nil (range_with_len l.first l.count), at)
          (rw (let e : l.first + (l.count + 1) ≡ r.first = omega arith in e) (simp append_assoc));
    }
