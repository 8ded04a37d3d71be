-- A number that leaves a run.
use Rattle.std.proofs.Common.{ℕ, suc, add-one, ◌+◌, ◌≡◌, ◌<◌, arith, List, ◌∷◌, ◌++◌, drop, length, remove, refl, sym, ap, ◌∙◌, subst, append_assoc, length-append}
use Rattle.std.specs.List.{range_with_len}
use Rattle.std.proofs.lemmas.List.{append-nil, take_at, drop_at, drop-drop}
use Rattle.std.proofs.lemmas.List.FromFn.{length-range_with_len}
use Rattle.cfs_extent.specs.Runs.{AreRuns, end_of, numbers_of}
use Rattle.cfs_extent.specs.declared.run.Run.{Run}
use Rattle.cfs_extent.proofs.RunLemmas.{AreRuns-back, AreRuns-front, AreRuns-joined, AreRuns-moved, StartsFrom-runs, numbers_of-append, range_split}
use Rattle.cfs_extent.proofs.Joined.{Have}

-- what stands behind a front of a list goes
pub remove_at : {X : Type 0} (A B : List X) (x : X) (n : ℕ) → length A ≡ n →
    remove (A ++ x ∷ B) n ≡ A ++ B
remove_at A B x n e =
    ap (λ l. l ++ drop (suc n) (A ++ x ∷ B)) (take_at A (x ∷ B) n e)
    ∙ ap (λ l. A ++ l)
    (let split : drop (n + 1) (A ++ x ∷ B) ≡ B =
    sym (drop-drop 1 n (A ++ x ∷ B)) ∙ ap (drop 1) (drop_at A (x ∷ B) n e) in
    rw add-one at split)

-- the numbers of a run round one of them
pub parts : (A B : List Run) (r : Run) (m n k : ℕ) → r.first + m ≡ k → r.count ≡ m + (1 + n) →
    numbers_of (A ++ r ∷ B)
    ≡ (numbers_of A ++ range_with_len r.first m) ++ k ∷ (range_with_len (k + 1) n ++ numbers_of B)
parts A B r m n k at count =
    numbers_of-append A (r ∷ B)
    ∙ ap (λ l. numbers_of A ++ (l ++ numbers_of B))
    (ap (range_with_len r.first) count ∙ range_split r.first m (1 + n)
    ∙ ap (λ l. range_with_len r.first m ++ l)
    (ap (λ b. range_with_len b (1 + n)) at ∙ range_split k 1 n))
    ∙ simp append_assoc

without : (A B : List Run) (r : Run) (m n k : ℕ) → r.first + m ≡ k → r.count ≡ m + (1 + n) →
    remove (numbers_of (A ++ r ∷ B)) (length (numbers_of A) + m)
    ≡ (numbers_of A ++ range_with_len r.first m) ++ (range_with_len (k + 1) n ++ numbers_of B)
without A B r m n k at count =
    ap (λ l. remove l (length (numbers_of A) + m)) (parts A B r m n k at count)
    ∙ remove_at (numbers_of A ++ range_with_len r.first m) _ k _
    (length-append (numbers_of A) (range_with_len r.first m)
    ∙ ap (λ l. length (numbers_of A) + l) (length-range_with_len r.first m))

-- from the middle, so that two runs stay
pub middle : (A B : List Run) (r : Run) (m n k : ℕ) → AreRuns 0 (A ++ r ∷ B) → r.first + m ≡ k →
    r.count ≡ m + (1 + n) → 0 < m → 0 < n →
    Have (A ++ record { first = r.first; count = m } ∷ record { first = k + 1; count = n } ∷ B)
    (remove (numbers_of (A ++ r ∷ B)) (length (numbers_of A) + m))
middle A B r m n k h at count some more =
    let b = AreRuns-back 0 A (r ∷ B) h in
    record {
      runs = AreRuns-joined 0 A _ (AreRuns-front 0 A (r ∷ B) h) (
        b.0,
        some,
        omega arith,
        (
          omega arith,
          more,
          omega arith,
          (let P : ℕ → Type 0 = λ n. AreRuns n B in
              let e : (r.first + r.count) + 1 ≡ ((k + 1) + n) + 1 = omega arith in subst P e b.3),
        ),
      );
      numbers =
          numbers_of-append A _
          ∙ sym (append_assoc (numbers_of A) (range_with_len r.first m) _)
          ∙ sym (without A B r m n k at count);
    }

-- from the end
pub shorter : (A B : List Run) (r : Run) (m k : ℕ) → AreRuns 0 (A ++ r ∷ B) → r.first + m ≡ k →
    r.count ≡ m + 1 → 0 < m →
    Have (A ++ record { first = r.first; count = m } ∷ B)
    (remove (numbers_of (A ++ r ∷ B)) (length (numbers_of A) + m))
shorter A B r m k h at count some =
    let b = AreRuns-back 0 A (r ∷ B) h in
    record {
      runs = AreRuns-joined 0 A _ (AreRuns-front 0 A (r ∷ B) h) (
        b.0,
        some,
        omega arith,
        AreRuns-moved (end_of r + 1) _ B b.3
            (StartsFrom-runs (end_of r + 1) _ B b.3 (omega arith)),
      );
      numbers =
          numbers_of-append A _
          ∙ sym (append_assoc (numbers_of A) (range_with_len r.first m) _)
          ∙ sym (without A B r m 0 k at count);
    }

-- from the start
pub later : (A B : List Run) (r : Run) (n : ℕ) → AreRuns 0 (A ++ r ∷ B) → r.count ≡ 1 + n → 0 < n →
    Have (A ++ record { first = r.first + 1; count = n } ∷ B)
    (remove (numbers_of (A ++ r ∷ B)) (length (numbers_of A) + 0))
later A B r n h count more =
    let b = AreRuns-back 0 A (r ∷ B) h in
    let low = b.0 in
    record {
      runs = AreRuns-joined 0 A _ (AreRuns-front 0 A (r ∷ B) h) (
        omega arith,
        more,
        omega arith,
        (let P : ℕ → Type 0 = λ n. AreRuns n B in
            let e : (r.first + r.count) + 1 ≡ ((r.first + 1) + n) + 1 = omega arith in
            subst P e b.3),
      );
      numbers =
          numbers_of-append A _
          ∙ rw (without A B r 0 n r.first (omega arith) (omega arith), append-nil (numbers_of A)) refl;
    }

-- the last number of a run
pub ended : (A B : List Run) (r : Run) → AreRuns 0 (A ++ r ∷ B) → r.count ≡ 1 →
    Have (A ++ B) (remove (numbers_of (A ++ r ∷ B)) (length (numbers_of A) + 0))
ended A B r h count =
    let b = AreRuns-back 0 A (r ∷ B) h in
    let low = b.0 in
    record {
      runs = AreRuns-joined 0 A _ (AreRuns-front 0 A (r ∷ B) h)
          (AreRuns-moved (end_of r + 1) _ B b.3
          (StartsFrom-runs (end_of r + 1) _ B b.3 (omega arith)));
      numbers =
          numbers_of-append A B
          ∙ rw (without A B r 0 0 r.first (omega arith) (omega arith), append-nil (numbers_of A)) refl;
    }
