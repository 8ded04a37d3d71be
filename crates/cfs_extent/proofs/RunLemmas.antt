-- Runs put end to end, and the numbers that they have.
use Rattle.std.proofs.Common.{ℕ, zero, suc, zero-add, add-zero, suc-add, ◌+◌, ◌-◌, ◌≡◌, ◌<◌, ◌≤◌, arith, List, [], ◌∷◌, ◌++◌, Some, slice_get, drop, get_or, length, take, inl, inr, refl, sym, ap, ◌∙◌, subst, append_assoc, length-append}
use Rattle.std.specs.List.{range_with_len}
use Rattle.std.proofs.lemmas.List.{append-nil, drop_all, drop_more, take_more, take-append-drop}
use Rattle.std.proofs.lemmas.Bool.{cases_lt}
use Rattle.std.proofs.lemmas.Option.{slice_get_read}
use Rattle.std.proofs.lemmas.List.FromFn.{length-range_with_len}
use Rattle.cfs_extent.specs.Runs.{AreRuns, EndsPast, StartsFrom, end_of, next_start, numbers_of}
use Rattle.cfs_extent.specs.declared.run.Run.{Run}

pub range_split : (a m n : ℕ) → range_with_len a (m + n) ≡ range_with_len a m ++ range_with_len (a + m) n
range_split a zero n = rw (zero-add n, add-zero a) refl
range_split a (suc m) n =
    rw (suc-add m n)
    (ap (λ l. a ∷ l) (range_split (a + 1) m n
    ∙ ap (λ b. range_with_len (a + 1) m ++ range_with_len b n)
    (let e : (a + 1) + m ≡ a + suc m = omega arith in e)))

pub range_push : (a n : ℕ) → range_with_len a (n + 1) ≡ range_with_len a n ++ (a + n) ∷ []
range_push a n = range_split a n 1

pub numbers_of-append : (A B : List Run) → numbers_of (A ++ B) ≡ numbers_of A ++ numbers_of B
numbers_of-append [] B = refl
numbers_of-append (r ∷ A) B =
    ap (λ l. range_with_len r.first r.count ++ l) (numbers_of-append A B)
    ∙ sym (append_assoc (range_with_len r.first r.count) (numbers_of A) (numbers_of B))

pub AreRuns-front : (f : ℕ) (A B : List Run) → AreRuns f (A ++ B) → AreRuns f A
AreRuns-front f [] B h = tt
AreRuns-front f (r ∷ A) B h = (h.0, h.1, h.2, AreRuns-front (end_of r + 1) A B h.3)

pub AreRuns-back : (f : ℕ) (A B : List Run) → AreRuns f (A ++ B) → AreRuns (next_start f A) B
AreRuns-back f [] B h = h
AreRuns-back f (r ∷ A) B h = AreRuns-back (end_of r + 1) A B h.3

pub AreRuns-joined : (f : ℕ) (A B : List Run) → AreRuns f A → AreRuns (next_start f A) B →
    AreRuns f (A ++ B)
AreRuns-joined f [] B h g = g
AreRuns-joined f (r ∷ A) B h g = (h.0, h.1, h.2, AreRuns-joined (end_of r + 1) A B h.3 g)

pub next_start-append : (f : ℕ) (A B : List Run) → next_start f (A ++ B) ≡ next_start (next_start f A) B
next_start-append f [] B = refl
next_start-append f (r ∷ A) B = next_start-append (end_of r + 1) A B

-- runs from one number on are runs from any other at which the first may begin
pub AreRuns-moved : (f g : ℕ) (B : List Run) → AreRuns f B → StartsFrom g B → AreRuns g B
AreRuns-moved f g [] h s = tt
AreRuns-moved f g (r ∷ B) h s = (s, h.1, h.2, h.3)

pub StartsFrom-runs : (f g : ℕ) (B : List Run) → AreRuns f B → g ≤ f → StartsFrom g B
StartsFrom-runs f g [] h le = tt
StartsFrom-runs f g (r ∷ B) h le = let a = h.0 in omega arith

-- runs end within 256
pub end_of_runs : (f : ℕ) (R : List Run) (i : ℕ) (d : Run) → AreRuns f R → i < length R →
    end_of (get_or R i d) ≤ 256
end_of_runs f [] i d h lt = absurd (omega arith)
end_of_runs f (r ∷ R) zero d h lt = h.2
end_of_runs f (r ∷ R) (suc i) d h lt = end_of_runs (end_of r + 1) R i d h.3 (omega arith)

pub few_numbers : (f : ℕ) (R : List Run) → AreRuns f R → f ≤ 257 → f + length (numbers_of R) ≤ 257
few_numbers f [] h le = omega arith
few_numbers f (r ∷ R) h le =
    let more = few_numbers (end_of r + 1) R h.3 (let e = h.2 in omega arith) in
    let first = h.0 in
    omega (
      arith,
      length-append (range_with_len r.first r.count) (numbers_of R),
      length-range_with_len r.first r.count,
    )

-- no run is empty
pub more_numbers : (f : ℕ) (R : List Run) → AreRuns f R → length R ≤ length (numbers_of R)
more_numbers f [] h = omega arith
more_numbers f (r ∷ R) h =
    let more = more_numbers (end_of r + 1) R h.3 in
    let some = h.1 in
    omega (
      arith,
      length-append (range_with_len r.first r.count) (numbers_of R),
      length-range_with_len r.first r.count,
    )

pub next_start-push : (f : ℕ) (R : List Run) (i : ℕ) (d : Run) → i < length R →
    next_start f (take (i + 1) R) ≡ end_of (get_or R i d) + 1
next_start-push f R i d lt =
    ap (next_start f) (take_more R i d lt) ∙ next_start-append f (take i R) (get_or R i d ∷ [])

pub numbers_of-push : (R : List Run) (i : ℕ) (d : Run) → i < length R →
    length (numbers_of (take (i + 1) R)) ≡ length (numbers_of (take i R)) + (get_or R i d).count
numbers_of-push R i d lt =
    ap (λ l. length (numbers_of l)) (take_more R i d lt)
    ∙ ap length (numbers_of-append (take i R) (get_or R i d ∷ []))
    ∙ length-append (numbers_of (take i R)) _
    ∙ ap (λ n. length (numbers_of (take i R)) + n)
    (ap length (append-nil (range_with_len (get_or R i d).first (get_or R i d).count))
    ∙ length-range_with_len (get_or R i d).first (get_or R i d).count)

-- there are few numbers in each front
pub few_before : (R : List Run) (i : ℕ) → AreRuns 0 R → length (numbers_of (take i R)) ≤ 257
few_before R i h =
    omega (
      arith,
      few_numbers 0 (take i R) (AreRuns-front 0 (take i R) (drop i R)
          (let P : List Run → Type 0 = λ l. AreRuns 0 l in subst P (sym (take-append-drop i R)) h))
          (omega arith),
    )

-- what holds of the run at an index holds of the first behind the front
pub EndsPast-drop : (R : List Run) (i k : ℕ) (d : Run) → i < length R → k < end_of (get_or R i d) →
    EndsPast k (drop i R)
EndsPast-drop R i k d lt h =
    let P : List Run → Type 0 = λ l. EndsPast k l in subst P (sym (drop_more R i d lt)) h

pub EndsPast-all : (R : List Run) (i k : ℕ) → length R ≤ i → EndsPast k (drop i R)
EndsPast-all R i k le =
    let P : List Run → Type 0 = λ l. EndsPast k l in subst P (sym (drop_all i R le)) tt

pub EndsPast-at : (R : List Run) (i k : ℕ) (d : Run) → i < length R → EndsPast k (drop i R) →
    k < end_of (get_or R i d)
EndsPast-at R i k d lt h =
    let P : List Run → Type 0 = λ l. EndsPast k l in subst P (drop_more R i d lt) h

pub StartsFrom-drop : (R : List Run) (i k : ℕ) (d : Run) → (i < length R → k ≤ (get_or R i d).first) →
    StartsFrom k (drop i R)
StartsFrom-drop R i k d h =
    elim (cases_lt i (length R)) [
      | inl lt ↦ (let P : List Run → Type 0 = λ l. StartsFrom k l in
          subst P (sym (drop_more R i d lt)) (h lt))
      | inr ge ↦ (let P : List Run → Type 0 = λ l. StartsFrom k l in
          subst P (sym (drop_all i R ge)) tt)
    ]

pub StartsFrom-at : (R : List Run) (i k : ℕ) (d : Run) → i < length R → StartsFrom k (drop i R) →
    k ≤ (get_or R i d).first
StartsFrom-at R i k d lt h =
    let P : List Run → Type 0 = λ l. StartsFrom k l in subst P (drop_more R i d lt) h

-- what a read past the end gives
abbrev pub no_run : Run
no_run = record { first = 0; count = 0 }

-- where the runs before an index end
pub next_start-before : (f : ℕ) (R : List Run) (i : ℕ) (d : Run) → 0 < i → i ≤ length R →
    next_start f (take i R) ≡ end_of (get_or R (i - 1) d) + 1
next_start-before f R i d some le =
    ap (λ n. next_start f (take n R)) (let e : i ≡ (i - 1) + 1 = omega arith in e)
    ∙ next_start-push f R (i - 1) d (omega arith)

-- a list round one of its elements, and round two neighbours
pub split_one : (R : List Run) (i : ℕ) (r : Run) → i < length R → r ≡ get_or R i r →
    R ≡ take i R ++ r ∷ drop (i + 1) R
split_one R i r lt is =
    sym (take-append-drop i R)
    ∙ ap (λ l. take i R ++ l)
    (drop_more R i r lt ∙ ap (λ x. x ∷ drop (i + 1) R) (sym is))

pub front_two : (R : List Run) (at : ℕ) (l : Run) → 0 < at → at ≤ length R →
    l ≡ get_or R (at - 1) l → take at R ≡ take (at - 1) R ++ l ∷ []
front_two R at l some le is =
    ap (λ n. take n R) (let e : at ≡ (at - 1) + 1 = omega arith in e)
    ∙ take_more R (at - 1) l (omega arith)
    ∙ ap (λ x. take (at - 1) R ++ x ∷ []) (sym is)

-- what `runs[i]` gives
pub end_of_read : (R : List Run) (i : ℕ) (r : Run) → AreRuns 0 R → i < length R → r ≡ get_or R i r →
    end_of r ≤ 256
end_of_read R i r h lt is =
    let e : end_of (get_or R i r) ≤ 256 = end_of_runs 0 R i r h lt in
    let same : end_of r ≡ end_of (get_or R i r) = ap end_of is in
    omega arith

pub slice_get_next : (R R' : List Run) (i : ℕ) (r : Run) (n : ℕ) → R' ≡ R → i < length R →
    r ≡ get_or R i r → ((run : Run) → slice_get R' i ≡ Some run → run.first ≡ n) → r.first ≡ n
slice_get_next R R' i r n same lt is h =
    h r (rw same (slice_get_read R (length R) i r refl lt is))

pub ends_past_read : (R : List Run) (i k : ℕ) (r : Run) → i < length R → r ≡ get_or R i r →
    EndsPast k (drop i R) → k < end_of r
ends_past_read R i k r lt is h =
    let e : end_of r ≡ end_of (get_or R i r) = ap end_of is in
    let past : k < end_of (get_or R i r) = EndsPast-at R i k r lt h in
    omega arith

pub first_read : (R : List Run) (i k : ℕ) (r : Run) → i < length R → r ≡ get_or R i r →
    ((run : Run) → slice_get R i ≡ Some run → run.first ≤ k) → r.first ≤ k
first_read R i k r lt is h = h r (slice_get_read R (length R) i r refl lt is)
