-- A number that joins runs at an index, as the code changes the list.
use Rattle.std.proofs.Common.{ℕ, suc, add-one, ◌+◌, ◌-◌, ◌≡◌, ◌≢◌, ◌<◌, ◌≤◌, arith, List, [], ◌∷◌, ◌++◌, drop, get_or, insert, length, remove, set, take, refl, sym, ap, ◌∙◌, subst, append_assoc, length-append}
use Rattle.std.proofs.lemmas.List.{drop_more, length-take-le, set_at, set_split, take-append-drop}
use Rattle.cfs_extent.specs.Runs.{AreRuns, StartsFrom, end_of, next_start, numbers_of}
use Rattle.cfs_extent.specs.declared.run.Run.{Run}
use Rattle.cfs_extent.proofs.Joined.{Have, alone, closed, earlier, longer}
use Rattle.cfs_extent.proofs.RunLemmas.{front_two, next_start-before, split_one}
use Rattle.cfs_extent.proofs.Split.{remove_at}

-- the number k stands among the numbers of runs at an index of the runs
abbrev pub Joined : List Run → ℕ → ℕ → List Run → Type 0
Joined R at k new = Have new (numbers_of (take at R) ++ k ∷ numbers_of (drop at R))

moved : (R new new' : List Run) (at k : ℕ) (F B : List Run) → new ≡ new' → take at R ≡ F →
    drop at R ≡ B → Have new' (numbers_of F ++ k ∷ numbers_of B) → Joined R at k new
moved R new new' at k F B is front back h = rw (is, front, back) h

ends_at : (R : List Run) (at k : ℕ) (l : Run) → 0 < at → at ≤ length R → l ≡ get_or R (at - 1) l →
    next_start 0 (take at R) ≡ k + 1 → end_of l ≡ k
ends_at R at k l some le is touches =
    let e : next_start 0 (take at R) ≡ end_of (get_or R (at - 1) l) + 1
    = next_start-before 0 R at l some le in
    let f : end_of l ≡ end_of (get_or R (at - 1) l) = ap end_of is in
    omega arith

pub alone_at : (R : List Run) (at k : ℕ) → at ≤ length R → AreRuns 0 R → k < 256 →
    next_start 0 (take at R) ≤ k + 1 → (next_start 0 (take at R) ≡ k + 1 → ⊥) →
    StartsFrom (k + 2) (drop at R) → Joined R at k (insert R at (record { first = k; count = 1 }))
alone_at R at k le h below low apart far =
    alone (take at R) (drop at R) k
    (let P : List Run → Type 0 = λ l. AreRuns 0 l in subst P (sym (take-append-drop at R)) h)
    (let not : next_start 0 (take at R) ≢ k + 1 = apart in omega arith) below far

pub longer_at : (R : List Run) (at k : ℕ) (l : Run) → 0 < at → at ≤ length R →
    l ≡ get_or R (at - 1) l → AreRuns 0 R → k < 256 → next_start 0 (take at R) ≡ k + 1 →
    StartsFrom (k + 2) (drop at R) →
    Joined R at k (set R (at - 1) (record { first = l.first; count = l.count + 1 }))
longer_at R at k l some le is h below touches far =
    let whole : R ≡ take (at - 1) R ++ l ∷ drop at R =
    split_one R (at - 1) l (omega arith) is
    ∙ ap (λ n. take (at - 1) R ++ l ∷ drop n R) (let e : (at - 1) + 1 ≡ at = omega arith in e) in
    let P : List Run → Type 0 = λ r. AreRuns 0 r in
    moved R _ (take (at - 1) R ++ record { first = l.first; count = l.count + 1 } ∷ drop at R) at k _ _
    (set_split R (at - 1) _ (omega arith)
    ∙ ap (λ n. take (at - 1) R ++ record { first = l.first; count = l.count + 1 } ∷ drop n R)
    (let e : suc (at - 1) ≡ at = omega arith in e))
    (front_two R at l some le is) refl
    (longer (take (at - 1) R) (drop at R) l k (subst P whole h) (ends_at R at k l some le is touches)
    below far)

pub earlier_at : (R : List Run) (at k : ℕ) (r : Run) → at < length R → r ≡ get_or R at r →
    AreRuns 0 R → next_start 0 (take at R) ≤ k + 1 → (next_start 0 (take at R) ≡ k + 1 → ⊥) →
    r.first ≡ k + 1 → Joined R at k (set R at (record { first = k; count = r.count + 1 }))
earlier_at R at k r lt is h low apart next =
    let P : List Run → Type 0 = λ l. AreRuns 0 l in
    moved R _ (take at R ++ record { first = k; count = r.count + 1 } ∷ drop (at + 1) R) at k _ _
    (set_split R at _ lt
    ∙ ap (λ n. take at R ++ record { first = k; count = r.count + 1 } ∷ drop n R) (sym (add-one at)))
    refl (drop_more R at r lt ∙ ap (λ x. x ∷ drop (at + 1) R) (sym is))
    (earlier (take at R) (drop (at + 1) R) r k (subst P (split_one R at r lt is) h)
    (let not : next_start 0 (take at R) ≢ k + 1 = apart in omega arith) next)

pub closed_at : (R : List Run) (at k : ℕ) (l r : Run) → 0 < at → at < length R →
    l ≡ get_or R (at - 1) l → r ≡ get_or R at r → AreRuns 0 R →
    next_start 0 (take at R) ≡ k + 1 → r.first ≡ k + 1 →
    Joined R at k
    (remove (set R (at - 1) (record { first = l.first; count = l.count + 1 + r.count })) at)
closed_at R at k l r some lt is next_is h touches next =
    let x : Run = record { first = l.first; count = l.count + 1 + r.count } in
    let A : List Run = take (at - 1) R in
    let B : List Run = drop (at + 1) R in
    let length_A : length A ≡ at - 1 = length-take-le (at - 1) R (omega arith) in
    let back : drop at R ≡ r ∷ B = drop_more R at r lt ∙ ap (λ y. y ∷ B) (sym next_is) in
    let whole : R ≡ A ++ l ∷ r ∷ B =
    split_one R (at - 1) l (omega arith) is
    ∙ ap (λ n. A ++ l ∷ drop n R) (let e : (at - 1) + 1 ≡ at = omega arith in e)
    ∙ ap (λ b. A ++ l ∷ b) back in
    let P : List Run → Type 0 = λ y. AreRuns 0 y in
    let written : set R (at - 1) x ≡ (A ++ x ∷ []) ++ r ∷ B =
    ap (λ y. set y (at - 1) x) whole ∙ set_at A l (r ∷ B) x (at - 1) length_A
    ∙ sym (append_assoc A (x ∷ []) (r ∷ B)) in
    moved R _ (A ++ x ∷ B) at k _ _
    (ap (λ y. remove y at) written
    ∙ remove_at (A ++ x ∷ []) B r at
    (length-append A (x ∷ []) ∙ (let e : length A + 1 ≡ at = omega arith in e))
    ∙ append_assoc A (x ∷ []) B)
    (front_two R at l some (omega arith) is) back
    (closed A B l r k (subst P whole h) (ends_at R at k l some (omega arith) is touches) next)
