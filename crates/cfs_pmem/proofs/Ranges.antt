-- Two copies that differ within a range alone.
use Rattle.std.proofs.Common.{ℕ, ◌+◌, ◌-◌, ◌<◌, ◌≤◌, ◌≡◌, ◌∙◌, List, ◌++◌, length, take, drop, min, max, [], ap, sym, refl, arith}
use Rattle.std.proofs.lemmas.List.{drop-drop, take-take, take-append-drop, take-append-le, drop_all, take_all}
use Rattle.cfs_pmem.specs.declared.dirty.Dirty.{Dirty}
use Rattle.cfs_pmem.specs.Range.{with_range, DifferWithin}

-- the range copied over what was durable
pub copied : {X : Type 0} (dirty : Dirty) (durable present : List X) → DifferWithin dirty durable present → dirty.from < dirty.to
    → take dirty.from durable ++ (take (dirty.to - dirty.from) (drop dirty.from present) ++ drop (dirty.to - dirty.from) (drop dirty.from durable)) ≡ present
copied dirty durable present h l =
    let k : ℕ = dirty.to - dirty.from in
    let to : dirty.from + k ≡ dirty.to = omega arith in
    let end : drop k (drop dirty.from durable) ≡ drop k (drop dirty.from present) =
    drop-drop k dirty.from durable ∙ ap (λ n. drop n durable) to ∙ h.above ∙ sym (drop-drop k dirty.from present ∙ ap (λ n. drop n present) to) in
    ap (λ xs. xs ++ (take k (drop dirty.from present) ++ drop k (drop dirty.from durable))) h.below
    ∙ ap (λ xs. take dirty.from present ++ (take k (drop dirty.from present) ++ xs)) end
    ∙ ap (λ xs. take dirty.from present ++ xs) (take-append-drop k (drop dirty.from present))
    ∙ take-append-drop dirty.from present

-- where the range is empty the copies are one
pub same_copies : {X : Type 0} (dirty : Dirty) (durable present : List X) → DifferWithin dirty durable present → dirty.to ≤ dirty.from → durable ≡ present
same_copies dirty durable present h l =
    let k : ℕ = dirty.from - dirty.to in
    let from : dirty.to + k ≡ dirty.from = omega arith in
    let end : drop dirty.from durable ≡ drop dirty.from present =
    ap (λ n. drop n durable) (sym from) ∙ sym (drop-drop k dirty.to durable) ∙ ap (λ xs. drop k xs) h.above ∙ drop-drop k dirty.to present ∙ ap (λ n. drop n present) from in
    sym (take-append-drop dirty.from durable) ∙ ap (λ xs. xs ++ drop dirty.from durable) h.below ∙ ap (λ xs. take dirty.from present ++ xs) end ∙ take-append-drop dirty.from present

-- a write within a range that is added to it
pub with_write : {X : Type 0} (dirty : Dirty) (durable present written : List X) (from to : ℕ) → DifferWithin dirty durable present
    → length written ≡ length present → take from written ≡ take from present → drop to written ≡ drop to present → from ≤ length present → to ≤ length present
    → DifferWithin (with_range from to dirty) durable written
with_write dirty durable present written from to h size below above fi ti =
    let m : ℕ = min dirty.from from in
    let n : ℕ = max dirty.to to in
    let ml : m ≤ from = omega arith in
    let md : m ≤ dirty.from = omega arith in
    let na : to + (n - to) ≡ n = omega arith in
    let nd : dirty.to + (n - dirty.to) ≡ n = omega arith in
    record {
      size = h.size ∙ sym size;
      from_in = omega (arith, h.from_in);
      to_in = omega (arith, h.to_in);
      below = sym (take-take m dirty.from durable md) ∙ ap (λ xs. take m xs) h.below ∙ take-take m dirty.from present md
          ∙ sym (take-take m from present ml) ∙ sym (ap (λ xs. take m xs) below) ∙ take-take m from written ml;
      above = ap (λ k. drop k durable) (sym nd) ∙ sym (drop-drop (n - dirty.to) dirty.to durable) ∙ ap (λ xs. drop (n - dirty.to) xs) h.above
          ∙ drop-drop (n - dirty.to) dirty.to present ∙ ap (λ k. drop k present) (nd ∙ sym na)
          ∙ sym (drop-drop (n - to) to present) ∙ sym (ap (λ xs. drop (n - to) xs) above) ∙ drop-drop (n - to) to written ∙ ap (λ k. drop k written) na;
    }

-- both copies are one, whatever the range
pub nothing_differs : {X : Type 0} (dirty : Dirty) (xs : List X) → dirty.from ≤ length xs → dirty.to ≤ length xs → DifferWithin dirty xs xs
nothing_differs dirty xs f t = record { size = refl; from_in = f; to_in = t; below = refl; above = refl }

-- a vector after its slice was written whole
pub written_back : {X : Type 0} (n : ℕ) (xs ys : List X) → length ys ≡ length xs → n ≡ length xs → take n (ys ++ drop (length ys) xs) ≡ ys
written_back n xs ys e l =
    ap (λ zs. take n (ys ++ zs)) (drop_all (length ys) xs (omega arith)) ∙ take-append-le n ys [] (omega arith) ∙ take_all n ys (omega arith)
