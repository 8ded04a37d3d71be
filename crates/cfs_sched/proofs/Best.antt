-- A walk over a list of items that keeps the best so far.
use Rattle.std.proofs.Common.{ℕ, ◌+◌, ◌≡◌, ◌<◌, ◌≤◌, arith, List, Some, false, slice_get, get_or, length, sym, ◌∙◌, subst, inl, inr}
use Rattle.std.proofs.lemmas.Option.{same_Some, slice_get-get_or, slice_get_within}
use Rattle.std.proofs.lemmas.Bool.{cases_lt}
use Rattle.cfs_sched.specs.Choice.{ComesBefore, IsFirst}
use Rattle.cfs_sched.specs.declared.summary.Summary.{Summary}
use Rattle.cfs_sched.proofs.Order.{ComesBefore-irrefl, ComesBefore-trans, ComesBefore-past, passed_over_first}

-- the best of the items below an index, and where it stands
pub record IsBest (work : List Summary) (at index : ℕ) (best : Summary) : Type 0 where
  pub there : slice_get work index ≡ Some best
  pub first : (k : ℕ) (other : Summary) → k < at → slice_get work k ≡ Some other → ComesBefore other best → ⊥
  pub earliest : (k : ℕ) (other : Summary) → k < index → slice_get work k ≡ Some other → ComesBefore best other
  pub within : index ≤ at

-- what a read past the end gives
abbrev pub nothing : Summary
nothing = record { rec = 0; ino = 0; place = 0; noop = false; read_waits = false; passed = 0 }

-- the item at an index, read twice
same_item : (work : List Summary) (k : ℕ) (x y : Summary) → slice_get work k ≡ Some x → slice_get work k ≡ Some y → x ≡ y
same_item work k x y h g = same_Some x y (sym h ∙ g)

kept_there : (work : List Summary) (at index : ℕ) (best item : Summary) → IsBest work at index best →
    slice_get work at ≡ Some item → (ComesBefore item best → ⊥) → IsBest work (at + 1) index best
kept_there work at index best item h there not = record {
  there = h.there;
  first = λ k other below is before.
      elim (cases_lt k at) [
        | inl lt ↦ h.first k other lt is before
        | inr ge ↦
            let same : k ≡ at = omega arith in
            let P : ℕ → Type 0 = λ n. slice_get work n ≡ Some other in
            let e = same_item work at other item (subst P same is) there in
            not (let Q : Summary → Type 0 = λ s. ComesBefore s best in subst Q e before)
      ];
  earliest = h.earliest;
  within = (let w = h.within in omega arith);
}

taken_there : (work : List Summary) (at index : ℕ) (best item : Summary) → IsBest work at index best →
    slice_get work at ≡ Some item → ComesBefore item best → IsBest work (at + 1) at item
taken_there work at index best item h there before = record {
  there = there;
  first = λ k other below is sooner.
      elim (cases_lt k at) [
        | inl lt ↦ h.first k other lt is (ComesBefore-trans other item best sooner before)
        | inr ge ↦
            let same : k ≡ at = omega arith in
            let P : ℕ → Type 0 = λ n. slice_get work n ≡ Some other in
            let e = same_item work at other item (subst P same is) there in
            ComesBefore-irrefl item (let Q : Summary → Type 0 = λ s. ComesBefore s item in subst Q e sooner)
      ];
  earliest = λ k other below is. ComesBefore-past item best other before (h.first k other below is);
  within = omega arith;
}

pub kept : (work : List Summary) (at index : ℕ) (best d : Summary) → IsBest work at index best →
    at < length work → (ComesBefore (get_or work at d) best → ⊥) → IsBest work (at + 1) index best
kept work at index best d h below not = kept_there work at index best (get_or work at d) h (slice_get-get_or work at d below) not

pub taken : (work : List Summary) (at index : ℕ) (best d : Summary) → IsBest work at index best →
    at < length work → ComesBefore (get_or work at d) best → IsBest work (at + 1) at (get_or work at d)
taken work at index best d h below before = taken_there work at index best (get_or work at d) h (slice_get-get_or work at d below) before

pub started : (work : List Summary) (best : Summary) → slice_get work 0 ≡ Some best → IsBest work 0 0 best
started work best h = record {
  there = h;
  first = λ k other below is before. absurd (omega arith);
  earliest = λ k other below is. absurd (omega arith);
  within = omega arith;
}

-- the best of all items is the first
pub is_first : (work : List Summary) (at index : ℕ) (best : Summary) → IsBest work at index best →
    length work ≤ at → IsFirst work index best
is_first work at index best h past = record {
  there = h.there;
  first = λ k other is before. h.first k other (let w = slice_get_within work k other is in omega arith) is before;
  earliest = h.earliest;
}

-- what was passed over 64 times or more is left only for what was passed over as often
pub fair : (work : List Summary) (index k : ℕ) (item chosen other : Summary) → IsFirst work index item →
    slice_get work index ≡ Some chosen → slice_get work k ≡ Some other →
    64 ≤ other.passed → other.passed ≤ chosen.passed
fair work index k item chosen other h there is often =
    let same : item ≡ chosen = same_item work index item chosen h.there there in
    let not : ComesBefore other chosen → ⊥ = (let P : Summary → Type 0 = λ s. ComesBefore other s → ⊥ in subst P same (h.first k other is)) in
    elim (cases_lt chosen.passed other.passed) [
      | inl lt ↦ absurd (not (passed_over_first other chosen often lt))
      | inr ge ↦ ge
    ]
