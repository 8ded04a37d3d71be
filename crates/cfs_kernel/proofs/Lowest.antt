-- What `find` finds among the records.
use Rattle.std.proofs.Common.{ℕ, zero, suc, ◌+◌, ◌≡◌, ◌<◌, ◌≤◌, Bool, true, false, Some, None, inl, inr, refl, sym, ◌∙◌, ap, arith}
use Rattle.std.specs.Prelude.{find, nat_eq}
use Rattle.std.specs.List.{range_with_len}
use Rattle.std.proofs.lemmas.Bool.{cases_Bool, cond-false, cond-true, eqb-false, eqb-true}
use Rattle.cfs_kernel.specs.Records.{all_records}

first_in : (p : ℕ → Bool) (count start rec : ℕ) → start ≤ rec → rec < start + count → p rec ≡ true →
    ((other : ℕ) → start ≤ other → other < rec → p other ≡ false) → find p (range_with_len start count) ≡ Some rec
first_in p zero start rec low high is below = absurd (omega arith)
first_in p (suc count) start rec low high is below = elim (cases_Bool (nat_eq start rec)) [
  | inl t ↦
      let same : start ≡ rec = eqb-true start rec t in
      cond-true (p start) (Some start) (find p (range_with_len (start + 1) count)) (ap p same ∙ is) ∙ ap (λ n. Some n) same
  | inr f ↦
      let apart = eqb-false start rec f in
      cond-false (p start) (Some start) (find p (range_with_len (start + 1) count)) (below start (omega arith) (omega (arith, apart, low)))
      ∙ first_in p count (start + 1) rec (omega (arith, apart, low)) (omega arith) is (λ other at_least less. below other (omega arith) less)
]

none_in : (p : ℕ → Bool) (count start : ℕ) → ((other : ℕ) → start ≤ other → other < start + count → p other ≡ false) →
    find p (range_with_len start count) ≡ None
none_in p zero start none = refl
none_in p (suc count) start none =
    cond-false (p start) (Some start) (find p (range_with_len (start + 1) count)) (none start (omega arith) (omega arith))
    ∙ none_in p count (start + 1) (λ other low high. none other (omega arith) (omega arith))

found_in : (p : ℕ → Bool) (count start rec : ℕ) → find p (range_with_len start count) ≡ Some rec → (p rec ≡ true) × (rec < start + count)
found_in p zero start rec e = absurd (cc)
found_in p (suc count) start rec e = elim (cases_Bool (p start)) [
  | inl t ↦
      let is = cond-true (p start) (Some start) (find p (range_with_len (start + 1) count)) t in
      let same : start ≡ rec = cc in
      (ap p (sym same) ∙ t, omega (arith, same))
  | inr f ↦
      let rest = found_in p count (start + 1) rec (sym (cond-false (p start) (Some start) (find p (range_with_len (start + 1) count)) f) ∙ e) in
      (rest.0, let high = rest.1 in omega (arith, high))
]

pub first_record : (p : ℕ → Bool) (rec : ℕ) → rec < 256 → p rec ≡ true → ((other : ℕ) → other < rec → p other ≡ false) →
    find p all_records ≡ Some rec
unfolding all_records
first_record p rec low is below = first_in p 256 0 rec (omega arith) (omega arith) is (λ other _ less. below other less)

pub no_record : (p : ℕ → Bool) → ((other : ℕ) → other < 256 → p other ≡ false) → find p all_records ≡ None
unfolding all_records
no_record p none = none_in p 256 0 (λ other _ high. none other (omega arith))

pub found_record : (p : ℕ → Bool) (rec : ℕ) → find p all_records ≡ Some rec → (p rec ≡ true) × (rec < 256)
unfolding all_records
found_record p rec e = found_in p 256 0 rec e
