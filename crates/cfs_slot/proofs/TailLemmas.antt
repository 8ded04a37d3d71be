-- The numbers of tails, as a set of bits.
use Rattle.std.proofs.Common.{ℕ, zero, suc, ◌+◌, ◌-◌, ◌*◌, ◌/◌, ◌%◌, ◌^◌, ◌==◌, ◌<◌, ◌≤◌, ◌≡◌, ◌∙◌, Bool, true, false, List, [], ◌∷◌, ◌++◌, map, if◌then◌else◌, inl, inr, refl, sym, ap, subst, arith, eq-eqb}
use Rattle.std.proofs.Math.Nat.{mul-div_cancel_left}
use Rattle.std.proofs.lemmas.Nat.{pow_pos, pow-add}
use Rattle.std.proofs.lemmas.Bool.{cases_eq, ne_eqb}
use Rattle.cfs_slot.specs.Tails.{AreAbove, numbers_from, numbers_in, number_of, set_of}

-- the numbers rise from `from` on, and are below `top`
abbrev pub Rise : ℕ → ℕ → List ℕ → Type 0
Rise from top [] = Unit {0}
Rise from top (number ∷ numbers) = (from ≤ number) × (number < top) × Rise (suc number) top numbers

weaken : (lower from top : ℕ) (numbers : List ℕ) → lower ≤ from → Rise from top numbers → Rise lower top numbers
weaken lower from top [] l h = tt
weaken lower from top (number ∷ numbers) l h = (omega (arith, h.0), h.1, h.2)

pow-suc : (k : ℕ) → 2 ^ suc k ≡ 2 * 2 ^ k
pow-suc k = let e : suc k ≡ 1 + k = omega arith in ap (λ n. 2 ^ n) e ∙ pow-add 2 1 k

cancel : (bit a b : ℕ) → 0 < bit → bit * a ≡ bit * b → a ≡ b
cancel bit a b pos e =
    sym (mul-div_cancel_left a pos) ∙ ap (λ n. n / bit) e ∙ mul-div_cancel_left b pos

-- a set of numbers from `from` on is a multiple of that number's bit
pub record Multiple (bit set : ℕ) : Type 0 where
  pub times : ℕ
  pub is : set ≡ bit * times

add_multiples : (bit a b : ℕ) → bit * a + bit * b ≡ bit * (a + b)
add_multiples bit a b = omega arith

multiple_set : (from top : ℕ) (numbers : List ℕ) → Rise from top numbers → Multiple (2 ^ from) (set_of numbers)
multiple_set from top [] h = record { times = 0; is = omega arith }
multiple_set from top (number ∷ numbers) h =
    let rest = multiple_set from top numbers (weaken from (suc number) top numbers (omega (arith, h.0)) h.2) in
    let over : ℕ = number - from in
    let at : from + over ≡ number = omega (arith, h.0) in
    let bit : 2 ^ number ≡ 2 ^ from * 2 ^ over = ap (λ n. 2 ^ n) (sym at) ∙ pow-add 2 from over in
    record {
      times = 2 ^ over + rest.times;
      is = ap (λ n. n + set_of numbers) bit ∙ ap (λ n. 2 ^ from * 2 ^ over + n) rest.is ∙ add_multiples (2 ^ from) (2 ^ over) rest.times;
    }

-- twice the bit
doubled : (bit next times : ℕ) → next ≡ 2 * bit → next * times ≡ bit * (2 * times)
doubled bit next times e = ap (λ n. n * times) e ∙ omega arith

odd : (times : ℕ) → ((1 + 2 * times) % 2 == 1) ≡ true
odd times = eq-eqb ((1 + 2 * times) % 2) 1 (omega arith)

even : (times : ℕ) → (2 * times % 2 == 1) ≡ false
even times = ne_eqb (2 * times % 2) 1 (λ e. absurd (omega (arith, e)))

taken : (n from bits : ℕ) (b : Bool) (half : ℕ) → (bits % 2 == 1) ≡ b → bits / 2 ≡ half
    → numbers_from (suc n) from bits ≡ (if b then from ∷ [] else []) ++ numbers_from n (from + 1) half
taken n from bits b half low high =
    ap (λ b. (if b then from ∷ [] else []) ++ numbers_from n (from + 1) (bits / 2)) low
    ∙ ap (λ h. (if b then from ∷ [] else []) ++ numbers_from n (from + 1) h) high

-- the numbers of a set are those that it was made of
pub numbers_are : (n from bits : ℕ) (numbers : List ℕ) → Rise from (from + n) numbers → set_of numbers ≡ 2 ^ from * bits → numbers_from n from bits ≡ numbers
numbers_are zero from bits [] h e = refl
numbers_are zero from bits (number ∷ numbers) h e = absurd (omega (arith, h.0, h.1))
numbers_are (suc n) from bits [] h e =
    let none : bits ≡ 0 = cancel (2 ^ from) bits 0 (pow_pos from) (sym e ∙ omega arith) in
    let next : from + 1 + n ≡ from + suc n = omega arith in
    taken n from bits false 0 (ap (λ (b : ℕ). b % 2 == 1) none) (ap (λ (b : ℕ). b / 2) none)
    ∙ numbers_are n (from + 1) 0 [] tt (omega arith)
numbers_are (suc n) from bits (number ∷ numbers) h e =
    let top : from + suc n ≡ from + 1 + n = omega arith in
    let step : from + 1 ≡ suc from = omega arith in
    let twice : 2 ^ (from + 1) ≡ 2 * 2 ^ from = ap (λ k. 2 ^ k) step ∙ pow-suc from in
    elim (cases_eq number from) [
      | inl here ↦
          let rise : Rise (from + 1) (from + 1 + n) numbers = subst (λ t. Rise (from + 1) t numbers) top (weaken (from + 1) (suc number) (from + suc n) numbers (omega (arith, here)) h.2) in
          let rest = multiple_set (from + 1) (from + 1 + n) numbers rise in
          let set : set_of numbers ≡ 2 ^ from * (2 * rest.times) = rest.is ∙ doubled (2 ^ from) (2 ^ (from + 1)) rest.times twice in
          let all : 2 ^ from * bits ≡ 2 ^ from * (1 + 2 * rest.times) =
          sym e ∙ ap (λ k. 2 ^ k + set_of numbers) here ∙ ap (λ s. 2 ^ from + s) set ∙ one_more (2 ^ from) (2 * rest.times) in
          let bits_are : bits ≡ 1 + 2 * rest.times = cancel (2 ^ from) bits (1 + 2 * rest.times) (pow_pos from) all in
          taken n from bits true rest.times (ap (λ (b : ℕ). b % 2 == 1) bits_are ∙ odd rest.times) (ap (λ (b : ℕ). b / 2) bits_are ∙ omega arith)
          ∙ ap (λ ns. from ∷ ns) (numbers_are n (from + 1) rest.times numbers rise rest.is)
          ∙ ap (λ k. k ∷ numbers) (sym here)
      | inr other ↦
          let rise : Rise (from + 1) (from + 1 + n) (number ∷ numbers) =
          subst (λ t. Rise (from + 1) t (number ∷ numbers)) top (omega (arith, h.0, other), h.1, h.2) in
          let all = multiple_set (from + 1) (from + 1 + n) (number ∷ numbers) rise in
          let set : 2 ^ from * bits ≡ 2 ^ from * (2 * all.times) = sym e ∙ all.is ∙ doubled (2 ^ from) (2 ^ (from + 1)) all.times twice in
          let bits_are : bits ≡ 2 * all.times = cancel (2 ^ from) bits (2 * all.times) (pow_pos from) set in
          taken n from bits false all.times (ap (λ (b : ℕ). b % 2 == 1) bits_are ∙ even all.times) (ap (λ (b : ℕ). b / 2) bits_are ∙ omega arith)
          ∙ numbers_are n (from + 1) all.times (number ∷ numbers) rise all.is
    ]
  where
    one_more : (bit times : ℕ) → bit + bit * times ≡ bit * (1 + times)
    one_more bit times = omega arith

-- slots of one queue, each above the one before
above_rise : (first : ℕ) (devices : List ℕ) → 323 ≤ first → AreAbove first devices → Rise (suc (number_of first)) 16 (map number_of devices)
above_rise first [] l h = tt
above_rise first (next ∷ rest) l h =
    (omega (arith, h.1, h.2), omega arith, above_rise next rest (omega (arith, h.1)) h.3)

pub numbers_in_set : (first : ℕ) (devices : List ℕ) → AreAbove first devices → numbers_in (set_of (map number_of devices)) ≡ map number_of devices
unfolding numbers_in
numbers_in_set first [] h = numbers_are 16 0 0 [] tt (omega arith)
numbers_in_set first (next ∷ rest) h =
    let devices : List ℕ = next ∷ rest in
    numbers_are 16 0 (set_of (map number_of devices)) (map number_of devices)
    (weaken 0 (suc (number_of first)) 16 (map number_of devices) (omega arith) (above_rise first devices h.0 h)) (omega arith)
