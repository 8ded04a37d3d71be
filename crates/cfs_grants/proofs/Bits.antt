-- One bit of some words is set or cleared, and the lowest that is set is found.
use Rattle.std.proofs.Common.{◌≡◌, ◌≢◌, ℕ, ◌+◌, ◌*◌, ◌/◌, ◌%◌, ◌^◌, ◌≤◌, ◌<◌, List, length, Bool, true, false, not, ◌||◌, ◌&&◌, inl, inr, refl, sym, ◌∙◌, ap, arith, w64, bit_and, bit_or}
use Rattle.std.specs.Prelude.{All, get_or, set, nat_eq}
use Rattle.std.specs.Int.{bit_at, bit_not, trailing_zeros}
use Rattle.std.proofs.lemmas.Bool.{cases_Bool, eqb-true, eqb-false, eq-eqb}
use Rattle.std.proofs.lemmas.List.{get_or-set_same, get_or-set_other}
use Rattle.std.proofs.lemmas.Nat.Bits.{bit_at_set_same, bit_at_set_other, bit_at_clear_same, bit_at_clear_other, bit_at-trailing_zeros}
use Rattle.cfs_grants.specs.Free.{is_set}

-- the bit of another record after a word was written, which has this one
module _ (words : List ℕ) (rec word : ℕ) (within : rec / 64 < length words) where
  abbrev written : List ℕ
  written = set words (rec / 64) word

  in_it : (other : ℕ) → other / 64 ≡ rec / 64 → is_set written other ≡ nat_eq (bit_at word (other % 64)) 1
  in_it other same = ap (λ w. nat_eq (bit_at w (other % 64)) 1)
      (ap (λ q. get_or written q 0) same ∙ get_or-set_same words (rec / 64) word 0 within)

  beside : (other : ℕ) → other / 64 ≢ rec / 64 → is_set written other ≡ is_set words other
  beside other apart = ap (λ w. nat_eq (bit_at w (other % 64)) 1)
      (get_or-set_other words (rec / 64) (other / 64) word 0 apart)

word_of : (words : List ℕ) (rec other : ℕ) → other / 64 ≡ rec / 64 →
    nat_eq (bit_at (get_or words (rec / 64) 0) (other % 64)) 1 ≡ is_set words other
word_of words rec other same = ap (λ q. nat_eq (bit_at (get_or words q 0) (other % 64)) 1) (sym same)

bits_apart : (rec other : ℕ) → other ≢ rec → other / 64 ≡ rec / 64 → other % 64 ≢ rec % 64
bits_apart rec other apart same e = apart (omega (arith, same, e))

pub given : (words : List ℕ) (rec : ℕ) → rec / 64 < length words → (other : ℕ) →
    is_set (set words (rec / 64) (bit_or (get_or words (rec / 64) 0) (1 * 2 ^ (rec % 64) % 2 ^ 64))) other
    ≡ (nat_eq other rec || is_set words other)
given words rec within other =
    let old : ℕ = get_or words (rec / 64) 0 in
    let word : ℕ = bit_or old (1 * 2 ^ (rec % 64) % 2 ^ 64) in
    let low : rec % 64 < 64 = omega arith in
    elim (cases_Bool (nat_eq other rec)) [
      | inl t ↦
          let same : other ≡ rec = eqb-true other rec t in
          in_it words rec word within other (ap (λ r. r / 64) same)
          ∙ ap (λ r. nat_eq (bit_at word (r % 64)) 1) same
          ∙ eq-eqb (bit_at word (rec % 64)) 1 (bit_at_set_same w64 old (rec % 64) low)
          ∙ sym (ap (λ b. b || is_set words other) t)
      | inr f ↦
          let apart : other ≢ rec = eqb-false other rec f in
          elim (cases_Bool (nat_eq (other / 64) (rec / 64))) [
            | inl here ↦
                let same : other / 64 ≡ rec / 64 = eqb-true (other / 64) (rec / 64) here in
                in_it words rec word within other same
                ∙ ap (λ b. nat_eq b 1) (bit_at_set_other w64 old (rec % 64) low (other % 64) (bits_apart rec other apart same))
                ∙ word_of words rec other same
                ∙ sym (ap (λ b. b || is_set words other) f)
            | inr there ↦ beside words rec word within other (eqb-false (other / 64) (rec / 64) there)
                ∙ sym (ap (λ b. b || is_set words other) f)
          ]
    ]

pub taken : (words : List ℕ) (rec : ℕ) → rec / 64 < length words → (other : ℕ) →
    is_set (set words (rec / 64) (bit_and (get_or words (rec / 64) 0) (bit_not w64 (1 * 2 ^ (rec % 64) % 2 ^ 64)))) other
    ≡ (not (nat_eq other rec) && is_set words other)
taken words rec within other =
    let old : ℕ = get_or words (rec / 64) 0 in
    let word : ℕ = bit_and old (bit_not w64 (1 * 2 ^ (rec % 64) % 2 ^ 64)) in
    let low : rec % 64 < 64 = omega arith in
    let low_other : other % 64 < 64 = omega arith in
    elim (cases_Bool (nat_eq other rec)) [
      | inl t ↦
          let same : other ≡ rec = eqb-true other rec t in
          in_it words rec word within other (ap (λ r. r / 64) same)
          ∙ ap (λ r. nat_eq (bit_at word (r % 64)) 1) same
          ∙ ap (λ b. nat_eq b 1) (bit_at_clear_same w64 old (rec % 64) low)
          ∙ sym (ap (λ b. not b && is_set words other) t)
      | inr f ↦
          let apart : other ≢ rec = eqb-false other rec f in
          elim (cases_Bool (nat_eq (other / 64) (rec / 64))) [
            | inl here ↦
                let same : other / 64 ≡ rec / 64 = eqb-true (other / 64) (rec / 64) here in
                in_it words rec word within other same
                ∙ ap (λ b. nat_eq b 1) (bit_at_clear_other w64 old (rec % 64) low (other % 64) low_other (bits_apart rec other apart same))
                ∙ word_of words rec other same
                ∙ sym (ap (λ b. not b && is_set words other) f)
            | inr there ↦ beside words rec word within other (eqb-false (other / 64) (rec / 64) there)
                ∙ sym (ap (λ b. not b && is_set words other) f)
          ]
    ]

-- the words before this place have no bit
abbrev pub AreBare : List ℕ → ℕ → Type 0
AreBare words place = (rec : ℕ) → rec < 64 * place → is_set words rec ≡ false

-- where the word at this place has a bit, the lowest that is set is in it
module _ (words : List ℕ) (place : ℕ) (some : 0 < get_or words place 0) (fits : get_or words place 0 < 2 ^ 64) where
  abbrev word : ℕ
  word = get_or words place 0

  abbrev first : ℕ
  first = place * 64 + trailing_zeros w64 word

  at_place : (other : ℕ) → other / 64 ≡ place → is_set words other ≡ nat_eq (bit_at word (other % 64)) 1
  at_place other same = ap (λ q. nat_eq (bit_at (get_or words q 0) (other % 64)) 1) same

  pub lowest_is_set : is_set words first ≡ true
  lowest_is_set =
      let found = bit_at-trailing_zeros w64 word some fits in
      let low = found.0 in
      let rest : first % 64 ≡ trailing_zeros w64 word = omega (arith, low) in
      at_place first (omega (arith, low))
      ∙ ap (λ r. nat_eq (bit_at word r) 1) rest
      ∙ eq-eqb (bit_at word (trailing_zeros w64 word)) 1 found.1

  pub none_below : AreBare words place → (other : ℕ) → other < first → is_set words other ≡ false
  none_below bare other below =
      let found = bit_at-trailing_zeros w64 word some fits in
      let low = found.0 in
      elim (cases_Bool (nat_eq (other / 64) place)) [
        | inl here ↦
            let same : other / 64 ≡ place = eqb-true (other / 64) place here in
            let before : other % 64 < trailing_zeros w64 word = omega (arith, same, below) in
            at_place other same ∙ ap (λ b. nat_eq b 1) (found.2 (other % 64) before)
        | inr there ↦
            let apart : other / 64 ≢ place = eqb-false (other / 64) place there in
            bare other (omega (arith, apart, low, below))
      ]
