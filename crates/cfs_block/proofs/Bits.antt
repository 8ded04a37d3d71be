-- Bits of a word, and of words of 64 bits.
use Rattle.std.proofs.Common.{ℕ, ◌+◌, ◌-◌, ◌*◌, ◌/◌, ◌%◌, ◌^◌, ◌<◌, ◌≤◌, ◌≡◌, ◌≢◌, ◌∙◌, ◌==◌, ◌&&◌, ◌||◌, Bool, true, false, List, length, get_or, max, min, inl, inr, refl, sym, ap, arith, get_or-set_same, get_or-set_other}
use Rattle.std.specs.Prelude.{nat_le, nat_lt}
use Rattle.std.specs.Int.{bit_at}
use Rattle.std.specs.Int.RustNames.{bit_or}
use Rattle.std.proofs.Math.ListN.{set, replicate}
use Rattle.std.proofs.lemmas.List.{length-set, get_or-replicate, get_or_past, length-replicate}
use Rattle.std.proofs.lemmas.Bool.{cases_lt, lt-ltb, le-ltb, le-leb, lt-leb}
use Rattle.std.proofs.lemmas.Nat.Bits.{bit_at_or, bit_at-lt, bit_at-zero, bit_at_mask_inside, bit_at_mask_below, bit_at_mask_above}
use Rattle.cfs_block.specs.Written.{is_set, IsSetWithin}

is_one : (b m : ℕ) → m ≡ b → (m == 1) ≡ (b == 1)
is_one b m e = ap (λ n. n == 1) e

-- a run of ones set in a word
pub bit_of_run : (word low high r : ℕ) → low ≤ high → (bit_at (bit_or word (2 ^ high - 2 ^ low)) r == 1) ≡ ((nat_le low r && nat_lt r high) || (bit_at word r == 1))
bit_of_run word low high r order =
    let is : bit_at (bit_or word (2 ^ high - 2 ^ low)) r ≡ max (bit_at word r) (bit_at (2 ^ high - 2 ^ low) r) = bit_at_or word (2 ^ high - 2 ^ low) r in
    let small : bit_at word r < 2 = bit_at-lt word r in
    elim (cases_lt r low) as (λ _. (bit_at (bit_or word (2 ^ high - 2 ^ low)) r == 1) ≡ ((nat_le low r && nat_lt r high) || (bit_at word r == 1))) [
      | inl below ↦
          let none : bit_at (2 ^ high - 2 ^ low) r ≡ 0 = bit_at_mask_below low high r below in
          let same : bit_at (bit_or word (2 ^ high - 2 ^ low)) r ≡ bit_at word r = is ∙ ap (λ n. max (bit_at word r) n) none ∙ omega arith in
          is_one _ _ same ∙ sym (ap (λ b. (b && nat_lt r high) || (bit_at word r == 1)) (lt-leb low r below))
      | inr from_on ↦ elim (cases_lt r high) as (λ _. (bit_at (bit_or word (2 ^ high - 2 ^ low)) r == 1) ≡ ((nat_le low r && nat_lt r high) || (bit_at word r == 1))) [
        | inl inside ↦
            let one : bit_at (2 ^ high - 2 ^ low) r ≡ 1 = bit_at_mask_inside low high r from_on inside in
            let set : bit_at (bit_or word (2 ^ high - 2 ^ low)) r ≡ 1 = is ∙ ap (λ n. max (bit_at word r) n) one ∙ omega (arith, small) in
            is_one 1 _ set ∙ sym (ap (λ b. (b && nat_lt r high) || (bit_at word r == 1)) (le-leb low r from_on) ∙ ap (λ b. b || (bit_at word r == 1)) (lt-ltb r high inside))
        | inr above ↦
            let none : bit_at (2 ^ high - 2 ^ low) r ≡ 0 = bit_at_mask_above low high r above in
            let same : bit_at (bit_or word (2 ^ high - 2 ^ low)) r ≡ bit_at word r = is ∙ ap (λ n. max (bit_at word r) n) none ∙ omega arith in
            is_one _ _ same ∙ sym (ap (λ b. (b && nat_lt r high) || (bit_at word r == 1)) (le-leb low r from_on) ∙ ap (λ b. b || (bit_at word r == 1)) (le-ltb r high above))
      ]
    ]

-- The bits of words so far, up to a word: below it the range is set, and from it on they are as they were.
pub record Setting (from to : ℕ) (was now : List ℕ) (i : ℕ) : Type 0 where
  pub size : length now ≡ length was
  pub below : (k : ℕ) → k / 64 < i → is_set now k ≡ ((nat_le from k && nat_lt k to) || is_set was k)
  pub rest : (j : ℕ) → i ≤ j → get_or now j 0 ≡ get_or was j 0

same_le : (a b c d : ℕ) → (a ≤ b → c ≤ d) → (c ≤ d → a ≤ b) → nat_le a b ≡ nat_le c d
same_le a b c d there back = elim (cases_lt b a) as (λ _. nat_le a b ≡ nat_le c d) [
  | inl less ↦ lt-leb a b less ∙ sym (lt-leb c d (elim (cases_lt d c) as (λ _. d < c) [ inl under ↦ under | inr over ↦ absurd (let was : a ≤ b = back over in omega arith) ]))
  | inr more ↦ le-leb a b more ∙ sym (le-leb c d (there more))
]

same_lt : (a b c d : ℕ) → (a < b → c < d) → (c < d → a < b) → nat_lt a b ≡ nat_lt c d
same_lt a b c d there back = elim (cases_lt a b) as (λ _. nat_lt a b ≡ nat_lt c d) [
  | inl less ↦ lt-ltb a b less ∙ sym (lt-ltb c d (there less))
  | inr more ↦ le-ltb a b more ∙ sym (le-ltb c d (elim (cases_lt c d) as (λ _. d ≤ c) [ inl under ↦ absurd (let was : a < b = back under in omega arith) | inr over ↦ over ]))
]

pub setting_none : (from to : ℕ) (was : List ℕ) → Setting from to was was (from / 64)
setting_none from to was = record {
  size = refl;
  below = λ k l. let under : k < from = omega arith in sym (ap (λ b. (b && nat_lt k to) || is_set was k) (lt-leb from k under));
  rest = λ j l. refl;
}

pub setting_more : (from to : ℕ) (was now : List ℕ) (i low high : ℕ) → Setting from to was now i → from / 64 ≤ i → i < length now
    → low ≡ from - 64 * i → high ≡ min (to - 64 * i) 64 → low ≤ high
    → Setting from to was (set now i (bit_or (get_or now i 0) (2 ^ high - 2 ^ low))) (i + 1)
setting_more from to was now i low high h start within lo hi order =
    let word : ℕ = bit_or (get_or now i 0) (2 ^ high - 2 ^ low) in
    record {
      size = length-set now i word ∙ h.size;
      below = λ k l. elim (cases_lt (k / 64) i) as (λ _. is_set (set now i word) k ≡ ((nat_le from k && nat_lt k to) || is_set was k)) [
        | inl less ↦ ap (λ w. bit_at w (k % 64) == 1) (get_or-set_other now i (k / 64) word 0 (λ e. omega arith)) ∙ h.below k less
        | inr here ↦
            let j : k / 64 ≡ i = omega arith in
            let r : ℕ = k % 64 in
            let ge : nat_le low r ≡ nat_le from k = same_le low r from k (λ a. omega arith) (λ a. omega arith) in
            let lt : nat_lt r high ≡ nat_lt k to = same_lt r high k to (λ a. omega arith) (λ a. omega arith) in
            ap (λ n. bit_at (get_or (set now i word) n 0) r == 1) j
            ∙ ap (λ w. bit_at w r == 1) (get_or-set_same now i word 0 within)
            ∙ bit_of_run (get_or now i 0) low high r order
            ∙ ap (λ b. (b && nat_lt r high) || (bit_at (get_or now i 0) r == 1)) ge
            ∙ ap (λ b. (nat_le from k && b) || (bit_at (get_or now i 0) r == 1)) lt
            ∙ ap (λ w. (nat_le from k && nat_lt k to) || (bit_at w r == 1)) (h.rest i (omega arith))
            ∙ ap (λ n. (nat_le from k && nat_lt k to) || (bit_at (get_or was n 0) r == 1)) (sym j)
      ];
      rest = λ j l. get_or-set_other now i j word 0 (λ e. omega arith) ∙ h.rest j (omega arith);
    }

pub setting_all : (from to : ℕ) (was now : List ℕ) (i : ℕ) → Setting from to was now i → to ≤ 64 * i → (k : ℕ) → is_set now k ≡ ((nat_le from k && nat_lt k to) || is_set was k)
setting_all from to was now i h end k = elim (cases_lt (k / 64) i) as (λ _. is_set now k ≡ ((nat_le from k && nat_lt k to) || is_set was k)) [
  | inl less ↦ h.below k less
  | inr past ↦
      let above : to ≤ k = omega arith in
      ap (λ w. bit_at w (k % 64) == 1) (h.rest (k / 64) past)
      ∙ sym (ap (λ b. (nat_le from k && b) || is_set was k) (le-ltb k to above) ∙ off (nat_le from k) (is_set was k))
]
  where
    off : (a b : Bool) → ((a && false) || b) ≡ b
    off true b = refl
    off false b = refl

-- Words from a place on whose bits are not cleared yet.
pub record Clearing (to : ℕ) (was now : List ℕ) (i : ℕ) : Type 0 where
  pub size : length now ≡ length was
  pub left : IsSetWithin (64 * i) to now

pub clearing_none : (from to : ℕ) (was : List ℕ) → IsSetWithin from to was → Clearing to was was (from / 64)
clearing_none from to was within = record { size = refl; left = λ k s. let h = within k s in (omega (arith, h.0), h.1) }

pub clearing_more : (to : ℕ) (was now : List ℕ) (i : ℕ) → Clearing to was now i → i < length now → Clearing to was (set now i 0) (i + 1)
clearing_more to was now i h within = record {
  size = length-set now i 0 ∙ h.size;
  left = λ k s.
      let elsewhere : k / 64 ≢ i → is_set now k ≡ true = λ ne. sym (ap (λ w. bit_at w (k % 64) == 1) (get_or-set_other now i (k / 64) 0 0 ne)) ∙ s in
      elim (cases_lt (k / 64) i) [
        | inl less ↦ let old = h.left k (elsewhere (λ e. omega arith)) in absurd (omega (arith, old.0, less))
        | inr from_on ↦ elim (cases_lt i (k / 64)) [
          | inl more ↦ let old = h.left k (elsewhere (λ e. omega arith)) in (omega arith, old.1)
          | inr here ↦
              let j : k / 64 ≡ i = omega arith in
              let zero : get_or (set now i 0) (k / 64) 0 ≡ 0 = ap (λ n. get_or (set now i 0) n 0) j ∙ get_or-set_same now i 0 0 within in
              let unset : is_set (set now i 0) k ≡ false = ap (λ w. bit_at w (k % 64) == 1) zero ∙ ap (λ b. b == 1) (bit_at-zero (k % 64)) in
              absurd (cc)
        ]
      ];
}

pub clearing_all : (to : ℕ) (was now : List ℕ) (i : ℕ) → Clearing to was now i → to ≤ 64 * i → (k : ℕ) → is_set now k ≡ false
clearing_all to was now i h end k = unset (is_set now k) (λ s. let left = h.left k s in absurd (omega (arith, left.0, left.1)))
  where
    unset : (b : Bool) → (b ≡ true → ⊥) → b ≡ false
    unset true never = absurd (never refl)
    unset false never = refl

-- no bit is set in words that are zero
pub is_set-replicate : (n k : ℕ) → is_set (replicate n 0) k ≡ false
is_set-replicate n k =
    let none : ℕ = 0 in
    let zero : get_or (replicate n none) (k / 64) none ≡ none = elim (cases_lt (k / 64) n) as (λ _. get_or (replicate n none) (k / 64) none ≡ none) [
      | inl within ↦ get_or-replicate n (k / 64) none none within
      | inr past ↦ get_or_past (replicate n none) (k / 64) none (omega (arith, length-replicate n none))
    ] in
    ap (λ w. bit_at w (k % 64) == 1) zero ∙ ap (λ b. b == 1) (bit_at-zero (k % 64))
