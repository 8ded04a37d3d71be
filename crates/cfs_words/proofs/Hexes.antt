-- Bytes as lower case hexadecimal digits, there and back.
use Rattle.std.proofs.Common.{◌≡◌, ℕ, zero, suc, ◌+◌, ◌*◌, ◌/◌, ◌%◌, ◌<◌, ◌≤◌, ◌⊎◌, inl, inr, Bool, true, false, ◌&&◌, List, [], ◌∷◌, ◌++◌, length, Option, Some, None, Result, Ok, Err, arith, refl, sym, subst, ap, ◌∙◌}
use Rattle.std.specs.Prelude.{All, ◌==◌, ◌||◌, not, slice_index, is_some, nat_eq}
use Rattle.std.specs.List.{list_all}
use Rattle.std.proofs.lemmas.Bool.Decides.{nat_tests, eqb_tells, leb_tells}
use Rattle.std.proofs.lemmas.List.Elements.{All-head, All-tail, All-from_get_or}
use Rattle.std.proofs.lemmas.Option.{cond_some, none-some, same_Some}
use Rattle.hex.specs.Hex.{lower_digits, encode_with, encode_lower, hex_digit_value, value_at, pair_value, decode_pairs, decode_of, IsBytes, ◌>>=◌}
use Rattle.hex.specs.declared.error.FromHexError.{FromHexError}
use Rattle.hex.proofs.HexLemmas.{decode_of-encode_lower, decode_of-even, decode_of-ok}
use Rattle.cfs_words.specs.Reading.{is_lower_hex, decoded, hex_of}
use Rattle.cfs_words.proofs.Numbers.{and_parts, and_both}

-- a test that each number below n passes
abbrev pub passes_below : (ℕ → Bool) → ℕ → Bool
passes_below p zero = true
passes_below p (suc n) = p n && passes_below p n

pub passes_at : (p : ℕ → Bool) (n k : ℕ) → passes_below p n ≡ true → k < n → p k ≡ true
passes_at p zero k e lt = absurd (omega arith)
passes_at p (suc n) k e lt =
    let both = and_parts (p n) (passes_below p n) e in
    elim (eqb_tells k n) [
      | inl same ↦ subst (λ (m : ℕ). p m ≡ true) (sym same.1) both.0
      | inr other ↦ let below : k < n = omega (arith, other.1) in passes_at p n k both.1 below
    ]

-- ---- one digit

abbrev glyph_is_lower : ℕ → Bool
glyph_is_lower k = is_lower_hex (slice_index lower_digits k)

pub glyph_lower : (k : ℕ) → k < 16 → is_lower_hex (slice_index lower_digits k) ≡ true
glyph_lower k lt = passes_at glyph_is_lower 16 k refl lt

-- a lower case digit's value has that digit
abbrev tells_glyph : ℕ → Option ℕ → Bool
tells_glyph c (Some v) = nat_eq (slice_index lower_digits v) c
tells_glyph c None = true

abbrev glyph_again : ℕ → Bool
glyph_again c = not (is_lower_hex c) || tells_glyph c (hex_digit_value c)

lower-small : (c : ℕ) → is_lower_hex c ≡ true → c < 103
lower-small c e = grind (arith, nat_tests, e)

or_right : (a b : Bool) → a ≡ true → (not a || b) ≡ true → b ≡ true
or_right true b e h = h
or_right false b e h = absurd cc

eq_of : (a b : ℕ) → nat_eq a b ≡ true → a ≡ b
eq_of a b e = grind (arith, nat_tests)

pub digit_glyph-again : (c v : ℕ) → is_lower_hex c ≡ true → hex_digit_value c ≡ Some v → slice_index lower_digits v ≡ c
digit_glyph-again c v e is =
    let all = passes_at glyph_again 103 c refl (lower-small c e) in
    let told = or_right (is_lower_hex c) (tells_glyph c (hex_digit_value c)) e all in
    eq_of _ _ (rw is at told)

digit_small : (c v : ℕ) → hex_digit_value c ≡ Some v → v < 16
digit_small c v h = grind (arith)

-- ---- pairs

bind_ok : {A B : Type 0} (r : Result A FromHexError) (f : A → Result B FromHexError) (y : B) → (r >>= f) ≡ Ok y → (x : A) × (r ≡ Ok x) × (f x ≡ Ok y)
bind_ok (Ok x) f y h = (x, refl, h)
bind_ok (Err e) f y h = absurd cc

ok_same : {A : Type 0} (x y : A) → ◌≡◌ {A = Result A FromHexError} (Ok x) (Ok y) → x ≡ y
ok_same x y e = cc

value_of : (c i v : ℕ) → value_at c i ≡ Ok v → hex_digit_value c ≡ Some v
value_of c i v e = chosen (hex_digit_value c) refl where
  chosen : (o : Option ℕ) → hex_digit_value c ≡ o → hex_digit_value c ≡ Some v
  chosen None is = absurd (let f = rw is at e in cc)
  chosen (Some w) is = let f : w ≡ v = ok_same _ _ (rw is at e) in is ∙ ap Some f

pub decode_pairs-lower : (i : ℕ) (digits bytes : List ℕ) → list_all is_lower_hex digits ≡ true → decode_pairs i digits ≡ Ok bytes → digits ≡ encode_lower bytes
unfolding decode_pairs encode_with
decode_pairs-lower i [] bytes all e = let same : [] ≡ bytes = ok_same _ _ e in rw (← same) refl
decode_pairs-lower i (a ∷ []) bytes all e = absurd cc
decode_pairs-lower i (a ∷ b ∷ rest) bytes all e =
    let outer = bind_ok (pair_value a b i) _ bytes e in
    let high = bind_ok (value_at a i) _ outer.0 outer.1 in
    let low = bind_ok (value_at b (i + 1)) _ outer.0 high.2 in
    let others = bind_ok (decode_pairs (i + 2) rest) _ bytes outer.2 in
    let byte : high.0 * 16 + low.0 ≡ outer.0 = ok_same _ _ low.2 in
    let whole : outer.0 ∷ others.0 ≡ bytes = ok_same _ _ others.2 in
    let first = and_parts (is_lower_hex a) (is_lower_hex b && list_all is_lower_hex rest) all in
    let second = and_parts (is_lower_hex b) (list_all is_lower_hex rest) first.1 in
    let tail = decode_pairs-lower (i + 2) rest others.0 second.1 others.1 in
    let h = value_of a i high.0 high.1 in
    let l = value_of b (i + 1) low.0 low.1 in
    let below : low.0 < 16 = digit_small b low.0 l in
    let quotient : outer.0 / 16 ≡ high.0 = omega arith in
    let remainder : outer.0 % 16 ≡ low.0 = omega arith in
    rw (← whole, quotient, remainder, digit_glyph-again a high.0 first.0 h, digit_glyph-again b low.0 second.0 l, ← tail) refl

pub encode_lower-lower : (bytes : List ℕ) → All (λ b. b < 256) bytes → list_all is_lower_hex (encode_lower bytes) ≡ true
unfolding encode_with
encode_lower-lower [] h = refl
encode_lower-lower (b ∷ bytes) h =
    let small : b < 256 = All-head (λ (k : ℕ). k < 256) b bytes h in
    rw (glyph_lower (b / 16) (omega arith), glyph_lower (b % 16) (omega arith)) (encode_lower-lower bytes (All-tail (λ (k : ℕ). k < 256) b bytes h))

-- what the digits spell, and the bytes that are below 256
pub record IsHex (digits bytes : List ℕ) : Type 0 where
  pub text : digits ≡ encode_lower bytes
  pub small : All (λ b. b < 256) bytes

pub hex_of-takes : (digits bytes : List ℕ) → hex_of digits ≡ Some bytes → IsHex digits bytes
unfolding hex_of
hex_of-takes digits bytes e = chosen (list_all is_lower_hex digits) refl (decode_of digits) refl where
  chosen : (b : Bool) → list_all is_lower_hex digits ≡ b → (r : Result (List ℕ) FromHexError) → decode_of digits ≡ r → IsHex digits bytes
  chosen false is r was = absurd (none-some _ (let f = rw is at e in f))
  chosen true is (Err x) was = absurd (none-some _ (let f = rw (is, was) at e in f))
  chosen true is (Ok found) was =
      let same : found ≡ bytes = same_Some _ _ (rw (is, was) at e) in
      let ok = decode_of-ok digits found was in
      let pairs : decode_pairs 0 digits ≡ Ok found = sym (decode_of-even digits ok.0) ∙ was in
      let text = decode_pairs-lower 0 digits found is pairs in
      subst (λ (bs : List ℕ). IsHex digits bs) same (record { text = text; small = All-from_get_or (λ (b : ℕ). b < 256) found 0 (λ i lt. ok.3 i) })

IsBytes-of : (bytes : List ℕ) → All (λ b. b < 256) bytes → IsBytes bytes
IsBytes-of [] h = λ i. omega arith
IsBytes-of (b ∷ bytes) h = at (IsBytes-of bytes (All-tail (λ (k : ℕ). k < 256) b bytes h)) where
  at : IsBytes bytes → (i : ℕ) → slice_index (b ∷ bytes) i < 256
  at rest zero = All-head (λ (k : ℕ). k < 256) b bytes h
  at rest (suc i) = rest i

pub hex_of-again : (bytes : List ℕ) → All (λ b. b < 256) bytes → hex_of (encode_lower bytes) ≡ Some bytes
unfolding hex_of
hex_of-again bytes h = rw (encode_lower-lower bytes h, decode_of-encode_lower bytes (IsBytes-of bytes h)) refl
