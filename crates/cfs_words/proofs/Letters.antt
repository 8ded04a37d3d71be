-- Flags, modes and seeks are read from their spellings, and from no other word.
use Rattle.std.proofs.Common.{◌≡◌, ℕ, ◌+◌, ◌*◌, ◌-◌, ◌/◌, ◌%◌, ◌<◌, ◌≤◌, ◌^◌, ◌⊎◌, inl, inr, Bool, true, false, cond, ◌&&◌, List, [], ◌∷◌, ◌++◌, length, Option, Some, None, arith, refl, sym, subst, ap, ◌∙◌}
use Rattle.std.specs.Prelude.{◌==◌, ◌||◌, IsTrue, codes, nat_le}
use Rattle.std.specs.Fmt.{decimal}
use Rattle.std.specs.List.{list_all}
use Rattle.std.specs.Char.{is_ascii_digit}
use Rattle.std.proofs.lemmas.Bool.Decides.{nat_tests, eqb_tells}
use Rattle.std.proofs.lemmas.List.{append-nil}
use Rattle.std.proofs.lemmas.Fmt.{decimal_digit}
use Rattle.std.proofs.lemmas.Option.{cond_some, none-some, same_Some}
use Rattle.cfs_words.specs.declared.flags.Flags.{Flags}
use Rattle.cfs_words.specs.declared.seek.Seek.{Seek}
use Rattle.cfs_words.specs.declared.seek.Seek.TheVariants.{To, On, Back}
use Rattle.cfs_words.specs.Values.{largest_number, letter_if, flags_text, mode_text, IsOpening, seek_words}
use Rattle.cfs_words.specs.Spelling.{Whence, Spells, IsOther}
use Rattle.cfs_words.specs.Reading.{number_of, letter_at, flags_of, is_octal, octal_value, octal_of, mode_of, back_by, signed_of, offset_of}
use Rattle.cfs_words.proofs.Numbers.{IsDecimal, number_of-takes, number_of-again, and_parts, and_both, leb-true, le-leb, digits_of_decimal}
use Rattle.cfs_words.proofs.Payloads.{bind_some}

-- ---- flags

pub letter_at-parts : (letter : ℕ) (bytes : List ℕ) → bytes ≡ letter_if (letter_at letter bytes).0 letter ++ (letter_at letter bytes).1
letter_at-parts letter [] = refl
letter_at-parts letter (b ∷ bytes) = chosen (eqb_tells b letter) where
  chosen : (((b == letter) ≡ true) × (b ≡ letter)) ⊎ (((b == letter) ≡ false) × (b ≡ letter → ⊥)) →
      b ∷ bytes ≡ letter_if (letter_at letter (b ∷ bytes)).0 letter ++ (letter_at letter (b ∷ bytes)).1
  chosen (inl same) = rw same.0 (ap (λ (k : ℕ). k ∷ bytes) same.1)
  chosen (inr other) = rw other.0 refl

empty_of : (bytes : List ℕ) → (length bytes == 0) ≡ true → bytes ≡ []
empty_of [] e = refl
empty_of (b ∷ bytes) e = absurd (let none : length bytes + 1 ≡ 0 = grind (arith, nat_tests, e) in omega arith)

-- the flags are spelled, and ask for an access
pub record IsFlags (flags : Flags) (word : List ℕ) : Type 0 where
  pub text : word ≡ flags_text flags
  pub access : IsTrue (flags.read || flags.write)

pub flags_of-takes : (word : List ℕ) (flags : Flags) → flags_of word ≡ Some flags → IsFlags flags word
unfolding flags_of
flags_of-takes word flags e =
    let r = letter_at 114 word in
    let w = letter_at 119 r.1 in
    let c = letter_at 99 w.1 in
    let x = letter_at 120 c.1 in
    let a = letter_at 97 x.1 in
    let made : Flags = record { read = r.0; write = w.0; create = c.0; exclusive = x.0; append = a.0 } in
    let found = cond_some ((r.0 || w.0) && (length a.1 == 0)) made flags e in
    let both = and_parts (r.0 || w.0) (length a.1 == 0) found.0 in
    let text : word ≡ flags_text made =
    letter_at-parts 114 word
    ∙ ap (λ (rest : List ℕ). letter_if r.0 114 ++ rest) (letter_at-parts 119 r.1
    ∙ ap (λ (rest : List ℕ). letter_if w.0 119 ++ rest) (letter_at-parts 99 w.1
    ∙ ap (λ (rest : List ℕ). letter_if c.0 99 ++ rest) (letter_at-parts 120 c.1
    ∙ ap (λ (rest : List ℕ). letter_if x.0 120 ++ rest) (letter_at-parts 97 x.1
    ∙ ap (λ (rest : List ℕ). letter_if a.0 97 ++ rest) (empty_of a.1 both.1) ∙ append-nil (letter_if a.0 97))))) in
    subst (λ (f : Flags). IsFlags f word) found.1 (record { text = text; access = both.0 })

abbrev five : Bool → Bool → Bool → Bool → Bool → Flags
five r w c x a = record { read = r; write = w; create = c; exclusive = x; append = a }

-- for each set of flags
abbrev again_at : Bool → Bool → Bool → Bool → Bool → Type 0
again_at r w c x a = IsTrue (r || w) → flags_of (flags_text (five r w c x a)) ≡ Some (five r w c x a)

five_again : (r w c x a : Bool) → again_at r w c x a
unfolding flags_of
five_again false false c x a h = absurd cc
five_again false true false false false h = refl
five_again false true false false true h = refl
five_again false true false true false h = refl
five_again false true false true true h = refl
five_again false true true false false h = refl
five_again false true true false true h = refl
five_again false true true true false h = refl
five_again false true true true true h = refl
five_again true false false false false h = refl
five_again true false false false true h = refl
five_again true false false true false h = refl
five_again true false false true true h = refl
five_again true false true false false h = refl
five_again true false true false true h = refl
five_again true false true true false h = refl
five_again true false true true true h = refl
five_again true true false false false h = refl
five_again true true false false true h = refl
five_again true true false true false h = refl
five_again true true false true true h = refl
five_again true true true false false h = refl
five_again true true true false true h = refl
five_again true true true true false h = refl
five_again true true true true true h = refl

pub flags_of-again : (flags : Flags) → IsTrue (flags.read || flags.write) → flags_of (flags_text flags) ≡ Some flags
flags_of-again flags h = five_again flags.read flags.write flags.create flags.exclusive flags.append h

-- ---- modes

octal_says : (b : ℕ) → is_octal b ≡ true → (48 ≤ b) × (b ≤ 55)
octal_says b e = let both = and_parts (nat_le 48 b) (nat_le b 55) e in (leb-true _ _ both.0, leb-true _ _ both.1)

-- the mode is spelled, and has nine bits
pub record IsMode (mode : ℕ) (word : List ℕ) : Type 0 where
  pub text : word ≡ mode_text mode
  pub bits : mode ≤ 511

four : (z a b c y d e f : ℕ) → z ≡ y → a ≡ d → b ≡ e → c ≡ f → ◌≡◌ {A = List ℕ} (z ∷ a ∷ b ∷ c ∷ []) (y ∷ d ∷ e ∷ f ∷ [])
four z a b c y d e f p q r s = cc

octal_of-takes : (word : List ℕ) (mode : ℕ) → octal_of word ≡ Some mode → IsMode mode word
octal_of-takes (z ∷ a ∷ b ∷ c ∷ []) mode e =
    let found = cond_some ((z == 48) && (is_octal a && (is_octal b && is_octal c))) (octal_value a b c) mode e in
    let p = and_parts (z == 48) (is_octal a && (is_octal b && is_octal c)) found.0 in
    let q = and_parts (is_octal a) (is_octal b && is_octal c) p.1 in
    let r = and_parts (is_octal b) (is_octal c) q.1 in
    let zero_is : z ≡ 48 = grind (arith, nat_tests, p.0) in
    let first = octal_says a q.0 in
    let second = octal_says b r.0 in
    let third = octal_says c r.1 in
    subst (λ (m : ℕ). IsMode m (z ∷ a ∷ b ∷ c ∷ [])) found.1
    (record {
      text = four z a b c _ _ _ _ zero_is (omega (arith, first.0, first.1, second.0, second.1, third.0, third.1))
          (omega (arith, first.0, first.1, second.0, second.1, third.0, third.1)) (omega (arith, first.0, first.1, second.0, second.1, third.0, third.1));
      bits = omega (arith, first.0, first.1, second.0, second.1, third.0, third.1);
    })
octal_of-takes word mode e = absurd (none-some _ e)

pub mode_of-takes : (word : List ℕ) (mode : ℕ) → mode_of word ≡ Some mode → IsMode mode word
unfolding mode_of
mode_of-takes word mode e = octal_of-takes word mode e

is_octal-digit : (d : ℕ) → d < 8 → is_octal (48 + d) ≡ true
is_octal-digit d lt = and_both (nat_le 48 (48 + d)) (nat_le (48 + d) 55) (le-leb _ _ (omega arith)) (le-leb _ _ (omega arith))

pub mode_of-again : (mode : ℕ) → mode ≤ 511 → mode_of (mode_text mode) ≡ Some mode
unfolding mode_of
mode_of-again mode h =
    let first = is_octal-digit (mode / 64) (omega arith) in
    let second = is_octal-digit (mode / 8 % 8) (omega arith) in
    let third = is_octal-digit (mode % 8) (omega arith) in
    let value : octal_value (48 + mode / 64) (48 + mode / 8 % 8) (48 + mode % 8) ≡ mode = omega arith in
    rw (first, second, third, value) refl

-- ---- seeks from the position

seek_number : (word : List ℕ) (n : ℕ) → IsDecimal 0 largest_number n word → Spells Whence (On n) (codes "cur" ∷ word ∷ [])
seek_number word n h = record { is_value = h.high; are_words = inl (ap (λ (w : List ℕ). codes "cur" ∷ w ∷ []) h.text) }

seek_back : (word digits : List ℕ) (n : ℕ) → word ≡ codes "-" ++ digits → IsDecimal 0 largest_number n digits → Spells Whence (back_by n) (codes "cur" ∷ word ∷ [])
seek_back word digits n is h = chosen (eqb_tells n 0) where
  whole : word ≡ codes "-" ++ decimal n
  whole = is ∙ ap (λ (d : List ℕ). codes "-" ++ d) h.text

  chosen : (((n == 0) ≡ true) × (n ≡ 0)) ⊎ (((n == 0) ≡ false) × (n ≡ 0 → ⊥)) → Spells Whence (back_by n) (codes "cur" ∷ word ∷ [])
  chosen (inl none) =
      let zero_is : word ≡ codes "-0" = whole ∙ ap (λ (k : ℕ). codes "-" ++ decimal k) none.1 ∙ ap (λ (d : List ℕ). codes "-" ++ d) (decimal_digit 0 (omega arith)) in
      subst (λ (b : Bool). Spells Whence (cond b (On 0) (Back n)) (codes "cur" ∷ word ∷ [])) (sym none.0)
      (record { is_value = omega arith; are_words = inr (refl, ap (λ (w : List ℕ). codes "cur" ∷ w ∷ []) zero_is) })
  chosen (inr some) =
      subst (λ (b : Bool). Spells Whence (cond b (On 0) (Back n)) (codes "cur" ∷ word ∷ [])) (sym some.0)
      (record { is_value = (omega (arith, some.1), h.high); are_words = inl (ap (λ (w : List ℕ). codes "cur" ∷ w ∷ []) whole) })

signed_of-takes : (word : List ℕ) (parts : Bool × List ℕ) (seek : Seek) → word ≡ letter_if parts.0 45 ++ parts.1 → signed_of parts ≡ Some seek → Spells Whence seek (codes "cur" ∷ word ∷ [])
signed_of-takes word (true, digits) seek is e =
    let found = bind_some (number_of 0 largest_number digits) (λ n. Some (back_by n)) seek e in
    subst (λ (s : Seek). Spells Whence s (codes "cur" ∷ word ∷ [])) (same_Some _ _ found.2)
    (seek_back word digits found.0 is (number_of-takes 0 largest_number digits found.0 found.1))
signed_of-takes word (false, digits) seek is e =
    let found = bind_some (number_of 0 largest_number digits) (λ n. Some (On n)) seek e in
    let spelled = number_of-takes 0 largest_number digits found.0 found.1 in
    subst (λ (s : Seek). Spells Whence s (codes "cur" ∷ word ∷ [])) (same_Some _ _ found.2)
    (subst (λ (w : List ℕ). Spells Whence (On found.0) (codes "cur" ∷ w ∷ [])) (sym is) (seek_number digits found.0 spelled))

pub offset_of-takes : (word : List ℕ) (seek : Seek) → offset_of word ≡ Some seek → Spells Whence seek (codes "cur" ∷ word ∷ [])
unfolding offset_of
offset_of-takes word seek e = signed_of-takes word (letter_at 45 word) seek (letter_at-parts 45 word) e

digits_unsigned : (digits : List ℕ) → list_all is_ascii_digit digits ≡ true → letter_at 45 digits ≡ (false, digits)
digits_unsigned [] e = refl
digits_unsigned (b ∷ digits) e =
    let both = and_parts (is_ascii_digit b) (list_all is_ascii_digit digits) e in
    let other : (b == 45) ≡ false = grind (arith, nat_tests, both.0) in
    rw other refl

number_again : (n : ℕ) → n ≤ largest_number → number_of 0 largest_number (decimal n) ≡ Some n
number_again n h = number_of-again 0 largest_number (decimal n) n (record { text = refl; low = omega arith; high = h; small = h })

pub offset_of-on : (n : ℕ) → n ≤ largest_number → offset_of (decimal n) ≡ Some (On n)
unfolding offset_of
offset_of-on n h = rw (digits_unsigned (decimal n) (digits_of_decimal n (omega arith)), number_again n h) refl

pub offset_of-back : (n : ℕ) → 1 ≤ n → n ≤ largest_number → offset_of (codes "-" ++ decimal n) ≡ Some (Back n)
unfolding offset_of
offset_of-back n some h = let other : (n == 0) ≡ false = grind (arith, nat_tests, some) in rw (number_again n h, other) refl

pub offset_of-none : offset_of (codes "-0") ≡ Some (On 0)
unfolding offset_of number_of
offset_of-none = refl
