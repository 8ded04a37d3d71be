-- What a word spells is read from it, and nothing else is: numbers and the bytes of transfers.
use Rattle.std.proofs.Common.{◌≡◌, ℕ, ◌+◌, ◌*◌, ◌-◌, ◌<◌, ◌≤◌, ◌^◌, Bool, true, false, ◌&&◌, ◌||◌, List, [], ◌∷◌, ◌++◌, length, take, drop, get_or, Option, Some, None, arith, refl, rules, sym, subst, ap, ◌∙◌, leb, inl, inr}
use Rattle.std.specs.Prelude.{codes, All, IfSome, IfNone, nat_le, nat_lt, ◌==◌, not}
use Rattle.std.specs.Bool.{Decides}
use Rattle.std.specs.List.{list_all}
use Rattle.std.specs.Char.{is_ascii_digit}
use Rattle.std.specs.Fmt.{decimal}
use Rattle.std.specs.Str.Parse.{digits_value}
use Rattle.std.proofs.lemmas.Bool.Decides.{nat_tests, eqb_tells, leb_tells, Decides-by_and}
use Rattle.std.proofs.lemmas.Fmt.{decimal-digits_value, digits_value-decimal, digits_decimal, decimal_nonempty, first_decimal, decimal_digit}
use Rattle.std.proofs.lemmas.Int.Digits.{digits_value_more}
use Rattle.std.proofs.lemmas.Option.{cond_some}
use Rattle.std.proofs.lemmas.Slice.Eq.{bytes_eq-Decides}
use Rattle.std.proofs.lemmas.List.{take-append-drop}
use Rattle.std.specs.Str.{bytes_eq}
use Rattle.std.proofs.lemmas.Str.{digit_value_digit}
use Rattle.std.proofs.lemmas.Str.Parse.{IsNumeralModel, numerals_by_value, digit_at}
use Rattle.cfs_words.specs.Values.{largest_number}
use Rattle.cfs_words.specs.Reading.{is_canonical, number_of}

own : IsNumeralModel (λ ds. list_all is_ascii_digit ds ≡ true) (digits_value 10)
own = numerals_by_value _ (search rules)

-- one digit more
pub digits_value-next : (xs : List ℕ) (i : ℕ) → list_all is_ascii_digit xs ≡ true → i < length xs →
    digits_value 10 (take (i + 1) xs) ≡ digits_value 10 (take i xs) * 10 + (get_or xs i 0 - 48)
digits_value-next xs i digits lt =
    let value = digit_value_digit (get_or xs i 0) (digit_at xs i (own.to xs digits) lt) in
    omega (arith, digits_value_more 10 xs i lt)

pub and_parts : (a b : Bool) → (a && b) ≡ true → (a ≡ true) × (b ≡ true)
and_parts true b e = (refl, e)
and_parts false b e = absurd cc

pub and_both : (a b : Bool) → a ≡ true → b ≡ true → (a && b) ≡ true
and_both a b e f = rw (e, f) refl

pub leb-true : (a b : ℕ) → leb a b ≡ true → a ≤ b
leb-true a b e = grind (arith, nat_tests)

pub le-leb : (a b : ℕ) → a ≤ b → leb a b ≡ true
le-leb a b h = grind (arith, nat_tests)

pub record IsCanonical (word : List ℕ) : Type 0 where
  pub digits : list_all is_ascii_digit word ≡ true
  pub some : 0 < length word
  pub zero : get_or word 0 0 ≡ 48 → length word ≡ 1

canonical-says : (word : List ℕ) → is_canonical word ≡ true → IsCanonical word
canonical-says [] e = absurd cc
canonical-says (first ∷ rest) e =
    let both = and_parts (list_all is_ascii_digit (first ∷ rest)) (not (first == 48) || (length rest == 0)) e in
    record { digits = both.0; some = omega arith; zero = λ is. grind (arith, nat_tests, both.1) }

canonical-said : (word : List ℕ) → IsCanonical word → is_canonical word ≡ true
canonical-said [] h = absurd (let none : 0 < 0 = h.some in omega arith)
canonical-said (first ∷ rest) h =
    and_both (list_all is_ascii_digit (first ∷ rest)) (not (first == 48) || (length rest == 0)) h.digits
    (elim (eqb_tells first 48) [
      | inl same ↦ rw same.0 (let alone : length rest + 1 ≡ 1 = omega (arith, h.zero same.1) in grind (arith, nat_tests))
      | inr other ↦ rw other.0 refl
    ])

-- the word is the number's decimal, and the number is within the bounds
pub record IsDecimal (least most n : ℕ) (word : List ℕ) : Type 0 where
  pub text : word ≡ decimal n
  pub low : least ≤ n
  pub high : n ≤ most
  pub small : n ≤ largest_number

pub number_of-takes : (least most : ℕ) (word : List ℕ) (n : ℕ) → number_of least most word ≡ Some n → IsDecimal least most n word
unfolding number_of
number_of-takes least most word n e =
    let value = digits_value 10 word in
    let found = cond_some (is_canonical word && (nat_le value largest_number && (nat_le least value && nat_le value most))) value n e in
    let first = and_parts (is_canonical word) (nat_le value largest_number && (nat_le least value && nat_le value most)) found.0 in
    let second = and_parts (nat_le value largest_number) (nat_le least value && nat_le value most) first.1 in
    let third = and_parts (nat_le least value) (nat_le value most) second.1 in
    let canonical = canonical-says word first.0 in
    let small : value ≤ largest_number = leb-true _ _ second.0 in
    let low : least ≤ value = leb-true _ _ third.0 in
    let high : value ≤ most = leb-true _ _ third.1 in
    let spelled : decimal value ≡ word = decimal-digits_value own word canonical.digits canonical.some canonical.zero (omega arith) in
    subst (λ (m : ℕ). IsDecimal least most m word) found.1 (record { text = sym spelled; low = low; high = high; small = small })

decimal-canonical : (n : ℕ) → n < 2 ^ 64 → IsCanonical (decimal n)
decimal-canonical n small = record {
  digits = digits_decimal own n small;
  some = decimal_nonempty n small;
  zero = λ first. elim (leb_tells n 0) [
    | inl none ↦ let is : n ≡ 0 = omega arith in rw (is, decimal_digit 0 (omega arith)) refl
    | inr some ↦ let above = first_decimal n some.1 small in absurd (omega arith)
  ];
}

pub number_of-again : (least most : ℕ) (word : List ℕ) (n : ℕ) → IsDecimal least most n word → number_of least most word ≡ Some n
unfolding number_of
number_of-again least most word n h =
    let small : n ≤ largest_number = h.small in
    let fits : n < 2 ^ 64 = omega arith in
    let canonical : is_canonical (decimal n) ≡ true = canonical-said (decimal n) (decimal-canonical n fits) in
    let value : digits_value 10 (decimal n) ≡ n = digits_value-decimal own n fits in
    let below : leb n largest_number ≡ true = le-leb _ _ small in
    let low : leb least n ≡ true = le-leb _ _ h.low in
    let high : leb n most ≡ true = le-leb _ _ h.high in
    rw (h.text, canonical, value, below, low, high) refl

-- what is read is what the word spells
pub number_of-found : (least most : ℕ) (word : List ℕ) (o : Option ℕ) → o ≡ number_of least most word →
    IfSome o (λ n. (word ≡ decimal n) × (least ≤ n) × (n ≤ most))
number_of-found least most word None e = tt
number_of-found least most word (Some n) e =
    let h = number_of-takes least most word n (sym e) in
    (h.text, h.low, h.high)

-- and where nothing is read, the word spells no such number
pub number_of-none : (least most : ℕ) (word : List ℕ) (o : Option ℕ) → o ≡ number_of least most word →
    IfNone o ((n : ℕ) → word ≡ decimal n → least ≤ n → n ≤ most → n ≤ largest_number → ⊥)
number_of-none least most word None e =
    λ n is low high small. let again = number_of-again least most word n (record { text = is; low = low; high = high; small = small }) in none_some n (e ∙ again)
  where
    none_some : (n : ℕ) → None ≡ Some n → ⊥
    none_some n same = cc
number_of-none least most word (Some n) e = tt

pub digits_of_decimal : (n : ℕ) → n < 2 ^ 64 → list_all is_ascii_digit (decimal n) ≡ true
digits_of_decimal n small = digits_decimal own n small
