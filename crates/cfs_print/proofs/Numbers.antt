-- The number at the front of a text is read from it.
use Rattle.std.proofs.Common.{◌≡◌, ℕ, ◌+◌, ◌<◌, ◌^◌, Bool, true, false, ◌&&◌, List, [], ◌∷◌, ◌++◌, length, take, drop, arith, refl, rules, sym, ap, ◌∙◌}
use Rattle.std.specs.List.{list_all, prefix_len}
use Rattle.std.specs.Char.{is_ascii_digit}
use Rattle.std.specs.Fmt.{decimal}
use Rattle.std.specs.Str.Parse.{digits_value}
use Rattle.std.proofs.lemmas.Fmt.{digits_value-decimal, digits_decimal, decimal_nonempty}
use Rattle.std.proofs.lemmas.Str.Parse.{IsNumeralModel, numerals_by_value}
use Rattle.std.proofs.Math.Seq.{take-append_seam, drop-append_seam}

own : IsNumeralModel (λ ds. list_all is_ascii_digit ds ≡ true) (digits_value 10)
own = numerals_by_value _ (search rules)

-- a text that no digit begins
abbrev pub Stops : List ℕ → Type 0
Stops text = prefix_len is_ascii_digit text ≡ 0

and_parts : (a b : Bool) → (a && b) ≡ true → (a ≡ true) × (b ≡ true)
and_parts true b e = (refl, e)
and_parts false b e = absurd cc

prefix-digits : (digits text : List ℕ) → list_all is_ascii_digit digits ≡ true → Stops text → prefix_len is_ascii_digit (digits ++ text) ≡ length digits
prefix-digits [] text all stop = stop
prefix-digits (d ∷ digits) text all stop =
    let both = and_parts (is_ascii_digit d) (list_all is_ascii_digit digits) all in
    let rest = prefix-digits digits text both.1 stop in
    rw both.0 (omega (arith, rest))

prefix-decimal : (n : ℕ) (text : List ℕ) → n < 2 ^ 64 → Stops text → prefix_len is_ascii_digit (decimal n ++ text) ≡ length (decimal n)
prefix-decimal n text small stop = prefix-digits (decimal n) text (digits_decimal own n small) stop

-- the number, and the text behind it
pub number_at : List ℕ → ℕ × List ℕ
number_at text = let k = prefix_len is_ascii_digit text in (digits_value 10 (take k text), drop k text)

pub number_at-decimal : (n : ℕ) (text : List ℕ) → n < 2 ^ 64 → Stops text → number_at (decimal n ++ text) ≡ (n, text)
unfolding number_at
number_at-decimal n text small stop =
    rw (prefix-decimal n text small stop, take-append_seam (decimal n) text, drop-append_seam (decimal n) text, digits_value-decimal own n small) refl

-- two texts that begin with numbers
pub numbers_same : (m n : ℕ) (xs ys : List ℕ) → m < 2 ^ 64 → n < 2 ^ 64 → Stops xs → Stops ys → decimal m ++ xs ≡ decimal n ++ ys → (m ≡ n) × (xs ≡ ys)
numbers_same m n xs ys small_m small_n stop_x stop_y e =
    let same : (m, xs) ≡ (n, ys) = sym (number_at-decimal m xs small_m stop_x) ∙ ap number_at e ∙ number_at-decimal n ys small_n stop_y in
    (ap (λ (p : ℕ × List ℕ). p.0) same, ap (λ (p : ℕ × List ℕ). p.1) same)

-- a number begins with a digit
pub decimal_begins : (n : ℕ) (xs ys : List ℕ) → n < 2 ^ 64 → Stops xs → Stops ys → ys ≡ decimal n ++ xs → ⊥
decimal_begins n xs ys small stop_x stop_y e =
    let some = decimal_nonempty n small in
    let whole = prefix-decimal n xs small stop_x in
    let none : prefix_len is_ascii_digit (decimal n ++ xs) ≡ 0 = sym (ap (λ (t : List ℕ). prefix_len is_ascii_digit t) e) ∙ stop_y in
    omega (arith, some, whole, none)
