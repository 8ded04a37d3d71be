-- The canonical words have printed bytes alone, and no space; so a line of them is cut into the same words.
use Rattle.std.proofs.Common.{◌≡◌, ℕ, ◌+◌, ◌/◌, ◌%◌, ◌<◌, ◌≤◌, ◌^◌, inl, Bool, true, false, ◌&&◌, List, [], ◌∷◌, ◌++◌, length, arith, refl, sym, subst, ap, ◌∙◌}
use Rattle.std.specs.Prelude.{◌==◌, All, codes, nat_le}
use Rattle.std.specs.Char.{is_ascii_digit}
use Rattle.std.specs.Fmt.{decimal}
use Rattle.std.specs.List.{list_all}
use Rattle.std.proofs.lemmas.Bool.Decides.{nat_tests}
use Rattle.std.proofs.lemmas.List.Elements.{All-head, All-tail}
use Rattle.std.proofs.lemmas.List.Folds.{list_all-append}
use Rattle.std.proofs.lemmas.List.Sums.{AllPass-from_list_all}
use Rattle.hex.specs.Hex.{encode_lower}
use Rattle.cfs_dir.specs.Name.{is_name_byte}
use Rattle.cfs_dir.specs.Path.{IsPathName, behind_slashes}
use Rattle.cfs_words.specs.declared.seek.Seek.{Seek}
use Rattle.cfs_words.specs.declared.seek.Seek.TheVariants.{To, On, Back}
use Rattle.cfs_words.specs.declared.device.Device.{Device}
use Rattle.cfs_words.specs.declared.device.Device.TheVariants as devices
use Rattle.cfs_words.specs.Parts.{words_of, behind, joined}
use Rattle.cfs_words.specs.Values.{largest_number, letter_if, mode_text, mode_words, seek_words, IsSeek, device_words, IsDevice}
use Rattle.cfs_words.specs.Spelling.{Kind, Key, Number, Path, Opening, Mode, Payload, Whence, Target, Value, IsValue, words_for, Values, AreValues, all_words, SpellAll}
use Rattle.cfs_words.specs.Reading.{is_graphic, is_lower_hex}
use Rattle.cfs_words.proofs.Numbers.{and_parts, and_both, le-leb, digits_of_decimal}
use Rattle.cfs_words.proofs.Hexes.{encode_lower-lower}
use Rattle.cfs_words.proofs.Joins.{IsWithout, AreWithout, IsWithout-of, parts_of-joined}
use Rattle.cfs_words.proofs.Paths.{name_bytes}

abbrev pub AreGraphic : List (List ℕ) → Type 0
AreGraphic [] = Unit {0}
AreGraphic (word ∷ words) = (list_all is_graphic word ≡ true) × AreGraphic words

AreGraphic-append : (xs ys : List (List ℕ)) → AreGraphic xs → AreGraphic ys → AreGraphic (xs ++ ys)
AreGraphic-append [] ys h k = k
AreGraphic-append (x ∷ xs) ys h k = (h.0, AreGraphic-append xs ys h.1 k)

weaker : (p q : ℕ → Bool) → ((b : ℕ) → p b ≡ true → q b ≡ true) → (bytes : List ℕ) → list_all p bytes ≡ true → list_all q bytes ≡ true
weaker p q says [] e = refl
weaker p q says (b ∷ bytes) e =
    let both = and_parts (p b) (list_all p bytes) e in and_both (q b) (list_all q bytes) (says b both.0) (weaker p q says bytes both.1)

pub all_append : (p : ℕ → Bool) (xs ys : List ℕ) → list_all p xs ≡ true → list_all p ys ≡ true → list_all p (xs ++ ys) ≡ true
all_append p xs ys h k = list_all-append p xs ys ∙ and_both (list_all p xs) (list_all p ys) h k

within : (b : ℕ) → 33 ≤ b → b ≤ 126 → is_graphic b ≡ true
within b low high = and_both (nat_le 33 b) (nat_le b 126) (le-leb _ _ low) (le-leb _ _ high)

digit_graphic : (b : ℕ) → is_ascii_digit b ≡ true → is_graphic b ≡ true
digit_graphic b e = grind (arith, nat_tests, e)

name_graphic : (b : ℕ) → is_name_byte b ≡ true → is_graphic b ≡ true
name_graphic b e = grind (arith, nat_tests, e)

hex_graphic : (b : ℕ) → is_lower_hex b ≡ true → is_graphic b ≡ true
hex_graphic b e = grind (arith, nat_tests, e)

pub decimal_graphic : (n : ℕ) → n ≤ largest_number → list_all is_graphic (decimal n) ≡ true
decimal_graphic n h = weaker is_ascii_digit is_graphic digit_graphic (decimal n) (digits_of_decimal n (omega arith))

slashes_graphic : (names : List (List ℕ)) → All IsPathName names → list_all is_graphic (behind_slashes names) ≡ true
slashes_graphic [] h = refl
slashes_graphic (name ∷ names) h =
    all_append is_graphic name (behind_slashes names)
    (weaker is_name_byte is_graphic name_graphic name ((name_bytes name).1 (All-head IsPathName name names h).2))
    (slashes_graphic names (All-tail IsPathName name names h))

path_graphic : (names : List (List ℕ)) → IsValue Path names → AreGraphic (words_for Path names)
path_graphic [] h = (refl, tt)
path_graphic (name ∷ names) h = (slashes_graphic (name ∷ names) h.1, tt)

letter_graphic : (there : Bool) (letter : ℕ) → is_graphic letter ≡ true → list_all is_graphic (letter_if there letter) ≡ true
letter_graphic true letter h = and_both (is_graphic letter) true h refl
letter_graphic false letter h = refl

mode_graphic : (mode : ℕ) → mode ≤ 511 → list_all is_graphic (mode_text mode) ≡ true
mode_graphic mode h =
    let first = within (48 + mode / 64) (omega arith) (omega arith) in
    let second = within (48 + mode / 8 % 8) (omega arith) (omega arith) in
    let third = within (48 + mode % 8) (omega arith) (omega arith) in
    rw (first, second, third) refl

mode_words_graphic : (create : Bool) (mode : ℕ) → mode ≤ 511 → AreGraphic (mode_words create mode)
mode_words_graphic true mode h = (mode_graphic mode h, tt)
mode_words_graphic false mode h = tt

seek_graphic : (seek : Seek) → IsSeek seek → AreGraphic (seek_words seek)
seek_graphic (To n) h = (refl, (decimal_graphic n h, tt))
seek_graphic (On n) h = (refl, (decimal_graphic n h, tt))
seek_graphic (Back n) h = (refl, (decimal_graphic n h.1, tt))

device_graphic : (device : Device) → IsDevice device → AreGraphic (device_words device)
device_graphic devices.Selector h = (refl, tt)
device_graphic (devices.Table copy) h = (refl, (decimal_graphic copy (omega arith), tt))
device_graphic (devices.Journal position) h = (refl, (decimal_graphic position (omega arith), tt))
device_graphic (devices.Size rec) h = (refl, (decimal_graphic rec (omega arith), tt))
device_graphic (devices.Slot queue number) h = (refl, (decimal_graphic queue h.0, (decimal_graphic number h.1, tt)))
device_graphic (devices.Block number) h = (refl, (decimal_graphic number h, tt))

-- a key has printed bytes alone
abbrev pub is_graphic_key : Kind → Bool
is_graphic_key (Key text) = list_all is_graphic text
is_graphic_key _ = true

value_graphic : (kind : Kind) (value : Value kind) → is_graphic_key kind ≡ true → IsValue kind value → AreGraphic (words_for kind value)
value_graphic (Key text) v k h = (k, tt)
value_graphic (Number least most) n k h = (decimal_graphic n h.2, tt)
value_graphic Path names k h = path_graphic names h
value_graphic Opening v k h = (
  all_append is_graphic (letter_if v.0.read 114) _ (letter_graphic v.0.read 114 refl)
      (all_append is_graphic (letter_if v.0.write 119) _ (letter_graphic v.0.write 119 refl)
      (all_append is_graphic (letter_if v.0.create 99) _ (letter_graphic v.0.create 99 refl)
      (all_append is_graphic (letter_if v.0.exclusive 120) _ (letter_graphic v.0.exclusive 120 refl) (letter_graphic v.0.append 97 refl)))),
  mode_words_graphic v.0.create v.1 h.bits,
)
value_graphic Mode mode k h = (mode_graphic mode h, tt)
value_graphic Payload bytes k h = (weaker is_lower_hex is_graphic hex_graphic (encode_lower bytes) (encode_lower-lower bytes h), tt)
value_graphic Whence seek k h = seek_graphic seek h
value_graphic Target device k h = device_graphic device h

abbrev pub are_graphic_keys : List Kind → Bool
are_graphic_keys [] = true
are_graphic_keys (kind ∷ kinds) = is_graphic_key kind && are_graphic_keys kinds

pub all_words_graphic : (kinds : List Kind) (values : Values kinds) → are_graphic_keys kinds ≡ true → AreValues kinds values → AreGraphic (all_words kinds values)
all_words_graphic [] values k h = tt
all_words_graphic (kind ∷ kinds) values k h =
    let both = and_parts (is_graphic_key kind) (are_graphic_keys kinds) k in
    AreGraphic-append (words_for kind values.0) (all_words kinds values.1) (value_graphic kind values.0 both.0 h.0) (all_words_graphic kinds values.1 both.1 h.1)

-- the canonical words spell the values
pub SpellAll-canonical : (kinds : List Kind) (values : Values kinds) → AreValues kinds values → SpellAll kinds values (all_words kinds values)
SpellAll-canonical [] values h = refl
SpellAll-canonical (kind ∷ kinds) values h =
    (words_for kind values.0, (all_words kinds values.1, (refl, record { is_value = h.0; are_words = inl refl }, SpellAll-canonical kinds values.1 h.1)))

-- ---- lines of words

no_space : (b : ℕ) → is_graphic b ≡ true → (b == 32) ≡ false
no_space b e = grind (arith, nat_tests, e)

without : (c : ℕ) → ((b : ℕ) → is_graphic b ≡ true → (b == c) ≡ false) → (word : List ℕ) → list_all is_graphic word ≡ true → IsWithout c word
without c other word e = IsWithout-of c (λ b. is_graphic b ≡ true) other word (AllPass-from_list_all is_graphic word e)

all_without : (words : List (List ℕ)) → AreGraphic words → AreWithout 32 words
all_without [] h = tt
all_without (word ∷ words) h = (without 32 no_space word h.0, all_without words h.1)

pub words_of-joined : (word : List ℕ) (words : List (List ℕ)) → AreGraphic (word ∷ words) → words_of (joined 32 (word ∷ words)) ≡ word ∷ words
words_of-joined word words h = parts_of-joined 32 word words (without 32 no_space word h.0) (all_without words h.1)

abbrev is_in_line : ℕ → Bool
is_in_line b = nat_le 32 b && nat_le b 126

graphic_in_line : (b : ℕ) → is_graphic b ≡ true → is_in_line b ≡ true
graphic_in_line b e = grind (arith, nat_tests, e)

behind_in_line : (words : List (List ℕ)) → AreGraphic words → list_all is_in_line (behind 32 words) ≡ true
behind_in_line [] h = refl
behind_in_line (word ∷ words) h =
    all_append is_in_line word (behind 32 words) (weaker is_graphic is_in_line graphic_in_line word h.0) (behind_in_line words h.1)

in_line_no_end : (b : ℕ) → is_in_line b ≡ true → (b == 10) ≡ false
in_line_no_end b e = grind (arith, nat_tests, e)

-- a line of words does not hold the byte that ends it
pub joined-endless : (word : List ℕ) (words : List (List ℕ)) → AreGraphic (word ∷ words) → IsWithout 10 (joined 32 (word ∷ words))
joined-endless word words h =
    IsWithout-of 10 (λ b. is_in_line b ≡ true) in_line_no_end (joined 32 (word ∷ words))
    (AllPass-from_list_all is_in_line (joined 32 (word ∷ words))
    (all_append is_in_line word (behind 32 words) (weaker is_graphic is_in_line graphic_in_line word h.0) (behind_in_line words h.1)))
