-- The bytes of a write are read from each of their spellings, and from no other word.
use Rattle.std.proofs.Common.{◌≡◌, ℕ, ◌+◌, ◌<◌, ◌≤◌, ◌^◌, ◌⊎◌, inl, inr, Bool, true, false, cond, List, [], ◌∷◌, ◌++◌, length, take, drop, get_or, Option, Some, None, arith, refl, sym, subst, ap, ◌∙◌}
use Rattle.std.specs.Prelude.{◌==◌, All, codes, replicate}
use Rattle.std.specs.Bool.{Decides}
use Rattle.std.specs.Char.{is_ascii_digit}
use Rattle.std.specs.Fmt.{decimal}
use Rattle.std.specs.List.{list_all}
use Rattle.std.specs.Str.{bytes_eq}
use Rattle.std.proofs.lemmas.Bool.Decides.{nat_tests, Decides-by_and}
use Rattle.std.proofs.lemmas.List.{take-append-drop, append-nil}
use Rattle.std.proofs.lemmas.List.Elements.{All-head, All-cons, All-nil, All-replicate}
use Rattle.std.proofs.lemmas.List.Sums.{AllPass-from_list_all}
use Rattle.std.proofs.lemmas.Option.{cond_some, none-some, same_Some}
use Rattle.std.proofs.lemmas.Slice.Eq.{bytes_eq-Decides}
use Rattle.hex.specs.Hex.{encode_lower}
use Rattle.cfs_words.specs.Parts.{parts_of, joined}
use Rattle.cfs_words.specs.Spelling.{Payload, IsGraphic, IsText, IsRepeat, IsOne, Spells}
use Rattle.cfs_words.specs.Reading.{◌>>=◌, is_graphic, is_lower_hex, number_of, text_of_bytes, hex_of, only_byte, byte_of, copies_of, repeat_of, payload_of}
use Rattle.cfs_words.proofs.Cuts.{slice_split-first}
use Rattle.cfs_words.proofs.Hexes.{IsHex, hex_of-takes, hex_of-again, encode_lower-lower}
use Rattle.cfs_words.proofs.Joins.{IsWithout, AreWithout, parts_of-joined, joined-parts_of, IsWithout-of}
use Rattle.cfs_words.proofs.Numbers.{IsDecimal, number_of-takes, number_of-again, digits_of_decimal}

pub bind_some : {A B : Type 0} (o : Option A) (f : A → Option B) (y : B) → (o >>= f) ≡ Some y → (x : A) × (o ≡ Some x) × (f x ≡ Some y)
bind_some None f y e = absurd (none-some _ e)
bind_some (Some x) f y e = (x, refl, e)

copies_of-more : (count digits rest : List ℕ) → copies_of (count ∷ digits ∷ parts_of 58 rest) ≡ None
unfolding copies_of
copies_of-more count digits rest = let first = slice_split-first (λ b. b == 58) rest in rw first.2 refl

pub repeat_of-more : (bytes count rest digits left : List ℕ) → parts_of 58 bytes ≡ count ∷ parts_of 58 rest →
    parts_of 58 rest ≡ digits ∷ parts_of 58 left → repeat_of bytes ≡ None
unfolding repeat_of
repeat_of-more bytes count rest digits left first second = rw (first, second) (copies_of-more count digits left)

-- ---- the bytes themselves

graphic : (b : ℕ) → Decides (is_graphic b) (IsGraphic b)
graphic b = (λ e. grind (arith, nat_tests, e), λ h. grind (arith, nat_tests, h))

all_graphic : (bytes : List ℕ) → Decides (list_all is_graphic bytes) (All IsGraphic bytes)
all_graphic bytes = Decides-by_and is_graphic IsGraphic (list_all is_graphic) graphic refl (λ _ _. refl) bytes

text_of_bytes-takes : (bytes r : List ℕ) → text_of_bytes bytes ≡ Some r → (bytes ≡ r) × All IsGraphic bytes
unfolding text_of_bytes
text_of_bytes-takes bytes r e = let found = cond_some (list_all is_graphic bytes) bytes r e in (found.1, (all_graphic bytes).0 found.0)

text_of_bytes-again : (bytes : List ℕ) → All IsGraphic bytes → text_of_bytes bytes ≡ Some bytes
unfolding text_of_bytes
text_of_bytes-again bytes h = rw ((all_graphic bytes).1 h) refl

-- ---- copies of a byte

only_byte-takes : (bytes : List ℕ) (b : ℕ) → only_byte bytes ≡ Some b → bytes ≡ b ∷ []
only_byte-takes [] b e = absurd (none-some _ e)
only_byte-takes (c ∷ []) b e = ap (λ (k : ℕ). k ∷ []) (same_Some _ _ e)
only_byte-takes (c ∷ d ∷ bytes) b e = absurd (none-some _ e)

byte_of-takes : (digits : List ℕ) (b : ℕ) → byte_of digits ≡ Some b → IsHex digits (b ∷ [])
unfolding byte_of
byte_of-takes digits b e =
    let found = bind_some (hex_of digits) only_byte b e in
    subst (λ (bytes : List ℕ). IsHex digits bytes) (only_byte-takes found.0 b found.2) (hex_of-takes digits found.0 found.1)

one_small : (b : ℕ) → b < 256 → All (λ k. k < 256) (b ∷ [])
one_small b lt = All-cons (λ (k : ℕ). k < 256) b [] lt (All-nil (λ (k : ℕ). k < 256))

byte_of-again : (b : ℕ) → b < 256 → byte_of (encode_lower (b ∷ [])) ≡ Some b
unfolding byte_of
byte_of-again b lt = rw (hex_of-again (b ∷ []) (one_small b lt)) refl

-- the count and the byte, and the bytes that they make
record IsCopies (bytes r : List ℕ) : Type 0 where
  count : ℕ
  byte : ℕ
  few : count ≤ 65536
  small : byte < 256
  text : bytes ≡ decimal count ++ (codes ":" ++ encode_lower (byte ∷ []))
  copies : r ≡ replicate count byte

two_parts : (count digits n b : List ℕ) → count ≡ n → digits ≡ b → count ++ (58 ∷ (digits ++ [])) ≡ n ++ (58 ∷ b)
two_parts count digits n b p q = rw (append-nil digits, p, q) refl

copies_of-takes : (bytes r : List ℕ) (parts : List (List ℕ)) → parts_of 58 bytes ≡ parts → copies_of parts ≡ Some r → IsCopies bytes r
unfolding copies_of
copies_of-takes bytes r [] is e = absurd (none-some _ e)
copies_of-takes bytes r (count ∷ []) is e = absurd (none-some _ e)
copies_of-takes bytes r (count ∷ digits ∷ []) is e =
    let n = bind_some (number_of 0 65536 count) (λ n. byte_of digits >>= (λ byte. Some (replicate n byte))) r e in
    let b = bind_some (byte_of digits) (λ byte. Some (replicate n.0 byte)) r n.2 in
    let decimal_is = number_of-takes 0 65536 count n.0 n.1 in
    let hex = byte_of-takes digits b.0 b.1 in
    let whole : count ++ (58 ∷ (digits ++ [])) ≡ bytes = joined-parts_of 58 bytes count (digits ∷ []) is in
    record {
      count = n.0;
      byte = b.0;
      few = decimal_is.high;
      small = All-head (λ (k : ℕ). k < 256) b.0 [] hex.small;
      text = sym whole ∙ two_parts count digits _ _ decimal_is.text hex.text;
      copies = sym (same_Some _ _ b.2);
    }
copies_of-takes bytes r (count ∷ digits ∷ more ∷ parts) is e = absurd (none-some _ e)

repeat_of-takes : (bytes r : List ℕ) → repeat_of bytes ≡ Some r → IsCopies bytes r
unfolding repeat_of
repeat_of-takes bytes r e = copies_of-takes bytes r (parts_of 58 bytes) refl e

colon_free : (digits : List ℕ) (p : ℕ → Bool) → ((b : ℕ) → p b ≡ true → (b == 58) ≡ false) → list_all p digits ≡ true → IsWithout 58 digits
colon_free digits p other all = IsWithout-of 58 (λ b. p b ≡ true) other digits (AllPass-from_list_all p digits all)

digit_no_colon : (b : ℕ) → is_ascii_digit b ≡ true → (b == 58) ≡ false
digit_no_colon b e = grind (arith, nat_tests, e)

hex_no_colon : (b : ℕ) → is_lower_hex b ≡ true → (b == 58) ≡ false
hex_no_colon b e = grind (arith, nat_tests, e)

repeat_of-again : (count byte : ℕ) → count ≤ 65536 → byte < 256 →
    repeat_of (decimal count ++ (codes ":" ++ encode_lower (byte ∷ []))) ≡ Some (replicate count byte)
unfolding repeat_of copies_of
repeat_of-again count byte few small =
    let digits = encode_lower (byte ∷ []) in
    let left = colon_free (decimal count) is_ascii_digit digit_no_colon (digits_of_decimal count (omega arith)) in
    let right = colon_free digits is_lower_hex hex_no_colon (encode_lower-lower (byte ∷ []) (one_small byte small)) in
    let tail : digits ++ [] ≡ digits = append-nil digits in
    let cut : parts_of 58 (decimal count ++ (58 ∷ digits)) ≡ decimal count ∷ digits ∷ [] =
    subst (λ (d : List ℕ). parts_of 58 (decimal count ++ (58 ∷ d)) ≡ decimal count ∷ digits ∷ []) tail (parts_of-joined 58 (decimal count) (digits ∷ []) left (right, tt)) in
    let number = number_of-again 0 65536 (decimal count) count (record { text = refl; low = omega arith; high = few; small = omega arith }) in
    rw (cut, number, byte_of-again byte small) refl

-- ---- all three

marked : (word mark : List ℕ) → bytes_eq (take 2 word) mark ≡ true → word ≡ mark ++ drop 2 word
marked word mark e = sym (take-append-drop 2 word) ∙ ap (λ (front : List ℕ). front ++ drop 2 word) ((bytes_eq-Decides (take 2 word) mark).0 e)

abbrev by_hex : List ℕ → Bool → Bool → Option (List ℕ)
by_hex word is_hex is_repeat = cond is_hex (hex_of (drop 2 word)) (cond is_repeat (repeat_of (drop 2 word)) None)

repeated : (word bytes : List ℕ) (b : Bool) → bytes_eq (take 2 word) (codes "r:") ≡ b → cond b (repeat_of (drop 2 word)) None ≡ Some bytes → Spells Payload bytes (word ∷ [])
repeated word bytes false is e = absurd (none-some _ e)
repeated word bytes true is e =
    let found = repeat_of-takes (drop 2 word) bytes e in
    record {
      is_value = subst (λ (bs : List ℕ). All (λ b. b < 256) bs) (sym found.copies) (All-replicate (λ (b : ℕ). b < 256) found.count found.byte found.small);
      are_words = inr (inr (
        word,
        refl,
        record {
          count = found.count;
          byte = found.byte;
          few = found.few;
          small = found.small;
          text = marked word (codes "r:") is ∙ ap (λ (rest : List ℕ). codes "r:" ++ rest) found.text;
          bytes_are = found.copies;
        },
      ));
    }

hexed : (word bytes : List ℕ) (b : Bool) → bytes_eq (take 2 word) (codes "h:") ≡ b →
    by_hex word b (bytes_eq (take 2 word) (codes "r:")) ≡ Some bytes → Spells Payload bytes (word ∷ [])
hexed word bytes false is e = repeated word bytes (bytes_eq (take 2 word) (codes "r:")) refl e
hexed word bytes true is e =
    let found = hex_of-takes (drop 2 word) bytes e in
    let whole : word ≡ codes "h:" ++ encode_lower bytes = marked word (codes "h:") is ∙ ap (λ (rest : List ℕ). codes "h:" ++ rest) found.text in
    record { is_value = found.small; are_words = inl (ap (λ (w : List ℕ). w ∷ []) whole) }

texted : (word bytes : List ℕ) (b : Bool) → bytes_eq (take 2 word) (codes "t:") ≡ b →
    cond b (text_of_bytes (drop 2 word)) (by_hex word (bytes_eq (take 2 word) (codes "h:")) (bytes_eq (take 2 word) (codes "r:"))) ≡ Some bytes →
    Spells Payload bytes (word ∷ [])
texted word bytes false is e = hexed word bytes (bytes_eq (take 2 word) (codes "h:")) refl e
texted word bytes true is e =
    let found = text_of_bytes-takes (drop 2 word) bytes e in
    let whole : word ≡ codes "t:" ++ bytes = marked word (codes "t:") is ∙ ap (λ (rest : List ℕ). codes "t:" ++ rest) found.0 in
    let all : All IsGraphic bytes = subst (λ (bs : List ℕ). All IsGraphic bs) found.0 found.1 in
    record {
      is_value = λ k d lt. let small = all k d lt in omega arith;
      are_words = inr (inl (word, refl, record { text = whole; graphic = all }));
    }

pub payload_of-takes : (word bytes : List ℕ) → payload_of word ≡ Some bytes → Spells Payload bytes (word ∷ [])
unfolding payload_of
payload_of-takes word bytes e = texted word bytes (bytes_eq (take 2 word) (codes "t:")) refl e

one_word : (a b : List ℕ) → ◌≡◌ {A = List (List ℕ)} (a ∷ []) (b ∷ []) → a ≡ b
one_word a b e = cc

pub payload_of-again : (bytes word : List ℕ) → Spells Payload bytes (word ∷ []) → payload_of word ≡ Some bytes
unfolding payload_of
payload_of-again bytes word h = again h.are_words where
  again : ((word ∷ [] ≡ (codes "h:" ++ encode_lower bytes) ∷ []) ⊎ (IsOne (word ∷ []) (IsText bytes) ⊎ IsOne (word ∷ []) (IsRepeat bytes))) → payload_of word ≡ Some bytes
  again (inl e) = rw (one_word _ _ e) (hex_of-again bytes h.is_value)
  again (inr (inl one)) = rw (one_word _ _ one.1, one.2.text) (text_of_bytes-again bytes one.2.graphic)
  again (inr (inr one)) = rw (one_word _ _ one.1, one.2.text, one.2.bytes_are) (repeat_of-again one.2.count one.2.byte one.2.few one.2.small)
