-- Words as bytes, and bytes as words.
use Rattle.std.proofs.Common.{All, ◌^◌, ℕ, zero, suc, ◌+◌, ◌*◌, ◌<◌, ◌≤◌, ◌≡◌, ◌∙◌, List, [], ◌∷◌, ◌++◌, length, take, drop, get_or, refl, sym, ap, subst, arith}
use Rattle.std.proofs.lemmas.Nat.{le_bytes_8}
use Rattle.std.proofs.lemmas.List.{drop-drop, get_or_default, get_or-drop, length-append, length-drop, length-take-le, nil_from_length, take-append-drop}
use Rattle.std.specs.Int.{w64, from_le_bytes}
use Rattle.byteorder.specs.Endian.{little_bytes, little_number, IsRead}
use Rattle.byteorder.specs.Numbers.{length-bytes_low_first, little_from-lt, little_from-take}
use Rattle.cfs_image.specs.Image.{IsWord, words_bytes}

small_front : (n : ℕ) (bytes : List ℕ) → ((k : ℕ) → get_or bytes k 0 < 256) → (k : ℕ) → get_or (take n bytes) k 0 < 256
small_front zero bytes small k = omega arith
small_front (suc n) [] small k = small k
small_front (suc n) (b ∷ bytes) small zero = small 0
small_front (suc n) (b ∷ bytes) small (suc k) = small_front n bytes (λ j. small (suc j)) k

sum_of : (bytes : List ℕ) → little_number 8 bytes ≡ from_le_bytes w64 bytes
sum_of bytes = omega arith

-- the bytes of a word that stands in eight bytes are these
pub word_bytes : (bytes : List ℕ) → 8 ≤ length bytes → ((k : ℕ) → get_or bytes k 0 < 256) → little_bytes 8 (little_number 8 bytes) ≡ take 8 bytes
word_bytes bytes room small =
    le_bytes_8 (take 8 bytes) (little_number 8 bytes) (length-take-le 8 bytes room) (small_front 8 bytes small)
    (sym (little_from-take 0 8 8 bytes (omega arith)) ∙ sum_of (take 8 bytes))

-- words take eight bytes each
pub length-words_bytes : (words : List ℕ) → length (words_bytes words) ≡ 8 * length words
length-words_bytes [] = refl
length-words_bytes (word ∷ words) =
    omega (arith, length-append (little_bytes 8 word) (words_bytes words), length-bytes_low_first 0 8 word, length-words_bytes words)

-- the bytes of the words that stand in some bytes are these
pub words_bytes-read : (words bytes : List ℕ) → length bytes ≡ 8 * length words → ((k : ℕ) → get_or bytes k 0 < 256)
    → IsRead little_number 8 bytes words → words_bytes words ≡ bytes
words_bytes-read [] bytes size small read = sym (nil_from_length bytes (omega arith))
words_bytes-read (word ∷ words) bytes size small read =
    let first : word ≡ little_number 8 bytes = read 0 (omega arith) in
    let rest : words_bytes words ≡ drop 8 bytes =
    words_bytes-read words (drop 8 bytes) (omega (arith, length-drop 8 bytes)) (λ k. subst (λ v. v < 256) (sym (get_or-drop 8 bytes k 0)) (small (8 + k)))
    (λ k l.
    let at : 8 * suc k ≡ 8 + 8 * k = omega arith in
    read (suc k) (omega arith) ∙ ap (λ (m : ℕ). little_number 8 (drop m bytes)) at ∙ ap (λ ds. little_number 8 ds) (sym (drop-drop (8 * k) 8 bytes))) in
    ap (λ (w : ℕ). little_bytes 8 w ++ words_bytes words) first ∙ ap (λ bs. bs ++ words_bytes words) (word_bytes bytes (omega arith) small)
    ∙ ap (λ bs. take 8 bytes ++ bs) rest ∙ take-append-drop 8 bytes

-- words that stand in bytes are words
pub fit_read : (words bytes : List ℕ) → ((k : ℕ) → get_or bytes k 0 < 256) → IsRead little_number 8 bytes words → All IsWord words
fit_read words bytes small read = λ k d l.
    let below : little_number 8 (drop (8 * k) bytes) < 256 ^ 8 =
    little_from-lt 0 8 (drop (8 * k) bytes) (λ j. subst (λ v. v < 256) (sym (get_or-drop (8 * k) bytes j 0)) (small (8 * k + j))) in
    subst (λ w. IsWord w) (sym (get_or_default words k d 0 l ∙ read k l)) (omega arith)
