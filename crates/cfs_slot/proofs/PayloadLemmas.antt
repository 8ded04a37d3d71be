-- The words of a payload, and its bytes again.
use Rattle.std.proofs.Common.{ℕ, zero, suc, ◌+◌, ◌-◌, ◌*◌, ◌<◌, ◌≤◌, ◌≡◌, ◌∙◌, List, [], ◌∷◌, ◌++◌, length, take, drop, get_or, slice_index, inl, inr, refl, sym, ap, subst, arith, append_assoc, ext_get_or}
use Rattle.std.proofs.Math.ListN.{replicate}
use Rattle.std.proofs.lemmas.Nat.{le_bytes_8}
use Rattle.std.proofs.lemmas.List.{append-nil, drop_all, drop-drop, get_or-drop, get_or-take, length-take-le, length-drop, replicate-append-replicate, take-append-drop, take_all}
use Rattle.std.proofs.lemmas.Bool.{cases_lt}
use Rattle.std.specs.Int.{w64, to_le_bytes}
use Rattle.byteorder.specs.Endian.{little_from, little_number}
use Rattle.cfs_slot.specs.Staging.{words_for, HoldsPayload}
use Rattle.cfs_slot.specs.Words.{bytes_of}
use Rattle.cfs_slot.specs.Operations.{payload_words}

past : (bytes : List ℕ) (i : ℕ) → length bytes ≤ i → slice_index bytes i ≡ 0
past [] i l = refl
past (b ∷ bytes) zero l = absurd (omega arith)
past (b ∷ bytes) (suc i) l = past bytes i (omega arith)

nothing_past : (n i : ℕ) (bytes : List ℕ) → length bytes ≤ i → little_from i n bytes ≡ 0
nothing_past zero i bytes l = refl
nothing_past (suc n) i bytes l = ap (λ b. b + 256 * little_from (suc i) n bytes) (past bytes i l) ∙ ap (λ r. 0 + 256 * r) (nothing_past n (suc i) bytes (omega arith))

-- past the last byte a number reads zero bytes
pub little_from_longer : (n m i : ℕ) (bytes : List ℕ) → length bytes ≤ i + n → n ≤ m → little_from i n bytes ≡ little_from i m bytes
little_from_longer zero m i bytes l le = sym (nothing_past m i bytes (omega arith))
little_from_longer (suc n) zero i bytes l le = absurd (omega arith)
little_from_longer (suc n) (suc m) i bytes l le =
    ap (λ r. slice_index bytes i + 256 * r) (little_from_longer n m (suc i) bytes (omega arith) (omega arith))

-- the first eight bytes, filled up with zero bytes
eight : List ℕ → List ℕ
eight bytes = slice_index bytes 0 ∷ slice_index bytes 1 ∷ slice_index bytes 2 ∷ slice_index bytes 3
    ∷ slice_index bytes 4 ∷ slice_index bytes 5 ∷ slice_index bytes 6 ∷ slice_index bytes 7 ∷ []

eight_is : (bytes : List ℕ) → eight bytes ≡ take 8 bytes ++ replicate (8 - length bytes) 0
unfolding eight
eight_is [] = refl
eight_is (a ∷ []) = refl
eight_is (a ∷ b ∷ []) = refl
eight_is (a ∷ b ∷ c ∷ []) = refl
eight_is (a ∷ b ∷ c ∷ d ∷ []) = refl
eight_is (a ∷ b ∷ c ∷ d ∷ e ∷ []) = refl
eight_is (a ∷ b ∷ c ∷ d ∷ e ∷ f ∷ []) = refl
eight_is (a ∷ b ∷ c ∷ d ∷ e ∷ f ∷ g ∷ []) = refl
eight_is (a ∷ b ∷ c ∷ d ∷ e ∷ f ∷ g ∷ h ∷ rest) =
    let none : 0 ≡ 8 - length (a ∷ b ∷ c ∷ d ∷ e ∷ f ∷ g ∷ h ∷ rest) = omega arith in
    ap (λ (n : ℕ). (a ∷ b ∷ c ∷ d ∷ e ∷ f ∷ g ∷ h ∷ []) ++ replicate n 0) none

eight_bytes : (bytes : List ℕ) → ((k : ℕ) → get_or bytes k 0 < 256) → (k : ℕ) → get_or (eight bytes) k 0 < 256
unfolding eight
eight_bytes bytes h zero = h 0
eight_bytes bytes h (suc zero) = h 1
eight_bytes bytes h (suc (suc zero)) = h 2
eight_bytes bytes h (suc (suc (suc zero))) = h 3
eight_bytes bytes h (suc (suc (suc (suc zero)))) = h 4
eight_bytes bytes h (suc (suc (suc (suc (suc zero))))) = h 5
eight_bytes bytes h (suc (suc (suc (suc (suc (suc zero)))))) = h 6
eight_bytes bytes h (suc (suc (suc (suc (suc (suc (suc zero))))))) = h 7
eight_bytes bytes h (suc (suc (suc (suc (suc (suc (suc (suc k)))))))) = omega arith

-- the bytes of a payload's word
word_bytes : (bytes : List ℕ) → ((k : ℕ) → get_or bytes k 0 < 256) → to_le_bytes w64 (little_number 8 bytes) ≡ take 8 bytes ++ replicate (8 - length bytes) 0
unfolding eight
word_bytes bytes h = le_bytes_8 (eight bytes) (little_number 8 bytes) refl (eight_bytes bytes h) (omega arith) ∙ eight_is bytes

rest_bytes : (bytes : List ℕ) → ((k : ℕ) → get_or bytes k 0 < 256) → (k : ℕ) → get_or (drop 8 bytes) k 0 < 256
rest_bytes bytes h k = subst (λ v. v < 256) (sym (get_or-drop 8 bytes k 0)) (h (8 + k))

-- one word's bytes before those of the rest
joined : (n : ℕ) (bytes : List ℕ) → length bytes ≤ 8 * suc n
    → (take 8 bytes ++ replicate (8 - length bytes) 0) ++ (drop 8 bytes ++ replicate (8 * n - length (drop 8 bytes)) 0)
    ≡ bytes ++ replicate (8 * suc n - length bytes) 0
joined n bytes l = elim (cases_lt (length bytes) 8) [
  | inl short ↦
      let none : drop 8 bytes ≡ [] = drop_all 8 bytes (omega arith) in
      let all : take 8 bytes ≡ bytes = take_all 8 bytes (omega arith) in
      let fill : (8 - length bytes) + (8 * n - 0) ≡ 8 * suc n - length bytes = omega arith in
      ap (λ ds. (take 8 bytes ++ replicate (8 - length bytes) 0) ++ (ds ++ replicate (8 * n - length ds) 0)) none
      ∙ ap (λ ts. (ts ++ replicate (8 - length bytes) 0) ++ replicate (8 * n - 0) 0) all
      ∙ append_assoc bytes (replicate (8 - length bytes) 0) (replicate (8 * n - 0) 0)
      ∙ ap (λ zs. bytes ++ zs) (replicate-append-replicate (8 - length bytes) (8 * n - 0) 0)
      ∙ ap (λ (k : ℕ). bytes ++ replicate k 0) fill
  | inr long ↦
      let none : 8 - length bytes ≡ 0 = omega arith in
      let fill : 8 * n - length (drop 8 bytes) ≡ 8 * suc n - length bytes = omega (arith, length-drop 8 bytes) in
      ap (λ (k : ℕ). (take 8 bytes ++ replicate k 0) ++ (drop 8 bytes ++ replicate (8 * n - length (drop 8 bytes)) 0)) none
      ∙ ap (λ ts. ts ++ (drop 8 bytes ++ replicate (8 * n - length (drop 8 bytes)) 0)) (append-nil (take 8 bytes))
      ∙ sym (append_assoc (take 8 bytes) (drop 8 bytes) (replicate (8 * n - length (drop 8 bytes)) 0))
      ∙ ap (λ ts. ts ++ replicate (8 * n - length (drop 8 bytes)) 0) (take-append-drop 8 bytes)
      ∙ ap (λ (k : ℕ). bytes ++ replicate k 0) fill
]

-- the bytes of a payload's words are the payload, and zero bytes
pub words_bytes : (n : ℕ) (bytes : List ℕ) → length bytes ≤ 8 * n → ((k : ℕ) → get_or bytes k 0 < 256)
    → bytes_of (payload_words n bytes) ≡ bytes ++ replicate (8 * n - length bytes) 0
words_bytes zero [] l h = refl
words_bytes zero (b ∷ bytes) l h = absurd (omega arith)
words_bytes (suc n) bytes l h =
    ap (λ ws. ws ++ bytes_of (payload_words n (drop 8 bytes))) (word_bytes bytes h)
    ∙ ap (λ ws. (take 8 bytes ++ replicate (8 - length bytes) 0) ++ ws) (words_bytes n (drop 8 bytes) (omega (arith, length-drop 8 bytes)) (rest_bytes bytes h))
    ∙ joined n bytes l

pub length-payload_words : (n : ℕ) (bytes : List ℕ) → length (payload_words n bytes) ≡ n
length-payload_words zero bytes = refl
length-payload_words (suc n) bytes = ap (λ k. suc k) (length-payload_words n (drop 8 bytes))

-- the k-th word of a payload
pub payload_words_at : (n k : ℕ) (bytes : List ℕ) → k < n → get_or (payload_words n bytes) k 0 ≡ little_number 8 (drop (8 * k) bytes)
payload_words_at zero k bytes l = absurd (omega arith)
payload_words_at (suc n) zero bytes l = refl
payload_words_at (suc n) (suc k) bytes l =
    payload_words_at n k (drop 8 bytes) (omega arith)
    ∙ (let at : 8 + 8 * k ≡ 8 * suc k = omega arith in
    ap (λ ds. little_number 8 ds) (drop-drop (8 * k) 8 bytes ∙ ap (λ (m : ℕ). drop m bytes) at))

-- a payload whose words stand from word 6 on
pub holds_payload : (payload words : List ℕ) → length payload ≤ 4096 → length words ≡ 518 → ((k : ℕ) → get_or payload k 0 < 256)
    → ((i : ℕ) → i < words_for (length payload) → get_or words (6 + i) 0 ≡ get_or (payload_words (words_for (length payload)) payload) i 0)
    → HoldsPayload payload words
holds_payload payload words most size bytes written =
    let n : ℕ = words_for (length payload) in
    let room : n ≤ length (drop 6 words) = omega (arith, length-drop 6 words) in
    let front : length (take n (drop 6 words)) ≡ n = length-take-le n (drop 6 words) room in
    let same : take n (drop 6 words) ≡ payload_words n payload =
    ext_get_or 0 (take n (drop 6 words)) (payload_words n payload) (front ∙ sym (length-payload_words n payload))
    (λ i l. let il : i < n = subst (λ m. i < m) front l in
    get_or-take n (drop 6 words) i 0 il ∙ get_or-drop 6 words i 0 ∙ written i il) in
    ap (λ ws. bytes_of ws) same ∙ words_bytes n payload (omega arith) bytes
