-- The words of a slot that stand in an image, and the bytes of its payload.
use Rattle.std.proofs.Common.{◌≡◌, ◌∙◌, ℕ, zero, suc, ◌+◌, ◌-◌, ◌*◌, ◌<◌, ◌≤◌, List, [], ◌∷◌}
use Rattle.std.proofs.Common.{length}
use Rattle.std.proofs.Common.{take, drop, get_or, sym, ap, subst, arith}
use Rattle.std.proofs.lemmas.Bool.Decides.{nat_tests}
use Rattle.std.proofs.lemmas.List.{drop-drop, drop-take, get_or-drop}
use Rattle.std.proofs.lemmas.List.{length-drop, length-take-le}
use Rattle.std.proofs.lemmas.List.FromFn.{get_or-map-range_with_len, length-map-range_with_len}
use Rattle.byteorder.specs.Endian.{little_number}
use Rattle.byteorder.specs.Numbers.{little_from-take}
use Rattle.cfs_fsck.specs.Images.{rows_at, words_at}
use Rattle.cfs_image.specs.Image.{word_at}
use Rattle.cfs_image.specs.Layout.{region_at, slot_at}
use Rattle.cfs_image.proofs.WordBytes.{words_bytes-read}
use Rattle.cfs_slot.specs.Words.{area_of}
use Rattle.cfs_dump.specs.Reads.{HasSlots, heads_in}
use Rattle.cfs_dump.specs.Stores.{slots_in}

-- ---- words

pub length-words_at : (bytes : List ℕ) (at count : ℕ) →
    length (words_at bytes at count) ≡ count
unfolding words_at
length-words_at bytes at count =
    length-map-range_with_len (λ k. word_at bytes (at + 8 * k)) 0 count

pub get_or-words_at : (bytes : List ℕ) (at count k : ℕ) → k < count →
    get_or (words_at bytes at count) k 0 ≡ word_at bytes (at + 8 * k)
unfolding words_at
get_or-words_at bytes at count k less =
    get_or-map-range_with_len (λ k. word_at bytes (at + 8 * k)) 0 count k k 0 less (omega arith)

-- the words of a slot, all of them and those before its payload
pub slot_words-at : (bytes : List ℕ) (slot : ℕ) → slot < 16 * word_at bytes 24 →
    get_or (slots_in bytes) slot [] ≡ words_at bytes (slot_at slot) 518
unfolding slots_in rows_at
slot_words-at bytes slot less =
    get_or-map-range_with_len (λ k. words_at bytes (slot_at k) 518) 0 (16 * word_at bytes 24) slot
    slot [] less (omega arith)

pub heads-at : (bytes : List ℕ) (slot : ℕ) → slot < 16 * word_at bytes 24 →
    get_or (heads_in bytes) slot [] ≡ words_at bytes (slot_at slot) 6
unfolding heads_in rows_at
heads-at bytes slot less =
    get_or-map-range_with_len (λ k. words_at bytes (slot_at k) 6) 0 (16 * word_at bytes 24) slot
    slot [] less (omega arith)

pub length-heads : (bytes : List ℕ) → length (heads_in bytes) ≡ 16 * word_at bytes 24
unfolding heads_in rows_at
length-heads bytes =
    length-map-range_with_len (λ k. words_at bytes (slot_at k) 6) 0 (16 * word_at bytes 24)

pub length-slots : (bytes : List ℕ) → length (slots_in bytes) ≡ 16 * word_at bytes 24
unfolding slots_in rows_at
length-slots bytes =
    length-map-range_with_len (λ k. words_at bytes (slot_at k) 518) 0 (16 * word_at bytes 24)

-- a head has the same words as its slot
pub same_head : (bytes : List ℕ) (slot k : ℕ) → slot < 16 * word_at bytes 24 → k < 6 →
    get_or (get_or (heads_in bytes) slot []) k 0 ≡ get_or (get_or (slots_in bytes) slot []) k 0
same_head bytes slot k less low =
    ap (λ (ws : List ℕ). get_or ws k 0) (heads-at bytes slot less)
    ∙ (get_or-words_at bytes (slot_at slot) 6 k low
    ∙ (sym (get_or-words_at bytes (slot_at slot) 518 k (omega arith))
    ∙ ap (λ (ws : List ℕ). get_or ws k 0) (sym (slot_words-at bytes slot less))))

-- the region of a slot begins where the slot does
pub region_at-slot : (slot : ℕ) → region_at (323 + slot) ≡ slot_at slot
region_at-slot slot = grind (arith, nat_tests)

-- ---- bytes

abbrev pub AreSmall : List ℕ → Type 0
AreSmall bytes = (k : ℕ) → get_or bytes k 0 < 256

small_front : (n : ℕ) (bytes : List ℕ) → AreSmall bytes → AreSmall (take n bytes)
small_front zero bytes small k = omega arith
small_front (suc n) [] small k = small k
small_front (suc n) (byte ∷ bytes) small zero = small 0
small_front (suc n) (byte ∷ bytes) small (suc k) = small_front n bytes (λ j. small (suc j)) k

small_part : (bytes : List ℕ) (from n : ℕ) → AreSmall bytes →
    AreSmall (take n (drop from bytes))
small_part bytes from n small =
    small_front n (drop from bytes)
    (λ k. subst (λ v. v < 256) (sym (get_or-drop from bytes k 0)) (small (from + k)))

word_in : (bytes : List ℕ) (at n k : ℕ) → 8 * k + 8 ≤ n →
    little_number 8 (drop (8 * k) (take n (drop at bytes))) ≡ word_at bytes (at + 8 * k)
word_in bytes at n k room =
    let split : n ≡ 8 * k + (n - 8 * k) = omega arith in
    ap (λ (m : ℕ). little_number 8 (drop (8 * k) (take m (drop at bytes)))) split
    ∙ ap (little_number 8) (drop-take (8 * k) (n - 8 * k) (drop at bytes))
    ∙ little_from-take 0 8 (n - 8 * k) (drop (8 * k) (drop at bytes)) (omega arith)
    ∙ ap (little_number 8) (drop-drop (8 * k) at bytes)

area-words : (bytes : List ℕ) (at : ℕ) → at + 4144 ≤ length bytes → AreSmall bytes →
    area_of (words_at bytes at 518) ≡ take 4096 (drop (at + 48) bytes)
area-words bytes at room small =
    words_bytes-read (drop 6 (words_at bytes at 518)) (take 4096 (drop (at + 48) bytes))
    (omega (
      arith,
      length-take-le 4096 (drop (at + 48) bytes) (omega (arith, length-drop (at + 48) bytes)),
      length-drop 6 (words_at bytes at 518),
      length-words_at bytes at 518,
    ))
    (small_part bytes (at + 48) 4096 small)
    (λ k less.
    let low : k < 512 =
    omega (arith, less, length-drop 6 (words_at bytes at 518), length-words_at bytes at 518) in
    get_or-drop 6 (words_at bytes at 518) k 0
    ∙ (get_or-words_at bytes at 518 (6 + k) (omega arith)
    ∙ (let same : at + 8 * (6 + k) ≡ at + 48 + 8 * k = omega arith in
    ap (λ (offset : ℕ). word_at bytes offset) same
    ∙ sym (word_in bytes (at + 48) 4096 k (omega arith)))))

-- the payload of a slot
pub area-in : (bytes : List ℕ) (slot : ℕ) → HasSlots bytes → slot < 16 * word_at bytes 24 →
    AreSmall bytes →
    area_of (get_or (slots_in bytes) slot []) ≡ take 4096 (drop (slot_at slot + 48) bytes)
area-in bytes slot has less small =
    ap area_of (slot_words-at bytes slot less)
    ∙ area-words bytes (slot_at slot) (omega (arith, has.within)) small
