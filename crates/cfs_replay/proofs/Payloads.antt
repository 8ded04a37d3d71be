-- Words of a payload that are read one after another, and the bytes that they hold.
use Rattle.std.proofs.Common.{ℕ, zero, suc, ◌+◌, ◌-◌, ◌*◌, ◌/◌, ◌%◌, ◌==◌, ◌<◌, ◌≤◌, ◌≡◌, ◌∙◌}
use Rattle.std.proofs.Common.{Bool, true, false, if◌then◌else◌, List, [], ◌∷◌, ◌++◌, length, map}
use Rattle.std.proofs.Common.{take, get_or, inl, inr, refl, sym, ap, arith, append_assoc}
use Rattle.std.proofs.Common.{ext_get_or}
use Rattle.std.specs.Int.{w64, to_le_bytes}
use Rattle.std.specs.List.{flat_map}
use Rattle.std.proofs.Math.Nat.{mul-suc}
use Rattle.std.proofs.lemmas.Bool.{cases_lt}
use Rattle.std.proofs.lemmas.List.{append-nil, get_or-append-add, get_or-take, get_or_append_left}
use Rattle.std.proofs.lemmas.List.{get_or-map, length-append, length-map, length-take-le}
use Rattle.cfs_pmem.specs.Images.{patched}
use Rattle.cfs_pmem.proofs.Patches.{patched_below, patched_inside}
use Rattle.cfs_slot.specs.Tails.{numbers_from}
use Rattle.cfs_slot.specs.Words.{area_of}
use Rattle.cfs_slot.proofs.AreaLemmas.{area_at, length-area}

-- ---- places

-- the numbers that are left, with those that were put
pub places-more : (f : ℕ → ℕ) (most n number bits place : ℕ) (found more all : List ℕ) →
    most ≡ n + 1 → place ≡ f number → all ≡ found ++ map f (numbers_from most number bits) →
    more ≡ found ++ (if bits % 2 == 1 then place ∷ [] else []) →
    all ≡ more ++ map f (numbers_from n (number + 1) (bits / 2))
places-more f zero n number bits place found more all one here before put =
    absurd (omega (arith, one))
places-more f (suc m) n number bits place found more all one here before put =
    before
    ∙ (ap (λ (ns : List ℕ). found ++ ns) (split (bits % 2 == 1))
    ∙ (sym (append_assoc found (if bits % 2 == 1 then place ∷ [] else [])
    (map f (numbers_from m (number + 1) (bits / 2))))
    ∙ (ap (λ (ns : List ℕ). ns ++ map f (numbers_from m (number + 1) (bits / 2))) (sym put)
    ∙ ap (λ (k : ℕ). more ++ map f (numbers_from k (number + 1) (bits / 2)))
    (let same : m ≡ n = omega (arith, one) in same))))
  where
    split : (b : Bool) →
        map f ((if b then number ∷ [] else []) ++ numbers_from m (number + 1) (bits / 2))
        ≡ (if b then place ∷ [] else []) ++ map f (numbers_from m (number + 1) (bits / 2))
    split true = ap (λ (p : ℕ). p ∷ map f (numbers_from m (number + 1) (bits / 2))) (sym here)
    split false = refl

pub places-done : (f : ℕ → ℕ) (n number bits : ℕ) (found all : List ℕ) → n ≡ 0 →
    all ≡ found ++ map f (numbers_from n number bits) → found ≡ all
places-done f zero number bits found all none whole = sym (whole ∙ append-nil found)
places-done f (suc n) number bits found all none whole = absurd (omega (arith, none))

-- ---- bytes

abbrev pub AreAreas : List (List ℕ) → Type 0
AreAreas slots = (k : ℕ) → k < length slots → length (get_or slots k []) ≡ 518

pub length-areas : (slots : List (List ℕ)) → AreAreas slots →
    length (flat_map area_of slots) ≡ 4096 * length slots
length-areas [] full = let none : 4096 * 0 ≡ 0 = omega arith in sym none
length-areas (words ∷ slots) full = omega (
  arith,
  length-append (area_of words) (flat_map area_of slots),
  length-area words (full 0 (omega arith)),
  length-areas slots (λ k less. full (suc k) (omega arith)),
  mul-suc 4096 (length slots),
)

area-in : (slots : List (List ℕ)) (k j : ℕ) → AreAreas slots → k < length slots → j < 4096 →
    get_or (flat_map area_of slots) (4096 * k + j) 0 ≡ get_or (area_of (get_or slots k [])) j 0
area-in [] k j full less below = absurd (omega arith)
area-in (words ∷ slots) zero j full less below =
    let long = length-area words (full 0 (omega arith)) in
    let at : 4096 * 0 + j ≡ j = omega arith in
    ap (λ i. get_or (area_of words ++ flat_map area_of slots) i 0) at
    ∙ get_or_append_left (area_of words) (flat_map area_of slots) 0 j (omega (arith, long))
area-in (words ∷ slots) (suc k) j full less below =
    let long = length-area words (full 0 (omega arith)) in
    let at : 4096 * suc k + j ≡ length (area_of words) + (4096 * k + j) =
    omega (arith, mul-suc 4096 k, long) in
    ap (λ i. get_or (area_of words ++ flat_map area_of slots) i 0) at
    ∙ (get_or-append-add (area_of words) (flat_map area_of slots) (4096 * k + j) 0
    ∙ area-in slots k j (λ i inside. full (suc i) (omega arith)) (omega arith) below)

-- one more word
pub payload-more : (slots : List (List ℕ)) (buffer : List ℕ) (k word : ℕ) → AreAreas slots →
    k < 512 * length slots → 8 * k + 8 ≤ length buffer →
    word ≡ get_or (get_or slots (k / 512) []) (6 + k % 512) 0 →
    ((i : ℕ) → i < 8 * k → get_or buffer i 0 ≡ get_or (flat_map area_of slots) i 0) →
    (i : ℕ) → i < 8 * (k + 1) →
    get_or (patched buffer (8 * k) (to_le_bytes w64 word)) i 0
    ≡ get_or (flat_map area_of slots) i 0
payload-more slots buffer k word full less room is was i inside =
    elim (cases_lt i (8 * k)) [
      | inl below ↦
          patched_below buffer (8 * k) (to_le_bytes w64 word) i (omega arith) below ∙ was i below
      | inr above ↦
          let j : ℕ = i - 8 * k in
          let at : 8 * k + j ≡ i = omega arith in
          let same : 4096 * (k / 512) + (8 * (k % 512) + j) ≡ i = omega arith in
          let slot : k / 512 < length slots = omega arith in
          ap (λ n. get_or (patched buffer (8 * k) (to_le_bytes w64 word)) n 0) (sym at)
          ∙ (patched_inside buffer (8 * k) (to_le_bytes w64 word) j (omega arith) (omega arith)
          ∙ (ap (λ w. get_or (to_le_bytes w64 w) j 0) is
          ∙ (sym (area_at (get_or slots (k / 512) []) (k % 512) j (full (k / 512) slot)
          (omega arith) (omega arith))
          ∙ (sym (area-in slots (k / 512) (8 * (k % 512) + j) full slot (omega arith))
          ∙ ap (λ n. get_or (flat_map area_of slots) n 0) same))))
    ]

pub take-same : (n : ℕ) (xs ys : List ℕ) → n ≤ length xs → n ≤ length ys →
    ((i : ℕ) → i < n → get_or xs i 0 ≡ get_or ys i 0) → take n xs ≡ take n ys
take-same n xs ys room_x room_y same =
    ext_get_or 0 (take n xs) (take n ys)
    (length-take-le n xs room_x ∙ sym (length-take-le n ys room_y))
    (λ i less.
    let inside : i < n = omega (arith, less, length-take-le n xs room_x) in
    get_or-take n xs i 0 inside ∙ (same i inside ∙ sym (get_or-take n ys i 0 inside)))

pub areas-of : (f : ℕ → List ℕ) (places : List ℕ) →
    ((k : ℕ) → k < length places → length (f (get_or places k 0)) ≡ 518) →
    AreAreas (map f places)
areas-of f places full k less =
    let inside : k < length places = omega (arith, less, length-map places f) in
    ap (λ (words : List ℕ). length words) (get_or-map f places k 0 [] inside) ∙ full k inside
