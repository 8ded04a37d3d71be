-- Words of payloads that are read one after another, and the bytes that they hold.
use Rattle.std.proofs.Common.{ℕ, zero, suc, ◌+◌, ◌-◌, ◌*◌, ◌/◌, ◌%◌, ◌<◌, ◌≤◌, ◌≡◌, ◌∙◌, Bool, true, false, IsTrue, Result, Ok, Err, List, [], ◌∷◌, ◌++◌, length, take, drop, get_or, inl, inr, refl, sym, ap, subst, arith, append_assoc, ext_get_or}
use Rattle.std.specs.Int.{w64, to_le_bytes}
use Rattle.std.specs.List.{flat_map}
use Rattle.std.proofs.Math.Nat.{mul-suc}
use Rattle.std.proofs.lemmas.List.{get_or_append_left, get_or-append-add, length-drop, get_or-drop, get_or-take, length-take-le, length-append}
use Rattle.std.proofs.lemmas.Bool.{cases_lt}
use Rattle.cfs_pmem.specs.declared.trace.Asked.{Asked}
use Rattle.cfs_pmem.specs.declared.trace.Asked.TheVariants.{Step}
use Rattle.cfs_pmem.specs.Asks.{AreStepsOn, AsksSome}
use Rattle.cfs_pmem.specs.Images.{Seen, WordStep, devices_of, words_of, patched}
use Rattle.cfs_pmem.specs.Operations.{all_allowed, last_refused}
use Rattle.cfs_pmem.proofs.AskLemmas.{own_both}
use Rattle.cfs_pmem.proofs.Patches.{patched_below, patched_inside}
use Rattle.cfs_slot.specs.Payload.{SlotRead, read_asks, reads_from, ReadsStop, DoesReads, AsksOnly}
use Rattle.cfs_slot.specs.Words.{area_of, bytes_of}

-- the j-th element of the k-th piece, where each piece has n
pub flat_at : {X : Type 0} (f : X → List ℕ) (n : ℕ) → ((x : X) → length (f x) ≡ n) → (xs : List X) (k j : ℕ) (d : X) → k < length xs → j < n
    → get_or (flat_map f xs) (n * k + j) 0 ≡ get_or (f (get_or xs k d)) j 0
flat_at f n all [] k j d l m = absurd (omega arith)
flat_at f n all (x ∷ xs) zero j d l m =
    let at : n * 0 + j ≡ j = omega arith in
    ap (λ i. get_or (f x ++ flat_map f xs) i 0) at ∙ get_or_append_left (f x) (flat_map f xs) 0 j (omega (arith, all x))
flat_at f n all (x ∷ xs) (suc k) j d l m =
    let at : n * suc k + j ≡ length (f x) + (n * k + j) = omega (arith, mul-suc n k, all x) in
    ap (λ i. get_or (f x ++ flat_map f xs) i 0) at ∙ get_or-append-add (f x) (flat_map f xs) (n * k + j) 0
    ∙ flat_at f n all xs k j d (omega arith) m

pub length-flat : {X : Type 0} (f : X → List ℕ) (n : ℕ) → ((x : X) → length (f x) ≡ n) → (xs : List X) → length (flat_map f xs) ≡ n * length xs
length-flat f n all [] = let z : n * 0 ≡ 0 = omega arith in sym z
length-flat f n all (x ∷ xs) = omega (arith, length-append (f x) (flat_map f xs), all x, length-flat f n all xs, mul-suc n (length xs))

-- a word has eight bytes
pub eight : (word : ℕ) → length (to_le_bytes w64 word) ≡ 8
eight word = refl

-- a slot's payload has 4096 bytes
pub length-area : (words : List ℕ) → length words ≡ 518 → length (area_of words) ≡ 4096
length-area words size = omega (arith, length-flat (λ w. to_le_bytes w64 w) 8 eight (drop 6 words), length-drop 6 words)

-- byte j of its k-th word
pub area_at : (words : List ℕ) (k j : ℕ) → length words ≡ 518 → k < 512 → j < 8
    → get_or (area_of words) (8 * k + j) 0 ≡ get_or (to_le_bytes w64 (get_or words (6 + k) 0)) j 0
area_at words k j size l m =
    flat_at (λ w. to_le_bytes w64 w) 8 eight (drop 6 words) k j 0 (omega (arith, length-drop 6 words)) m
    ∙ ap (λ w. get_or (to_le_bytes w64 w) j 0) (get_or-drop 6 words k 0)

-- the bytes of the k-th word are put beside those of the words before it
pub area_more : (words area : List ℕ) (first k word : ℕ) → length words ≡ 518 → length area ≡ 4096 → k < 512 → word ≡ get_or words (6 + k) 0
    → ((i : ℕ) → 8 * first ≤ i → i < 8 * k → get_or area i 0 ≡ get_or (area_of words) i 0)
    → (i : ℕ) → 8 * first ≤ i → i < 8 * (k + 1) → get_or (patched area (8 * k) (to_le_bytes w64 word)) i 0 ≡ get_or (area_of words) i 0
area_more words area first k word size full l is was i from to =
    let bytes : List ℕ = to_le_bytes w64 word in
    elim (cases_lt i (8 * k)) [
      | inl below ↦ patched_below area (8 * k) bytes i (omega arith) below ∙ was i from below
      | inr above ↦
          let j : ℕ = i - 8 * k in
          let at : 8 * k + j ≡ i = omega arith in
          ap (λ n. get_or (patched area (8 * k) bytes) n 0) (sym at) ∙ patched_inside area (8 * k) bytes j (omega arith) (omega arith)
          ∙ ap (λ w. get_or (to_le_bytes w64 w) j 0) is ∙ sym (area_at words k j size l (omega arith)) ∙ ap (λ n. get_or (area_of words) n 0) at
    ]

-- These reads were made, and steps of these devices alone were asked for.
pub record AreRead (obeys : Bool) (reads : List SlotRead) (devices : List ℕ) (asked_old asked_new : List Asked) : Type 0 where
  pub all : IsTrue obeys → asked_new ≡ all_allowed read_asks reads ++ asked_old
  pub asks : AsksOnly devices asked_old asked_new

pub none_read : (obeys : Bool) (devices : List ℕ) (asked : List Asked) → AreRead obeys [] devices asked asked
none_read obeys devices asked = record { all = λ o. refl; asks = record { made = []; own = tt; is = refl } }

-- one more call on these devices
pub asks_more : {devices : List ℕ} {asked_old asked_mid asked_new : List Asked} → AsksOnly devices asked_old asked_mid → AsksSome devices asked_mid asked_new
    → AsksOnly devices asked_old asked_new
asks_more {devices} {asked_old} a b = record {
  made = b.made ++ a.made;
  own = own_both devices b.made a.made b.own a.own;
  is = b.is ∙ ap (λ s. b.made ++ s) a.is ∙ sym (append_assoc b.made a.made asked_old);
}

-- one more word
pub read_next : {obeys : Bool} {device : ℕ} (at : ℕ) {n m : ℕ} {asked_old asked_mid asked_new : List Asked} {old mid : Seen WordStep} → m ≡ suc n → old.device ≡ device → mid ≡ old
    → AreRead obeys (reads_from device at n) (devices_of old) asked_old asked_mid → AsksSome (devices_of mid) asked_mid asked_new
    → (IsTrue obeys → asked_new ≡ Step mid.device false true ∷ asked_mid)
    → AreRead obeys (reads_from device at m) (devices_of old) asked_old asked_new
read_next {obeys} {device} at {n} {m} {asked_old} {asked_mid} {asked_new} {old} {mid} next same e h asks asked =
    subst (λ k. AreRead obeys (reads_from device at k) (devices_of old) asked_old asked_new) (sym next)
    record {
      all = λ o. asked o ∙ ap (λ (s : Seen WordStep). Step s.device false true ∷ asked_mid) e ∙ ap (λ d. Step d false true ∷ asked_mid) same
          ∙ ap (λ s. Step device false true ∷ s) (h.all o);
      asks = asks_more h.asks (subst (λ (s : Seen WordStep). AsksSome (devices_of s) asked_mid asked_new) e asks);
    }

length-reads : (device at n : ℕ) → length (reads_from device at n) ≡ n
length-reads device at zero = refl
length-reads device at (suc n) = ap (λ k. suc k) (length-reads device at n)

drop-reads : (device at left n : ℕ) → drop left (reads_from device at (left + n)) ≡ reads_from device at n
drop-reads device at zero n = let e : 0 + n ≡ n = omega arith in ap (λ k. drop 0 (reads_from device at k)) e ∙ none_dropped (reads_from device at n)
  where
    none_dropped : (reads : List SlotRead) → drop 0 reads ≡ reads
    none_dropped [] = refl
    none_dropped (read ∷ reads) = refl
drop-reads device at (suc left) n =
    let next : suc left + n ≡ suc (left + n) = omega arith in
    ap (λ k. drop (suc left) (reads_from device at k)) next ∙ drop-reads device at left n

-- the next word failed
pub read_stops : {T E : Type 0} {obeys : Bool} {device : ℕ} (at n m : ℕ) {result : Result T E} {asked_old asked_mid asked_new : List Asked} {devices : List ℕ} (e : E) → result ≡ Err e → n < m
    → AreRead obeys (reads_from device at n) devices asked_old asked_mid → (IsTrue obeys → asked_new ≡ Step device false false ∷ asked_mid)
    → IsTrue obeys → DoesReads (reads_from device at m) result asked_old asked_new
read_stops {T} {E} {obeys} {device} at n m {result} {asked_old} {asked_mid} {asked_new} {devices} e is l h asked o =
    let left : ℕ = m - suc n in
    let count : left + suc n ≡ m = omega arith in
    let front : drop left (reads_from device at m) ≡ reads_from device at (suc n) = ap (λ k. drop left (reads_from device at k)) (sym count) ∙ drop-reads device at left (suc n) in
    subst (λ r. DoesReads (reads_from device at m) r asked_old asked_new) (sym is)
    record {
      all = tt;
      front = record {
        left = left;
        within = omega (arith, length-reads device at m);
        asked = asked o ∙ ap (λ s. Step device false false ∷ s) (h.all o) ∙ ap (λ rs. last_refused read_asks rs ++ asked_old) (sym front);
      };
    }

pub asks_more_of : {asked_old asked_mid asked_new : List Asked} {old mid : Seen WordStep} → AsksOnly (devices_of old) asked_old asked_mid → mid ≡ old
    → AsksSome (devices_of mid) asked_mid asked_new → AsksOnly (devices_of old) asked_old asked_new
asks_more_of {asked_old} {asked_mid} {asked_new} {old} {mid} a e b =
    asks_more a (subst (λ (s : Seen WordStep). AsksSome (devices_of s) asked_mid asked_new) e b)

-- bytes that are those of a payload from a place on, one by one
pub part_is : (area all out : List ℕ) (from : ℕ) → from + length out ≤ length all → from + length out ≤ length area
    → ((i : ℕ) → i < length out → get_or area (from + i) 0 ≡ get_or all (from + i) 0)
    → take (length out) (drop from area) ≡ take (length out) (drop from all)
part_is area all out from within room same =
    let n : ℕ = length out in
    let one : length (take n (drop from area)) ≡ n = length-take-le n (drop from area) (omega (arith, length-drop from area)) in
    let two : length (take n (drop from all)) ≡ n = length-take-le n (drop from all) (omega (arith, length-drop from all)) in
    ext_get_or 0 (take n (drop from area)) (take n (drop from all)) (one ∙ sym two)
    (λ i l. let il : i < n = subst (λ m. i < m) one l in
    get_or-take n (drop from area) i 0 il ∙ get_or-drop from area i 0 ∙ same i il ∙ sym (get_or-drop from all i 0) ∙ sym (get_or-take n (drop from all) i 0 il))
