-- Reads of one of several slots, one after another.
use Rattle.std.proofs.Common.{ℕ, zero, suc, ◌+◌, ◌-◌, ◌*◌, ◌/◌, ◌%◌, ◌<◌, ◌≤◌, ◌≡◌, ◌⊎◌, ◌∙◌, Bool, IsTrue, Option, Some, None, Result, Ok, Err, OnOk, OnErr, List, [], ◌∷◌, ◌++◌, length, map, take, drop, min, get_or, inl, inr, refl, sym, ap, subst, arith, append_assoc, ext_get_or}
use Rattle.std.proofs.Math.ListN.{set}
use Rattle.std.specs.List.{flat_map, refill}
use Rattle.std.proofs.Math.Nat.{mul-suc}
use Rattle.std.proofs.lemmas.List.{get_or_append_left, get_or-append-add, get_or-append_right, get_or-take, get_or-drop, length-take-le, length-drop, length-append, length-map, length-set, drop-append-le}
use Rattle.std.proofs.Math.Seq.{drop-append-add}
use Rattle.std.proofs.lemmas.Bool.{cases_lt}
use Rattle.cfs_pmem.specs.declared.trace.Asked.{Asked}
use Rattle.cfs_pmem.specs.Asks.{AreStepsOn}
use Rattle.cfs_pmem.specs.Faults.{HasCause}
use Rattle.cfs_pmem.specs.Images.{Seen, WordStep, devices_of, words_of}
use Rattle.cfs_pmem.specs.Operations.{all_allowed, last_refused}
use Rattle.cfs_pmem.proofs.AskLemmas.{own_both, steps_left, steps_right}
use Rattle.cfs_pmem.proofs.CallLemmas.{all_allowed-append, refused_behind}
use Rattle.cfs_vec.specs.Cells.{somes, AreFull}
use Rattle.cfs_vec.proofs.CellLemmas.{refilled, somes_few}
use Rattle.cfs_slot.specs.Payload.{SlotRead, read_asks, area_reads, payload_reads, ReadsStop, DoesReads, AsksOnly, NoneFell, SomeRose, HaveCause}
use Rattle.cfs_slot.specs.Reads.{ReadsSlot}
use Rattle.cfs_slot.specs.Regions.{words_in, devices_in}
use Rattle.cfs_slot.specs.Words.{area_of}
use Rattle.cfs_slot.proofs.AreaLemmas.{length-area}

-- Counts of faults.

none_fell : (counts : List ℕ) → NoneFell counts counts
none_fell [] = tt
none_fell (n ∷ counts) = (omega arith, none_fell counts)

cause_head : {T E : Type 0} {before now : ℕ} (rest : List ℕ) (result : Result T E) → HasCause before now result → HaveCause (before ∷ rest) (now ∷ rest) result
cause_head rest (Ok t) h = record { later = (h.later, none_fell rest); failed = tt; passed = ap (λ n. n ∷ rest) h.passed }
cause_head rest (Err e) h = record { later = (h.later, none_fell rest); failed = inl h.failed; passed = tt }

cause_behind : {T E : Type 0} {befores nows : List ℕ} (first : ℕ) (result : Result T E) → HaveCause befores nows result → HaveCause (first ∷ befores) (first ∷ nows) result
cause_behind first (Ok t) h = record { later = (omega arith, h.later); failed = tt; passed = ap (λ ns. first ∷ ns) h.passed }
cause_behind first (Err e) h = record { later = (omega arith, h.later); failed = inr h.failed; passed = tt }

-- What a read of one region says.
pub record AreaRead {R T E : Type 0} (seen : R → Seen WordStep) (faults : R → ℕ) (obeys_power : Bool) (from : ℕ) (result : Result T E)
    (asked_old : List Asked) (old : R) (out_old : List ℕ) (asked_new : List Asked) (new : R) (out_new : List ℕ) : Type 0 where
  pub bytes : OnOk result (out_new ≡ take (length out_old) (drop from (area_of (words_of (seen old)))))
  pub same : seen new ≡ seen old
  pub does : IsTrue obeys_power → DoesReads (area_reads (seen old).device from (from + length out_old)) result asked_old asked_new
  pub asks : AsksOnly (devices_of (seen old)) asked_old asked_new
  pub cause : HasCause (faults old) (faults new) result

pub slot_head : {R T E : Type 0} {seen : R → Seen WordStep} {faults : R → ℕ} {obeys : Bool} {from : ℕ} {result : Result T E}
    {asked_old asked_new : List Asked} {old new : R} {out_old out_new : List ℕ} (rest : List R)
    → AreaRead seen faults obeys from result asked_old old out_old asked_new new out_new
    → ReadsSlot seen faults obeys 0 from result asked_old (old ∷ rest) out_old asked_new (new ∷ rest) out_new
slot_head {R} {T} {E} {seen} {faults} {obeys} {from} {result} {asked_old} {asked_new} {old} {new} {out_old} {out_new} rest a = record {
  bytes = a.bytes;
  same = ap (λ s. s ∷ map seen rest) a.same;
  does = a.does;
  asks = record { made = a.asks.made; own = steps_left (devices_of (seen old)) (flat_map (λ s. devices_of s) (map seen rest)) a.asks.made a.asks.own; is = a.asks.is };
  cause = cause_head (map faults rest) result a.cause;
}

pub slot_behind : {R T E : Type 0} {seen : R → Seen WordStep} {faults : R → ℕ} {obeys : Bool} {slot from : ℕ} {result : Result T E}
    {asked_old asked_new : List Asked} {olds news : List R} {out_old out_new : List ℕ} (first : R)
    → ReadsSlot seen faults obeys slot from result asked_old olds out_old asked_new news out_new
    → ReadsSlot seen faults obeys (suc slot) from result asked_old (first ∷ olds) out_old asked_new (first ∷ news) out_new
slot_behind {R} {T} {E} {seen} {faults} {obeys} {slot} {from} {result} {asked_old} {asked_new} {olds} {news} {out_old} {out_new} first h = record {
  bytes = h.bytes;
  same = ap (λ ss. seen first ∷ ss) h.same;
  does = h.does;
  asks = record { made = h.asks.made; own = steps_right (devices_of (seen first)) (flat_map (λ s. devices_of s) (map seen olds)) h.asks.made h.asks.own; is = h.asks.is };
  cause = cause_behind (faults first) result h.cause;
}

pub slot_at : {R T E : Type 0} {seen : R → Seen WordStep} {faults : R → ℕ} {obeys : Bool} {from : ℕ} {result : Result T E}
    {asked_old asked_new : List Asked} {old new : R} {out_old out_new : List ℕ} (slot : ℕ) (regions : List R) → slot < length regions → old ≡ get_or regions slot old
    → AreaRead seen faults obeys from result asked_old old out_old asked_new new out_new
    → ReadsSlot seen faults obeys slot from result asked_old regions out_old asked_new (set regions slot new) out_new
slot_at slot [] l is a = absurd (omega arith)
slot_at {R} {T} {E} {seen} {faults} {obeys} {from} {result} {asked_old} {asked_new} {old} {new} {out_old} {out_new} zero (r ∷ rest) l is a =
    subst (λ x. ReadsSlot seen faults obeys 0 from result asked_old (x ∷ rest) out_old asked_new (new ∷ rest) out_new) is (slot_head rest a)
slot_at (suc slot) (r ∷ rest) l is a = slot_behind r (slot_at slot rest (omega arith) is a)

-- Cells in which one value is replaced.

somes-set : {X : Type 0} (cells : List (Option X)) (i : ℕ) (x : X) → AreFull cells → i < length cells → somes (set cells i (Some x)) ≡ set (somes cells) i x
somes-set [] i x full l = absurd (omega arith)
somes-set (None ∷ cells) i x full l = absurd (omega (arith, somes_few cells))
somes-set (Some y ∷ cells) zero x full l = refl
somes-set (Some y ∷ cells) (suc i) x full l = ap (λ xs. y ∷ xs) (somes-set cells i x (omega arith) (omega arith))

pub cells_set : {X : Type 0} (cells lent : List (Option X)) (i : ℕ) (x : X) → lent ≡ cells → refill (length cells) cells (set lent i (Some x)) ≡ set cells i (Some x)
cells_set {X} cells lent i x e =
    ap (λ ls. refill (length cells) cells (set ls i (Some x))) e ∙ refilled cells (set cells i (Some x)) (length-set cells i (Some x))

pub full_set : {X : Type 0} (cells lent : List (Option X)) (i : ℕ) (x : X) → lent ≡ cells → AreFull cells → i < length cells → AreFull (refill (length cells) cells (set lent i (Some x)))
full_set {X} cells lent i x e full l =
    let many : length (set (somes cells) i x) ≡ length (somes cells) = length-set (somes cells) i x in
    let few : length (set cells i (Some x)) ≡ length cells = length-set cells i (Some x) in
    subst (λ cs. AreFull cs) (sym (cells_set cells lent i x e)) (ap (λ (xs : List X). length xs) (somes-set cells i x full l) ∙ many ∙ full ∙ sym few)

pub somes_now : {X : Type 0} (cells lent : List (Option X)) (i : ℕ) (x : X) → lent ≡ cells → AreFull cells → i < length cells
    → somes (refill (length cells) cells (set lent i (Some x))) ≡ set (somes cells) i x
somes_now cells lent i x e full l = ap (λ cs. somes cs) (cells_set cells lent i x e) ∙ somes-set cells i x full l

-- Reads one after another.

pub reads_then : {T E : Type 0} {later : List SlotRead} (earlier : List SlotRead) {asked_old asked_mid asked_new : List Asked} (result : Result T E)
    → asked_mid ≡ all_allowed read_asks earlier ++ asked_old → DoesReads later result asked_mid asked_new → DoesReads (later ++ earlier) result asked_old asked_new
reads_then {T} {E} {later} earlier {asked_old} {asked_mid} {asked_new} (Ok t) mid h = record {
  all = h.all ∙ ap (λ s. all_allowed read_asks later ++ s) mid ∙ sym (append_assoc (all_allowed read_asks later) (all_allowed read_asks earlier) asked_old)
      ∙ ap (λ s. s ++ asked_old) (sym (all_allowed-append read_asks later earlier));
  front = tt;
}
reads_then {T} {E} {later} earlier {asked_old} {asked_mid} {asked_new} (Err e) mid h =
    let b = h.front in
    let some : 0 < length (drop b.left later) = omega (arith, length-drop b.left later, b.within) in
    let front : drop b.left (later ++ earlier) ≡ drop b.left later ++ earlier = drop-append-le b.left later earlier (omega (arith, b.within)) in
    record {
      all = tt;
      front = record {
        left = b.left;
        within = omega (arith, length-append later earlier, b.within);
        asked = b.asked ∙ ap (λ s. last_refused read_asks (drop b.left later) ++ s) mid ∙ refused_behind read_asks (drop b.left later) earlier asked_old some
            ∙ ap (λ xs. last_refused read_asks xs ++ asked_old) (sym front);
      };
    }

pub reads_first : {T E : Type 0} {earlier : List SlotRead} {asked_old asked_new : List Asked} {result : Result T E} (later : List SlotRead) (e : E) → result ≡ Err e
    → ReadsStop earlier asked_old asked_new → DoesReads (later ++ earlier) result asked_old asked_new
reads_first {T} {E} {earlier} {asked_old} {asked_new} {result} later e is h =
    let same : drop (length later + h.left) (later ++ earlier) ≡ drop h.left earlier = drop-append-add later earlier h.left in
    subst (λ r. DoesReads (later ++ earlier) r asked_old asked_new) (sym is)
    record {
      all = tt;
      front = record {
        left = length later + h.left;
        within = omega (arith, length-append later earlier, h.within);
        asked = h.asked ∙ ap (λ xs. last_refused read_asks xs ++ asked_old) (sym same);
      };
    }

pub asks_both : {devices : List ℕ} {asked_old asked_mid asked_new : List Asked} → AsksOnly devices asked_old asked_mid → AsksOnly devices asked_mid asked_new → AsksOnly devices asked_old asked_new
asks_both {devices} {asked_old} a b = record {
  made = b.made ++ a.made;
  own = own_both devices b.made a.made b.own a.own;
  is = b.is ∙ ap (λ s. b.made ++ s) a.is ∙ sym (append_assoc b.made a.made asked_old);
}

-- what regions hold is told by what is seen of them
pub words_seen : {R : Type 0} (seen : R → Seen WordStep) (regions : List R) → words_in seen regions ≡ map (λ s. words_of s) (map seen regions)
words_seen seen [] = refl
words_seen seen (r ∷ regions) = ap (λ ws. words_of (seen r) ∷ ws) (words_seen seen regions)

pub devices_seen : {R : Type 0} (seen : R → Seen WordStep) (regions : List R) → devices_in seen regions ≡ map (λ s. s.device) (map seen regions)
devices_seen seen [] = refl
devices_seen seen (r ∷ regions) = ap (λ ds. (seen r).device ∷ ds) (devices_seen seen regions)

-- Payloads of several slots.

abbrev pub Sized : List (List ℕ) → Type 0
Sized [] = Unit {0}
Sized (words ∷ slots) = (length words ≡ 518) × Sized slots

pub all_sized : {X R : Type 0} (region : X → R) (words : R → List ℕ) → ((x : X) → length (words (region x)) ≡ 518) → (xs : List X) → Sized (map words (map region xs))
all_sized region words sized [] = tt
all_sized region words sized (x ∷ xs) = (sized x, all_sized region words sized xs)

areas_at : (slots : List (List ℕ)) (k j : ℕ) → Sized slots → k < length slots → j < 4096
    → get_or (flat_map area_of slots) (4096 * k + j) 0 ≡ get_or (area_of (get_or slots k [])) j 0
areas_at [] k j sized l m = absurd (omega arith)
areas_at (w ∷ slots) zero j sized l m =
    let at : 4096 * 0 + j ≡ j = omega arith in
    ap (λ i. get_or (area_of w ++ flat_map area_of slots) i 0) at ∙ get_or_append_left (area_of w) (flat_map area_of slots) 0 j (omega (arith, length-area w sized.0))
areas_at (w ∷ slots) (suc k) j sized l m =
    let at : 4096 * suc k + j ≡ length (area_of w) + (4096 * k + j) = omega (arith, length-area w sized.0) in
    ap (λ i. get_or (area_of w ++ flat_map area_of slots) i 0) at ∙ get_or-append-add (area_of w) (flat_map area_of slots) (4096 * k + j) 0
    ∙ areas_at slots k j sized.1 (omega arith) m

pub length-areas : (slots : List (List ℕ)) → Sized slots → length (flat_map area_of slots) ≡ 4096 * length slots
length-areas [] sized = refl
length-areas (w ∷ slots) sized = omega (arith, length-append (area_of w) (flat_map area_of slots), length-area w sized.0, length-areas slots sized.1)

sized_at : (slots : List (List ℕ)) (k : ℕ) → Sized slots → k < length slots → length (area_of (get_or slots k [])) ≡ 4096
sized_at [] k sized l = absurd (omega arith)
sized_at (w ∷ slots) zero sized l = length-area w sized.0
sized_at (w ∷ slots) (suc k) sized l = sized_at slots k sized.1 (omega arith)

length-front : (n : ℕ) (xs : List ℕ) → length (take n xs) ≤ length xs
length-front zero [] = omega arith
length-front zero (x ∷ xs) = omega arith
length-front (suc n) [] = omega arith
length-front (suc n) (x ∷ xs) = omega (arith, length-front n xs)

length-front-n : (n : ℕ) (xs : List ℕ) → length (take n xs) ≤ n
length-front-n zero [] = omega arith
length-front-n zero (x ∷ xs) = omega arith
length-front-n (suc n) [] = omega arith
length-front-n (suc n) (x ∷ xs) = omega (arith, length-front-n n xs)

-- the slots of a place of the payload
pub slot_within : (count from len : ℕ) (slots : List (List ℕ)) → Sized slots → 0 < len → from + len ≤ length (take count (flat_map area_of slots)) → from / 4096 < length slots
slot_within count from len slots sized some within =
    omega (arith, length-areas slots sized, length-front count (flat_map area_of slots))

pub next_within : (count from len : ℕ) (slots : List (List ℕ)) → Sized slots → 4096 - from % 4096 < len → from + len ≤ length (take count (flat_map area_of slots)) → from / 4096 + 1 < length slots
next_within count from len slots sized some within =
    omega (arith, length-areas slots sized, length-front count (flat_map area_of slots))

-- at most 4096 bytes of a payload stand in at most two slots
pub payload_parts : (count from len near : ℕ) (slots : List (List ℕ)) → Sized slots → 0 < len → len ≤ 4096 → near ≡ min len (4096 - from % 4096)
    → from + len ≤ length (take count (flat_map area_of slots))
    → take near (drop (from % 4096) (area_of (get_or slots (from / 4096) []))) ++ take (len - near) (drop 0 (area_of (get_or slots (from / 4096 + 1) [])))
    ≡ take len (drop from (take count (flat_map area_of slots)))
payload_parts count from len near slots sized some few is within =
    let all : List ℕ = flat_map area_of slots in
    let payload : List ℕ = take count all in
    let slot : ℕ = from / 4096 in
    let at : ℕ = from % 4096 in
    let first : List ℕ = area_of (get_or slots slot []) in
    let second : List ℕ = area_of (get_or slots (slot + 1) []) in
    let one : List ℕ = take near (drop at first) in
    let two : List ℕ = take (len - near) (drop 0 second) in
    let here : slot < length slots = slot_within count from len slots sized some within in
    let full : length first ≡ 4096 = sized_at slots slot sized here in
    let size_one : length one ≡ near = length-take-le near (drop at first) (omega (arith, length-drop at first, full)) in
    let size_two : length two ≡ len - near =
    elim (cases_lt near len) [
      | inl more ↦
          let next : slot + 1 < length slots = next_within count from len slots sized (omega arith) within in
          length-take-le (len - near) (drop 0 second) (omega (arith, length-drop 0 second, sized_at slots (slot + 1) sized next))
      | inr all_near ↦
          let none : len - near ≡ 0 = omega arith in
          let small : length two ≤ len - near = length-front-n (len - near) (drop 0 second) in
          omega arith
    ] in
    let room : from + len ≤ length payload = within in
    let size : length (take len (drop from payload)) ≡ len = length-take-le len (drop from payload) (omega (arith, length-drop from payload)) in
    let under : length payload ≤ count = length-front-n count all in
    ext_get_or 0 (one ++ two) (take len (drop from payload))
    (omega (arith, length-append one two))
    (λ i l.
    let il : i < len = omega (arith, length-append one two) in
    let right : get_or (take len (drop from payload)) i 0 ≡ get_or all (from + i) 0 =
    get_or-take len (drop from payload) i 0 il ∙ get_or-drop from payload i 0 ∙ get_or-take count all (from + i) 0 (omega arith) in
    elim (cases_lt i near) [
      | inl low ↦
          let place : from + i ≡ 4096 * slot + (at + i) = omega arith in
          get_or_append_left one two 0 i (omega arith) ∙ get_or-take near (drop at first) i 0 low ∙ get_or-drop at first i 0
          ∙ sym (areas_at slots slot (at + i) sized here (omega arith)) ∙ ap (λ n. get_or all n 0) (sym place) ∙ sym right
      | inr high ↦
          let j : ℕ = i - near in
          let next : slot + 1 < length slots = next_within count from len slots sized (omega arith) within in
          let place : from + i ≡ 4096 * (slot + 1) + j = omega arith in
          let none : 0 + j ≡ j = omega arith in
          get_or-append_right one two near i 0 size_one high ∙ get_or-take (len - near) (drop 0 second) j 0 (omega arith) ∙ get_or-drop 0 second j 0
          ∙ ap (λ n. get_or second n 0) none
          ∙ sym (areas_at slots (slot + 1) j sized next (omega arith)) ∙ ap (λ n. get_or all n 0) (sym place) ∙ sym right
    ])

-- a call that stopped in its reads
pub reads_retold : {T E U F : Type 0} {reads : List SlotRead} {asked_old asked_new : List Asked} {result : Result U F} (e : E) (f : F) → result ≡ Err f
    → DoesReads {T = T} {E = E} reads (Err e) asked_old asked_new → DoesReads reads result asked_old asked_new
reads_retold {T} {E} {U} {F} {reads} {asked_old} {asked_new} e f is h =
    subst (λ r. DoesReads reads r asked_old asked_new) (sym is) record { all = tt; front = h.front }

pub length_same : {R : Type 0} (seen : R → Seen WordStep) (olds news : List R) → map seen news ≡ map seen olds → length news ≡ length olds
length_same seen olds news e = sym (length-map news seen) ∙ ap (λ (ss : List (Seen WordStep)). length ss) e ∙ length-map olds seen

-- Two slots, one after another.

pub does_two : {R T E U F : Type 0} {seen : R → Seen WordStep} {faults : R → ℕ} {obeys : Bool} {u : U} {asked_old asked_mid asked_new : List Asked} {olds mids news : List R}
    {near far out_near out_far : List ℕ} (from len middle : ℕ) (result : Result T E) → middle ≡ min len (4096 - from % 4096) → length near ≡ middle → length far ≡ len - middle
    → ReadsSlot {T = U} {E = F} seen faults obeys (from / 4096) (from % 4096) (Ok u) asked_old olds near asked_mid mids out_near
    → ReadsSlot seen faults obeys (from / 4096 + 1) 0 result asked_mid mids far asked_new news out_far
    → IsTrue obeys → DoesReads (payload_reads (devices_in seen olds) from len) result asked_old asked_new
does_two {R} {T} {E} {U} {F} {seen} {faults} {obeys} {u} {asked_old} {asked_mid} {asked_new} {olds} {mids} {news} {near} {far} from len middle result is size_near size_far first second o =
    let slot : ℕ = from / 4096 in
    let at : ℕ = from % 4096 in
    let devices : devices_in seen mids ≡ devices_in seen olds = devices_seen seen mids ∙ ap (λ ss. map (λ s. s.device) ss) first.same ∙ sym (devices_seen seen olds) in
    let rest : 0 + length far ≡ len - middle = omega arith in
    let later : DoesReads (area_reads (get_or (devices_in seen olds) (slot + 1) 0) 0 (len - middle)) result asked_mid asked_new =
    subst (λ n. DoesReads (area_reads (get_or (devices_in seen olds) (slot + 1) 0) 0 n) result asked_mid asked_new) rest
    (subst (λ ds. DoesReads (area_reads (get_or ds (slot + 1) 0) 0 (0 + length far)) result asked_mid asked_new) devices (second.does o)) in
    let earlier : asked_mid ≡ all_allowed read_asks (area_reads (get_or (devices_in seen olds) slot 0) at (at + middle)) ++ asked_old =
    (first.does o).all ∙ ap (λ n. all_allowed read_asks (area_reads (get_or (devices_in seen olds) slot 0) at (at + n)) ++ asked_old) size_near in
    subst (λ m. DoesReads (area_reads (get_or (devices_in seen olds) (slot + 1) 0) 0 (len - m) ++ area_reads (get_or (devices_in seen olds) slot 0) at (at + m)) result asked_old asked_new) is
    (reads_then (area_reads (get_or (devices_in seen olds) slot 0) at (at + middle)) result earlier later)

-- the first alone, of which all was read
pub does_one : {R T E : Type 0} {seen : R → Seen WordStep} {faults : R → ℕ} {obeys : Bool} {asked_old asked_new : List Asked} {olds news : List R}
    {near out_near : List ℕ} (from len middle : ℕ) (result : Result T E) → middle ≡ min len (4096 - from % 4096) → length near ≡ middle → len ≤ middle
    → ReadsSlot seen faults obeys (from / 4096) (from % 4096) result asked_old olds near asked_new news out_near
    → IsTrue obeys → DoesReads (payload_reads (devices_in seen olds) from len) result asked_old asked_new
does_one {R} {T} {E} {seen} {faults} {obeys} {asked_old} {asked_new} {olds} {news} {near} from len middle result is size_near all first o =
    let slot : ℕ = from / 4096 in
    let at : ℕ = from % 4096 in
    let none : 0 ≡ len - middle = omega arith in
    subst (λ m. DoesReads (area_reads (get_or (devices_in seen olds) (slot + 1) 0) 0 (len - m) ++ area_reads (get_or (devices_in seen olds) slot 0) at (at + m)) result asked_old asked_new) is
    (subst (λ n. DoesReads (area_reads (get_or (devices_in seen olds) (slot + 1) 0) 0 n ++ area_reads (get_or (devices_in seen olds) slot 0) at (at + middle)) result asked_old asked_new) none
    (subst (λ n. DoesReads (area_reads (get_or (devices_in seen olds) slot 0) at (at + n)) result asked_old asked_new) size_near (first.does o)))

-- the first alone, which stopped
pub does_none : {R T E U F : Type 0} {seen : R → Seen WordStep} {faults : R → ℕ} {obeys : Bool} {e : E} {asked_old asked_new : List Asked} {olds news : List R}
    {near out_near : List ℕ} (from len middle : ℕ) (result : Result U F) (f : F) → result ≡ Err f → middle ≡ min len (4096 - from % 4096) → length near ≡ middle
    → ReadsSlot {T = T} {E = E} seen faults obeys (from / 4096) (from % 4096) (Err e) asked_old olds near asked_new news out_near
    → IsTrue obeys → DoesReads (payload_reads (devices_in seen olds) from len) result asked_old asked_new
does_none {R} {T} {E} {U} {F} {seen} {faults} {obeys} {e} {asked_old} {asked_new} {olds} {news} {near} from len middle result f err is size_near first o =
    let slot : ℕ = from / 4096 in
    let at : ℕ = from % 4096 in
    let stop : ReadsStop (area_reads (get_or (devices_in seen olds) slot 0) at (at + middle)) asked_old asked_new =
    subst (λ n. ReadsStop (area_reads (get_or (devices_in seen olds) slot 0) at (at + n)) asked_old asked_new) size_near (first.does o).front in
    subst (λ m. DoesReads (area_reads (get_or (devices_in seen olds) (slot + 1) 0) 0 (len - m) ++ area_reads (get_or (devices_in seen olds) slot 0) at (at + m)) result asked_old asked_new) is
    (reads_first (area_reads (get_or (devices_in seen olds) (slot + 1) 0) 0 (len - middle)) f err stop)

pub asks_two : {R : Type 0} {asked_old asked_mid asked_new : List Asked} (seen : R → Seen WordStep) (olds mids : List R) → map seen mids ≡ map seen olds
    → AsksOnly (flat_map devices_of (map seen olds)) asked_old asked_mid → AsksOnly (flat_map devices_of (map seen mids)) asked_mid asked_new
    → AsksOnly (flat_map devices_of (map seen olds)) asked_old asked_new
asks_two {R} {asked_old} {asked_mid} {asked_new} seen olds mids e a b =
    asks_both a (subst (λ ss. AsksOnly (flat_map devices_of ss) asked_mid asked_new) e b)

none_taken : (xs : List ℕ) → take 0 xs ≡ []
none_taken [] = refl
none_taken (x ∷ xs) = refl

nothing : (xs : List ℕ) → length xs ≤ 0 → xs ≡ []
nothing [] l = refl
nothing (x ∷ xs) l = absurd (omega arith)

pub bytes_two : {R : Type 0} {out_near out_far : List ℕ} (seen : R → Seen WordStep) (near far : List ℕ) (count from len middle : ℕ) (olds mids : List R) → Sized (words_in seen olds) → 0 < len → len ≤ 4096
    → middle ≡ min len (4096 - from % 4096) → from + len ≤ length (take count (flat_map area_of (words_in seen olds))) → map seen mids ≡ map seen olds
    → length near ≡ middle → length far ≡ len - middle
    → out_near ≡ take (length near) (drop (from % 4096) (area_of (get_or (words_in seen olds) (from / 4096) [])))
    → out_far ≡ take (length far) (drop 0 (area_of (get_or (words_in seen mids) (from / 4096 + 1) [])))
    → out_near ++ out_far ≡ take len (drop from (take count (flat_map area_of (words_in seen olds))))
bytes_two {R} {out_near} {out_far} seen near far count from len middle olds mids sized some few is within same size_near size_far first second =
    let words : words_in seen mids ≡ words_in seen olds = words_seen seen mids ∙ ap (λ ss. map (λ s. words_of s) ss) same ∙ sym (words_seen seen olds) in
    let slots : List (List ℕ) = words_in seen olds in
    ap (λ xs. xs ++ out_far) (first ∙ ap (λ n. take n (drop (from % 4096) (area_of (get_or slots (from / 4096) [])))) size_near)
    ∙ ap (λ xs. take middle (drop (from % 4096) (area_of (get_or slots (from / 4096) []))) ++ xs)
    (second ∙ ap (λ n. take n (drop 0 (area_of (get_or (words_in seen mids) (from / 4096 + 1) [])))) size_far ∙ ap (λ ws. take (len - middle) (drop 0 (area_of (get_or ws (from / 4096 + 1) [])))) words)
    ∙ payload_parts count from len middle slots sized some few is within

pub bytes_one : {R : Type 0} {out_near : List ℕ} (seen : R → Seen WordStep) (near far : List ℕ) (count from len middle : ℕ) (olds : List R) → Sized (words_in seen olds) → 0 < len → len ≤ 4096
    → middle ≡ min len (4096 - from % 4096) → from + len ≤ length (take count (flat_map area_of (words_in seen olds))) → length near ≡ middle → length far ≡ len - middle → len ≤ middle
    → out_near ≡ take (length near) (drop (from % 4096) (area_of (get_or (words_in seen olds) (from / 4096) [])))
    → out_near ++ far ≡ take len (drop from (take count (flat_map area_of (words_in seen olds))))
bytes_one {R} {out_near} seen near far count from len middle olds sized some few is within size_near size_far all first =
    let slots : List (List ℕ) = words_in seen olds in
    let second : List ℕ = drop 0 (area_of (get_or slots (from / 4096 + 1) [])) in
    let none : len - middle ≡ 0 = omega arith in
    ap (λ xs. xs ++ far) (first ∙ ap (λ n. take n (drop (from % 4096) (area_of (get_or slots (from / 4096) [])))) size_near)
    ∙ ap (λ xs. take middle (drop (from % 4096) (area_of (get_or slots (from / 4096) []))) ++ xs)
    (nothing far (omega arith) ∙ sym (ap (λ n. take n second) none ∙ none_taken second))
    ∙ payload_parts count from len middle slots sized some few is within
