-- A queue's numbers and its devices.
use Rattle.std.proofs.Common.{ℕ, zero, suc, ◌+◌, ◌<◌, ◌≤◌, ◌≡◌, ◌∙◌, ◌↔◌, inl, inr, List, [], ◌∷◌, ◌++◌, length, map, refl, sym, ap, subst, arith, get_or, length-append}
use Rattle.std.proofs.Math.ListN.{set}
use Rattle.std.specs.Bool.{IsTrue}
use Rattle.std.proofs.Math.Dec.{eqb}
use Rattle.std.proofs.lemmas.Bool.{cases_lt, eqb-true, eq-eqb}
use Rattle.std.proofs.lemmas.List.{append-nil, length-map, length-set}
use Rattle.cfs_pmem.specs.Images.{Seen, WordStep}
use Rattle.cfs_slot.specs.Regions.{devices_in, slot_numbers}
use Rattle.cfs_slot.specs.Tails.{queue_of, number_of, AreAbove}
use Rattle.cfs_queue.specs.Queue.{AreOwn, AreRising, Held, IsChain, IsOf, IsQueue, Slots, all_out, devices_from, devices_of, first_of, free, free_in, out, out_from}
use Rattle.cfs_queue.specs.Taking.{TakesFirst, TakesMany, took_none, took_one}
use Rattle.cfs_queue.proofs.RowLemmas.{took_first}

-- Devices and numbers.

pub own_number : (q i device : ℕ) → device ≡ first_of q + i → i < 16 → number_of device ≡ i
own_number q i device is few = omega arith

pub own_is : (q i device : ℕ) → device ≡ first_of q + i → i < 16 → IsOf q device
own_is q i device is few = (omega arith, omega arith)

pub own_queue : (q device : ℕ) → IsOf q device → queue_of device ≡ q
own_queue q device own = omega (arith, own.0, own.1)

pub own_device : (q device : ℕ) → IsOf q device → (device ≡ first_of q + number_of device) × (number_of device < 16)
own_device q device own = (omega (arith, own.0, own.1), omega arith)

-- Slots at their numbers.

pub own_at : {X : Type 0} (seen : X → Seen WordStep) (first : ℕ) (held : List (Held X)) (i : ℕ) (x : X) → AreOwn seen first held → i < length held
    → get_or held i (out 0) ≡ free x → (seen x).device ≡ first + i
own_at seen first [] i x own l is = absurd (omega arith)
own_at seen first (free y ∷ held) zero x own l is = let same : y ≡ x = cc in let e : (seen x).device ≡ first = ap (λ z. (seen z).device) (sym same) ∙ own.0 in omega arith
own_at seen first (out place ∷ held) zero x own l is = cc
own_at seen first (free y ∷ held) (suc i) x own l is = let e = own_at seen (first + 1) held i x own.1 (omega arith) is in omega (arith, e)
own_at seen first (out place ∷ held) (suc i) x own l is = let e = own_at seen (first + 1) held i x own (omega arith) is in omega (arith, e)

pub own_out : {X : Type 0} (seen : X → Seen WordStep) (first : ℕ) (held : List (Held X)) (i place : ℕ) → AreOwn seen first held → AreOwn seen first (set held i (out place))
own_out seen first [] i place own = own
own_out seen first (free y ∷ held) zero place own = own.1
own_out seen first (out p ∷ held) zero place own = own
own_out seen first (free y ∷ held) (suc i) place own = (own.0, own_out seen (first + 1) held i place own.1)
own_out seen first (out p ∷ held) (suc i) place own = own_out seen (first + 1) held i place own

pub own_free : {X : Type 0} (seen : X → Seen WordStep) (first : ℕ) (held : List (Held X)) (i : ℕ) (x : X) → AreOwn seen first held → (seen x).device ≡ first + i
    → AreOwn seen first (set held i (free x))
own_free seen first [] i x own is = own
own_free seen first (free y ∷ held) zero x own is = let e : (seen x).device ≡ first = omega (arith, is) in (e, own.1)
own_free seen first (out p ∷ held) zero x own is = let e : (seen x).device ≡ first = omega (arith, is) in (e, own)
own_free seen first (free y ∷ held) (suc i) x own is = (own.0, own_free seen (first + 1) held i x own.1 (omega (arith, is)))
own_free seen first (out p ∷ held) (suc i) x own is = own_free seen (first + 1) held i x own (omega (arith, is))

-- Queues.

pub queue_out : {X : Type 0} (seen : X → Seen WordStep) (q : ℕ) (held : List (Held X)) (i place : ℕ) → IsQueue seen q held → IsQueue seen q (set held i (out place))
queue_out seen q held i place is = record {
  sixteen = length-set held i (out place) ∙ is.sixteen;
  own = own_out seen (first_of q) held i place is.own;
}

pub queue_free : {X : Type 0} (seen : X → Seen WordStep) (q : ℕ) (held : List (Held X)) (x : X) → IsQueue seen q held → IsOf q (seen x).device
    → IsQueue seen q (set held (number_of (seen x).device) (free x))
queue_free seen q held x is of = record {
  sixteen = length-set held (number_of (seen x).device) (free x) ∙ is.sixteen;
  own = own_free seen (first_of q) held (number_of (seen x).device) x is.own (own_device q (seen x).device of).0;
}

length-devices : (n first : ℕ) → length (devices_from n first) ≡ n
length-devices zero first = refl
length-devices (suc n) first = ap (λ k. suc k) (length-devices n (first + 1))

-- where all are free
all_own : {X : Type 0} (seen : X → Seen WordStep) (n first : ℕ) (slots : List X) → devices_in seen slots ≡ devices_from n first → AreOwn seen first (map (λ x. free x) slots)
all_own seen n first [] e = tt
all_own seen zero first (x ∷ slots) e = cc
all_own seen (suc n) first (x ∷ slots) e =
    let this : (seen x).device ≡ first = cc in
    let rest : devices_in seen slots ≡ devices_from n (first + 1) = cc in
    (this, all_own seen n (first + 1) slots rest)

pub queue_new : {X : Type 0} (seen : X → Seen WordStep) (q : ℕ) (slots : List X) → devices_in seen slots ≡ devices_of q → IsQueue seen q (map (λ x. free x) slots)
queue_new seen q slots e = record {
  sixteen = length-map slots (λ x. free x) ∙ sym (length-map slots (λ x. (seen x).device)) ∙ ap (λ (l : List ℕ). length l) e ∙ length-devices 16 (first_of q);
  own = all_own seen 16 (first_of q) slots e;
}

-- One slot is taken.

pub record Took {X : Type 0} (seen : X → Seen WordStep) (before : Slots X) (slot : X) (held : List (Held X)) : Type 0 where
  pub lowest : free_in before.held ≡ slot ∷ free_in held
  pub own : IsOf before.number (seen slot).device
  pub number : number_of (seen slot).device < 16
  pub taken : held ≡ set before.held (number_of (seen slot).device) (out 0)
  pub queue : IsQueue seen before.number held

pub took : {X : Type 0} (seen : X → Seen WordStep) (q : ℕ) (old new : List (Held X)) (slot : X) → IsQueue seen q old → TakesFirst old slot new
    → Took seen (record { number = q; held = old }) slot new
took seen q old new slot is takes =
    let device : (seen slot).device ≡ first_of q + takes.number = own_at seen (first_of q) old takes.number slot is.own takes.within takes.there in
    let few : takes.number < 16 = omega (arith, takes.within, is.sixteen) in
    let number : number_of (seen slot).device ≡ takes.number = own_number q takes.number (seen slot).device device few in
    record {
      lowest = takes.first;
      own = own_is q takes.number (seen slot).device device few;
      number = omega (arith, number, few);
      taken = takes.after ∙ ap (λ n. set old n (out 0)) (sym number);
      queue = subst (λ held. IsQueue seen q held) (sym takes.after) (queue_out seen q old takes.number 0 is);
    }

-- Many are taken.

pub many_queue : {X : Type 0} (seen : X → Seen WordStep) (q : ℕ) {old new : List (Held X)} {slots : List X} → IsQueue seen q old → TakesMany old slots new → IsQueue seen q new
many_queue seen q is took_none = is
many_queue seen q is (took_one {old = old} {mid = mid} {slot = slot} first rest) = many_queue seen q (took seen q old mid slot is first).queue rest

pub many_out : {X : Type 0} (seen : X → Seen WordStep) (q : ℕ) {old new : List (Held X)} {slots : List X} → IsQueue seen q old → TakesMany old slots new
    → new ≡ all_out (slot_numbers seen slots) old
many_out seen q is took_none = refl
many_out seen q is (took_one {old = old} {mid = mid} {slot = slot} {slots = slots} first rest) =
    let one = took seen q old mid slot is first in
    many_out seen q one.queue rest ∙ ap (λ held. all_out (slot_numbers seen slots) held) one.taken

-- Free slots ascend.

rising_lower : (q from lower : ℕ) (devices : List ℕ) → lower ≤ from → AreRising q from devices → AreRising q lower devices
rising_lower q from lower [] l h = tt
rising_lower q from lower (d ∷ devices) l h = (omega (arith, h.0), h.1, h.2)

rising_front : (q from : ℕ) (a b : List ℕ) → AreRising q from (a ++ b) → AreRising q from a
rising_front q from [] b h = tt
rising_front q from (d ∷ a) b h = (h.0, h.1, rising_front q (d + 1) a b h.2)

rising_above : (q first : ℕ) (devices : List ℕ) → 323 ≤ first → queue_of first ≡ q → AreRising q (first + 1) devices → AreAbove first devices
rising_above q first [] l is h = tt
rising_above q first (d ∷ devices) l is h = (l, omega (arith, h.0), h.1 ∙ sym is, rising_above q d devices (omega (arith, h.0)) h.1 h.2)

pub rising_chain : (q : ℕ) (devices : List ℕ) → 0 < length devices → AreRising q (first_of q) devices → IsChain devices
rising_chain q [] some h = omega arith
rising_chain q (d ∷ devices) some h = rising_above q d devices (omega (arith, h.0)) h.1 h.2

free_rising : {X : Type 0} (seen : X → Seen WordStep) (q first : ℕ) (held : List (Held X)) → AreOwn seen first held → first_of q ≤ first → first + length held ≤ first_of q + 16
    → AreRising q first (devices_in seen (free_in held))
free_rising seen q first [] own low high = tt
free_rising seen q first (free x ∷ held) own low high =
    let device : (seen x).device ≡ first = own.0 in
    let of : IsOf q (seen x).device = (omega (arith, device), omega (arith, device)) in (
      omega (arith, device),
      own_queue q (seen x).device of,
      rising_lower q (first + 1) ((seen x).device + 1) (devices_in seen (free_in held)) (omega (arith, device)) (free_rising seen q (first + 1) held own.1 (omega arith) (omega arith)),
    )
free_rising seen q first (out place ∷ held) own low high =
    rising_lower q (first + 1) first (devices_in seen (free_in held)) (omega arith) (free_rising seen q (first + 1) held own (omega arith) (omega arith))

devices_append : {X : Type 0} (seen : X → Seen WordStep) (a b : List X) → devices_in seen (a ++ b) ≡ devices_in seen a ++ devices_in seen b
devices_append seen [] b = refl
devices_append seen (x ∷ a) b = ap (λ l. (seen x).device ∷ l) (devices_append seen a b)

pub many_rising : {X : Type 0} (seen : X → Seen WordStep) (q : ℕ) {old new : List (Held X)} {slots : List X} → IsQueue seen q old → TakesMany old slots new
    → AreRising q (first_of q) (devices_in seen slots)
many_rising seen q {old = old} {new = new} {slots = slots} is many =
    rising_front q (first_of q) (devices_in seen slots) (devices_in seen (free_in new))
    (subst (λ l. AreRising q (first_of q) l) (ap (λ l. devices_in seen l) (took_first many) ∙ devices_append seen slots (free_in new))
    (free_rising seen q (first_of q) old is.own (omega arith) (omega (arith, is.sixteen))))

-- How many are free.

pub together : {X : Type 0} (n : ℕ) (held : List (Held X)) → length (free_in held) + length (out_from n held) ≡ length held
together n [] = refl
together n (free x ∷ held) = omega (arith, together (n + 1) held)
together n (out place ∷ held) = omega (arith, together (n + 1) held)

true_eqb : (n m : ℕ) → IsTrue (eqb n m) → n ≡ m
true_eqb n m t = eqb-true n m t

eqb_true : (n m : ℕ) → n ≡ m → IsTrue (eqb n m)
eqb_true n m e = eq-eqb n m e

none_left : {X : Type 0} (l : List X) → length l ≡ 0 → l ≡ []
none_left [] e = refl
none_left (x ∷ l) e = absurd (omega arith)

-- The tests of a count.

pub full_is : {X : Type 0} (held : List (Held X)) (n : ℕ) → n ≡ length (free_in held) → IsTrue (eqb n 0) ↔ (free_in held ≡ [])
full_is held n is = (
  λ t. none_left (free_in held) (sym is ∙ true_eqb n 0 t),
  λ e. eqb_true n 0 (is ∙ ap (λ l. length l) e),
)

pub whole_is : {X : Type 0} (held : List (Held X)) (n : ℕ) → n ≡ length (free_in held) → length held ≡ 16 → IsTrue (eqb n 16) ↔ (out_from 0 held ≡ [])
whole_is held n is sixteen = (
  λ t. none_left (out_from 0 held) (let e : n ≡ 16 = true_eqb n 16 t in omega (arith, e, is, sixteen, together 0 held)),
  λ e. eqb_true n 16 (omega (arith, is, sixteen, together 0 held, ap (λ (l : List (ℕ × ℕ)). length l) e)),
)

pub same_slots : {X : Type 0} (n : ℕ) (held later : List (Held X)) (q : Slots X) → n ≡ q.number → held ≡ later
    → ◌≡◌ {A = Slots X} (record { number = n; held = held }) (record { number = q.number; held = later })
same_slots n held later q e h = λ i. record { number = e i; held = h i }

-- All that was asked for was taken.

pub many_count : {X : Type 0} {old new : List (Held X)} {slots : List X} (n : ℕ) → n ≤ length (free_in old) → TakesMany old slots new → length slots ≤ n
    → (length slots < n → free_in new ≡ []) → length slots ≡ n
many_count {old = old} {new = new} {slots = slots} n there many most all =
    elim (cases_lt (length slots) n) [
      | inl lt ↦ absurd (omega (arith, there, lt, ap length (took_first many), length-append slots (free_in new), ap length (all lt)))
      | inr le ↦ omega arith
    ]

pub many_all : {X : Type 0} {old new : List (Held X)} {slots : List X} (n : ℕ) → length (free_in old) ≤ n → TakesMany old slots new → (length slots < n → free_in new ≡ [])
    → slots ≡ free_in old
many_all {old = old} {new = new} {slots = slots} n few many all =
    let left : free_in new ≡ [] = elim (cases_lt (length slots) n) [
      | inl lt ↦ all lt
      | inr le ↦ none_left (free_in new) (omega (arith, few, le, ap length (took_first many), length-append slots (free_in new)))
    ] in
    sym (took_first many ∙ ap (λ l. slots ++ l) left ∙ append-nil slots)
