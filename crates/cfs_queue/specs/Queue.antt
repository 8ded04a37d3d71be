-- What a queue is seen as.
use Rattle.std.specs.Prelude.{ℕ, zero, suc, ◌+◌, ◌*◌, ◌≡◌, ◌<◌, ◌≤◌, ◌⊎◌, Bool, true, false, List, [], ◌∷◌, length, Option, Some, None, refl}
use Rattle.std.proofs.Common.{inl, inr}
use Rattle.std.proofs.Math.ListN.{set}
use Rattle.std.specs.Coded.{Coded, code_by, coded×, coded⊎, coded_ℕ, coded_list}
use Rattle.std.specs.List.Sorted.{IsPermutation, IsSorted}
use Rattle.std.specs.Ordering.{nat_cmp}
use Rattle.cfs_pmem.specs.Images.{Seen, WordStep}
use Rattle.cfs_slot.specs.Tails.{queue_of, AreAbove}

-- What stands at a number of a queue: a free slot, by its region, or the place of one that is out.
pub data Held (X : Type 0) : Type 0 where
  free : X → Held X
  out : ℕ → Held X

-- the number of the queue, and what stands at 0, 1 and so on
pub record Slots (X : Type 0) : Type 0 where
  pub number : ℕ
  pub held : List (Held X)

-- how a proof stores it

abbrev pub either_of : {X : Type 0} → Held X → X ⊎ ℕ
either_of (free x) = inl x
either_of (out place) = inr place

abbrev pub held_by : {X : Type 0} → X ⊎ ℕ → Held X
held_by (inl x) = free x
held_by (inr place) = out place

pub held_again : {X : Type 0} → (one : Held X) → held_by (either_of one) ≡ one
held_again (free x) = refl
held_again (out place) = refl

abbrev pub held_code : {X : Type 0} → Coded X → Coded (Held X)
held_code {X} code =
    code_by (X ⊎ ℕ) (coded⊎ code coded_ℕ)
    (λ one. either_of one) (λ one. held_by one) (λ one. held_again one)

abbrev pub slots_code : {X : Type 0} → Coded X → Coded (Slots X)
slots_code {X} code =
    code_by (ℕ × List (Held X)) (coded× coded_ℕ (coded_list (held_code code)))
    (λ q. (q.number, q.held)) (λ p. record { number = p.0; held = p.1 }) (λ _. refl)

abbrev pub is_free : {X : Type 0} → Held X → Bool
is_free (free x) = true
is_free (out place) = false

-- the free slots, by ascending number
abbrev pub free_in : {X : Type 0} → List (Held X) → List X
free_in [] = []
free_in (free x ∷ held) = x ∷ free_in held
free_in (out place ∷ held) = free_in held

-- the numbers and the places of those that are out, by ascending number, where the first
-- number is this
abbrev pub out_from : {X : Type 0} → ℕ → List (Held X) → List (ℕ × ℕ)
out_from number [] = []
out_from number (free x ∷ held) = out_from (number + 1) held
out_from number (out place ∷ held) = (number, place) ∷ out_from (number + 1) held

-- the places of those that are out
abbrev pub places_in : {X : Type 0} → List (Held X) → List ℕ
places_in [] = []
places_in (free x ∷ held) = places_in held
places_in (out place ∷ held) = place ∷ places_in held

-- the two lists of a queue

abbrev pub free_slots : {X : Type 0} → Slots X → List X
free_slots queue = free_in queue.held

abbrev pub out_slots : {X : Type 0} → Slots X → List (ℕ × ℕ)
out_slots queue = out_from 0 queue.held

-- one number has this now, and all else is as it was
abbrev pub with_held : {X : Type 0} → ℕ → Held X → Slots X → Slots X
with_held number one queue = record queue { held = set queue.held number one }

-- the slots of these numbers are out, with place 0
abbrev pub all_out : {X : Type 0} → List ℕ → List (Held X) → List (Held X)
all_out [] held = held
all_out (number ∷ numbers) held = all_out numbers (set held number (out 0))

-- these places in ascending order
pub record AreSorted (places sorted : List ℕ) : Type 0 where
  pub same : IsPermutation places sorted
  pub ascending : IsSorted nat_cmp sorted

-- Device numbers.

-- so many, from this one on
abbrev pub devices_from : ℕ → ℕ → List ℕ
devices_from zero first = []
devices_from (suc count) first = first ∷ devices_from count (first + 1)

-- those of a queue's slots: queue 0 begins at 323, and each queue has 16
abbrev pub first_of : ℕ → ℕ
first_of queue = 323 + 16 * queue

abbrev pub devices_of : ℕ → List ℕ
devices_of queue = devices_from 16 (first_of queue)

-- each free slot is the one of its number, where the first number's is this
abbrev pub AreOwn : {X : Type 0} → (X → Seen WordStep) → ℕ → List (Held X) → Type 0
AreOwn seen first [] = Unit {0}
AreOwn seen first (free x ∷ held) = ((seen x).device ≡ first) × AreOwn seen (first + 1) held
AreOwn seen first (out place ∷ held) = AreOwn seen (first + 1) held

-- What holds of the queue of this number: each of its 16 numbers has its own free slot, or its
-- slot is out.
pub record IsQueue {X : Type 0} (seen : X → Seen WordStep) (queue : ℕ)
    (held : List (Held X)) : Type 0 where
  pub sixteen : length held ≡ 16
  pub own : AreOwn seen (first_of queue) held

-- the device is that of a slot of the queue
abbrev pub IsOf : ℕ → ℕ → Type 0
IsOf queue device = (first_of queue ≤ device) × (device < first_of queue + 16)

-- the place of what stands at a number, where that is a slot that is out
abbrev pub place_at : {X : Type 0} → Option (Held X) → Option ℕ
place_at None = None
place_at (Some (free x)) = None
place_at (Some (out place)) = Some place

-- The devices are those of slots of the queue, from this one on, ascending.
abbrev pub AreRising : ℕ → ℕ → List ℕ → Type 0
AreRising queue from [] = Unit {0}
AreRising queue from (device ∷ devices) =
    (from ≤ device) × (queue_of device ≡ queue) × AreRising queue (device + 1) devices

-- They are a chain: of one queue, ascending, and at least one.
abbrev pub IsChain : List ℕ → Type 0
IsChain [] = ⊥
IsChain (first ∷ rest) = AreAbove first rest
