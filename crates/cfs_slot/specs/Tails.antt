-- The slots of a queue by number, and those that hold one long write.
use Rattle.std.specs.Prelude.{ℕ, zero, suc, ◌+◌, ◌-◌, ◌*◌, ◌/◌, ◌%◌, ◌^◌, ◌<◌, ◌≤◌, ◌≡◌, ◌==◌, List, [], ◌∷◌, ◌++◌, map, if◌then◌else◌}
use Rattle.std.proofs.Math.ListN.{get_or}
use Rattle.cfs_slot.specs.Words.{tails_of}

-- The device numbers of slots begin at 323, and each queue has 16 of them.
abbrev pub queue_of : ℕ → ℕ
queue_of device = (device - 323) / 16

-- the number of a slot in its queue
abbrev pub number_of : ℕ → ℕ
number_of device = (device - 323) % 16

-- The slots with these device numbers are of the queue of the first one, and stand above it,
-- ascending.
abbrev pub AreAbove : ℕ → List ℕ → Type 0
AreAbove first [] = Unit {0}
AreAbove first (next ∷ rest) = (323 ≤ first) × (first < next) × (queue_of next ≡ queue_of first) ×
    AreAbove next rest

-- a set of numbers has a bit for each
abbrev pub set_of : List ℕ → ℕ
set_of [] = 0
set_of (number ∷ numbers) = 2 ^ number + set_of numbers

-- the numbers whose bits are set, ascending, where the lowest bit is that of `from` and n bits are
-- looked at
abbrev pub numbers_from : ℕ → ℕ → ℕ → List ℕ
numbers_from zero from bits = []
numbers_from (suc n) from bits =
    (if bits % 2 == 1 then from ∷ [] else []) ++ numbers_from n (from + 1) (bits / 2)

-- the numbers of a queue's slots that are in the set
unfoldable pub numbers_in : ℕ → List ℕ
numbers_in bits = numbers_from 16 0 bits

-- the words of the tails of the head at a place, among all slots in device order
abbrev pub tails_at : List (List ℕ) → ℕ → List (List ℕ)
tails_at slots at =
    map (λ number. get_or slots (at / 16 * 16 + number) [])
    (numbers_in (tails_of (get_or slots at [])))
