-- The slots of a store on which no request stands, and the queues that they make.
use Rattle.std.specs.Prelude.{ℕ, ◌+◌, ◌*◌, ◌<◌, ◌≡◌, List, drop, length, map, take}
use Rattle.std.specs.List.{range_with_len}
use Rattle.cfs_pmem.specs.Images.{AllImages, Seen, WordStep, words_of}
use Rattle.cfs_pmem.specs.Objects.{seen_at}
use Rattle.cfs_queue.specs.Queue.{Slots, free}
use Rattle.cfs_slot.specs.Words.{IsClosed}

-- the region is that of the slot with this device number, whose gate is closed in every image
pub record IsFreeSlot (device : ℕ) (seen : Seen WordStep) : Type 0 where
  pub own : seen.device ≡ device
  pub size : length (words_of seen) ≡ 518
  pub closed : AllImages seen IsClosed

-- so is each of these, and their device numbers go up one by one from this one
abbrev pub AreFreeSlots : ℕ → List (Seen WordStep) → Type 0
AreFreeSlots first seens =
    (place : ℕ) → place < length seens → IsFreeSlot (first + place) (seen_at seens place)

-- the queue of a number, of a store with these slots, which are all free: it has 16 of them
abbrev pub free_queue_at : {X : Type 0} → List X → ℕ → Slots X
free_queue_at slots number = record {
  number = number;
  held = map (λ slot. free slot) (take 16 (drop (16 * number) slots));
}

-- so many queues, by number
abbrev pub free_queues : {X : Type 0} → List X → ℕ → List (Slots X)
free_queues slots count = map (free_queue_at slots) (range_with_len 0 count)
