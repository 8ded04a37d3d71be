-- Words that are read of regions, before a mount changes anything.
use Rattle.std.specs.Prelude.{ℕ, ◌+◌, ◌*◌, ◌/◌, ◌<◌, ◌≡◌, List, ◌∷◌, length, map, drop}
use Rattle.cfs_pmem.specs.declared.trace.Asked.{Asked}
use Rattle.cfs_pmem.specs.Images.{Seen, WordStep, IsImage, words_of}
use Rattle.cfs_pmem.specs.Objects.{IsEachImage, MomentsOf, seen_at}
use Rattle.cfs_slot.specs.Tails.{numbers_in}

-- the words of the region at a place
abbrev pub words_at : List (Seen WordStep) → ℕ → List ℕ
words_at regions place = words_of (seen_at regions place)

-- the words of every slot, in device order
abbrev pub slots_in : List (Seen WordStep) → List (List ℕ)
slots_in regions = drop 323 (map words_of regions)

-- each slot has its 518 words
abbrev pub AreSlots : List (Seen WordStep) → Type 0
AreSlots regions =
    (at : ℕ) → 323 + at < length regions → length (words_at regions (323 + at)) ≡ 518

-- A call changed none of the regions: at each moment a crash leaves what it left before.
pub record LeavesAll (asked_old : List Asked) (old : List (Seen WordStep))
    (asked_new : List Asked) (new : List (Seen WordStep)) : Type 0 where
  pub same : new ≡ old
  pub moments : MomentsOf IsImage (IsEachImage IsImage old) asked_old old asked_new new

-- where the payload of the slot at a place stands: in its own region and in those of its tails,
-- which have numbers in its queue
abbrev pub places_of : ℕ → ℕ → List ℕ
places_of slot tails =
    (323 + slot) ∷ map (λ number. 323 + (slot / 16 * 16 + number)) (numbers_in tails)
