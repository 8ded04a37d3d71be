-- The regions of a store as a mount leaves them.
use Rattle.std.specs.Prelude.{ℕ, ◌+◌, ◌%◌, ◌≡◌, List, [], ◌∷◌, drop, get_or, take}
use Rattle.cfs_block.specs.BlockImages.{BlockStep}
use Rattle.cfs_home.specs.Calls.{HaveWordsOf}
use Rattle.cfs_home.specs.Disks.{Disk}
use Rattle.cfs_image.specs.Store.{IsStore}
use Rattle.cfs_pmem.specs.AllMoments.{AreDistinct}
use Rattle.cfs_pmem.specs.Images.{Seen, WordStep}
use Rattle.cfs_pmem.specs.Objects.{all_devices, seen_at}
use Rattle.cfs_slot.specs.Words.{gate_of}
use Rattle.cfs_survey.specs.Surveys.{Words}
use Rattle.cfs_mount.specs.Front.{HoldFront}
use Rattle.cfs_mount.specs.Queues.{AreFreeSlots}

-- Of all regions of a store, in the order of device numbers, those behind the selector: the copies
-- of the table, the records of the journal, the size words and the slots.

abbrev pub tables_among : {X : Type 0} → List X → List X
tables_among regions = take 2 (drop 1 regions)

abbrev pub records_among : {X : Type 0} → List X → List X
records_among regions = take 64 (drop 3 regions)

abbrev pub sizes_among : {X : Type 0} → List X → List X
sizes_among regions = take 256 (drop 67 regions)

abbrev pub slots_among : {X : Type 0} → List X → List X
slots_among regions = drop 323 regions

-- A crash leaves of them the tree that these words tell and no other, and no gate open.
pub record AreSettled (words : Words) (regions : List (Seen WordStep)) : Type 0 where
  pub front : HoldFront words (seen_at regions 0) (tables_among regions) (records_among regions)
  pub slots : AreFreeSlots 323 (slots_among regions)

-- these words are read of a disk with this front
pub record AreReadOff (front : List (List ℕ)) (words : Words) : Type 0 where
  pub selector : get_or front 0 [] ≡ words.selector ∷ []
  pub table : get_or front (1 + words.selector % 2) [] ≡ words.table
  pub journal : take 64 (drop 3 front) ≡ words.journal

-- So are the regions of a store of which a crash leaves a single disk, where that disk's front tells
-- these words, and all its gates are closed.
abbrev pub HomesAreSettled : Type 0
HomesAreSettled =
    (words : Words) (disk : Disk) (regions : List (Seen WordStep))
    (blocks : List (Seen BlockStep)) (numbers : List ℕ) → IsStore regions blocks numbers →
    AreDistinct (all_devices regions) → HaveWordsOf disk regions → AreReadOff disk.front words →
    ((at : ℕ) → gate_of (get_or disk.slots at []) ≡ 0) → AreSettled words regions
