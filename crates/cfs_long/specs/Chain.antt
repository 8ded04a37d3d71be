-- A request over a chain of slots.
use Rattle.std.specs.Prelude.{ℕ, ◌<◌, ◌≤◌, ◌≡◌, ◌⊎◌, Bool, true, false, List, [], ◌∷◌, length, take, drop, Result, Ok, Err, OnOk, OnErr}
use Rattle.cfs_file.specs.declared.request.Request.{Request}
use Rattle.cfs_pmem.specs.declared.trace.Asked.{Asked}
use Rattle.cfs_pmem.specs.Faults.{HasCause, Rose}
use Rattle.cfs_pmem.specs.Images.{Seen, WordStep, words_of}
use Rattle.cfs_pmem.specs.WordOps.{WordOp}
use Rattle.cfs_slot.specs.Operations.{stage_ops, part_ops, head_ops}
use Rattle.cfs_slot.specs.Staging.{IsPart, IsStageable, IsLong, staged_payload}
use Rattle.cfs_slot.specs.Tails.{AreAbove, queue_of}
use Rattle.cfs_slot.specs.Words.{IsClosed}
use Rattle.cfs_slot.specs.Writing.{WritesSlot}

-- a write or an append of 1 to 65,536 bytes, or a truncate
abbrev pub IsChained : Request → Type 0
IsChained request = IsStageable request ⊎ IsLong request

-- the slot with the next device number is of the first one's queue and stands above it
abbrev pub IsAbove : ℕ → ℕ → Type 0
IsAbove first next = (323 ≤ first) × (first < next) × (queue_of next ≡ queue_of first)

-- the slots with these device numbers are of one queue and ascend, and there is one at least
abbrev pub AreChain : List ℕ → Type 0
AreChain [] = ⊥
AreChain (first ∷ rest) = AreAbove first rest

-- in these images, one of each slot, all gates are closed
abbrev pub AreClosed : List (List ℕ) → Type 0
AreClosed [] = Unit {0}
AreClosed (image ∷ images) = IsClosed image × AreClosed images

-- Of these counts of faults one rose.
pub data OneRose : List ℕ → List ℕ → Type 0 where
  first_rose : {before now : ℕ} {rest : List ℕ}
      → before ≤ now → Rose before now → OneRose (before ∷ rest) (now ∷ rest)
  later_rose : {count : ℕ} {before now : List ℕ}
      → OneRose before now → OneRose (count ∷ before) (count ∷ now)

-- The counts tell how a call on several devices ended: one rose where the call failed, and all are
-- as before where it did not.
pub record HasCauseAmong {T E : Type 0} (before now : List ℕ) (result : Result T E) : Type 0 where
  pub failed : OnErr result (OneRose before now)
  pub passed : OnOk result (now ≡ before)

-- what a call on one slot answers, without its values
abbrev pub Answer : Type 0
Answer = Result (Unit {0}) (Unit {0})

abbrev pub went_well : Answer
went_well = Ok tt

abbrev pub refused : Answer
refused = Err tt

-- A call writes the slot of a region by these operations, and is refused only where the region's
-- count of faults rose.
pub record StagesSlot {R : Type 0} (seen : R → Seen WordStep) (faults : R → ℕ) (obeys_power : Bool)
    (ops : List WordOp) (answer : Answer)
    (asked_old : List Asked) (old : R) (asked_new : List Asked) (new : R) : Type 0 where
  pub writes : WritesSlot obeys_power ops answer asked_old (seen old) asked_new (seen new)
  pub cause : HasCause (faults old) (faults new) answer

-- The tails are staged in turn: each holds the next 4096 bytes, the last one what is left. The call
-- ends behind the last of them, or at one that refuses, and those behind it stay as they were.
pub data StagesTails {R : Type 0} (seen : R → Seen WordStep) (faults : R → ℕ) (obeys_power : Bool)
    (ino grant : ℕ) : List ℕ → Bool → List Asked → List R → List Asked → List R → Type 0 where
  all_staged : {asked : List Asked}
      → StagesTails seen faults obeys_power ino grant [] true asked [] asked []
  one_staged : {bytes : List ℕ} {whole : Bool} {asked mid last : List Asked} {old new : R}
      {olds news : List R} → 0 < length bytes
      → StagesSlot seen faults obeys_power (part_ops ino (take 4096 bytes) grant) went_well
      asked old mid new
      → IsPart ino (take 4096 bytes) grant (words_of (seen new))
      → StagesTails seen faults obeys_power ino grant (drop 4096 bytes) whole mid olds last news
      → StagesTails seen faults obeys_power ino grant bytes whole
      asked (old ∷ olds) last (new ∷ news)
  one_refused : {bytes : List ℕ} {asked last : List Asked} {old new : R} {olds : List R}
      → 0 < length bytes
      → StagesSlot seen faults obeys_power (part_ops ino (take 4096 bytes) grant) refused
      asked old last new
      → StagesTails seen faults obeys_power ino grant bytes false
      asked (old ∷ olds) last (new ∷ olds)

-- A request is staged over a chain of slots, of which the first is the head: a short one in that
-- slot alone, and of a long one the tails, which have these numbers, and then the head. The regions
-- before and after are listed in the slots' order.
pub data StagesChain {R : Type 0} (seen : R → Seen WordStep) (faults : R → ℕ) (obeys_power : Bool)
    (ino grant : ℕ) (request : Request) (numbers : List ℕ)
    : Bool → List Asked → List R → List Asked → List R → Type 0 where
  short_staged : {asked last : List Asked} {old new : R} → IsStageable request
      → StagesSlot seen faults obeys_power (stage_ops ino request grant) went_well
      asked old last new
      → StagesChain seen faults obeys_power ino grant request numbers true
      asked (old ∷ []) last (new ∷ [])
  short_refused : {asked last : List Asked} {old new : R} → IsStageable request
      → StagesSlot seen faults obeys_power (stage_ops ino request grant) refused
      asked old last new
      → StagesChain seen faults obeys_power ino grant request numbers false
      asked (old ∷ []) last (new ∷ [])
  tail_refused : {asked last : List Asked} {head : R} {olds news : List R} → IsLong request
      → StagesTails seen faults obeys_power ino grant (drop 4096 (staged_payload request)) false
      asked olds last news
      → StagesChain seen faults obeys_power ino grant request numbers false
      asked (head ∷ olds) last (head ∷ news)
  head_refused : {asked mid last : List Asked} {old new : R} {olds news : List R} → IsLong request
      → StagesTails seen faults obeys_power ino grant (drop 4096 (staged_payload request)) true
      asked olds mid news
      → StagesSlot seen faults obeys_power (head_ops ino request grant numbers) refused
      mid old last new
      → StagesChain seen faults obeys_power ino grant request numbers false
      asked (old ∷ olds) last (new ∷ news)
  long_staged : {asked mid last : List Asked} {old new : R} {olds news : List R} → IsLong request
      → StagesTails seen faults obeys_power ino grant (drop 4096 (staged_payload request)) true
      asked olds mid news
      → StagesSlot seen faults obeys_power (head_ops ino request grant numbers) went_well
      mid old last new
      → StagesChain seen faults obeys_power ino grant request numbers true
      asked (old ∷ olds) last (new ∷ news)
