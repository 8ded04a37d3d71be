-- The reads of a request's payload, which stands in its head and in its tails.
use Rattle.std.specs.Prelude.{ℕ, zero, suc, ◌+◌, ◌-◌, ◌/◌, ◌%◌, ◌<◌, ◌≤◌, ◌≡◌, ◌⊎◌, Bool, false, IsTrue, List, [], ◌∷◌, ◌++◌, length, drop, min, Result, OnOk, OnErr}
use Rattle.std.proofs.Math.ListN.{get_or}
use Rattle.cfs_pmem.specs.declared.trace.Asked.{Asked}
use Rattle.cfs_pmem.specs.Asks.{AreStepsOn}
use Rattle.cfs_pmem.specs.Faults.{Rose}
use Rattle.cfs_pmem.specs.Operations.{Ask, all_allowed, last_refused}

-- A read of a word of the slot with this device number.
pub record SlotRead : Type 0 where
  pub device : ℕ
  pub at : ℕ

abbrev pub read_asks : SlotRead → Ask
read_asks read = record { device = read.device; writing = false }

-- the reads of n words from a place on, the newest first
abbrev pub reads_from : ℕ → ℕ → ℕ → List SlotRead
reads_from device at zero = []
reads_from device at (suc k) = record { device = device; at = at + k } ∷ reads_from device at k

-- the reads of the words that hold a slot's bytes of payload from one place up to another
abbrev pub area_reads : ℕ → ℕ → ℕ → List SlotRead
area_reads device from to = reads_from device (6 + from / 8) ((to + 7) / 8 - from / 8)

-- The reads of `len` bytes of a payload from a place on, where slots with these device numbers hold
-- 4096 bytes each: at most 4096 bytes stand in at most two of them.
abbrev pub payload_reads : List ℕ → ℕ → ℕ → List SlotRead
payload_reads devices from len =
    let near : ℕ = min len (4096 - from % 4096) in
    area_reads (get_or devices (from / 4096 + 1) 0) 0 (len - near)
    ++ area_reads (get_or devices (from / 4096) 0) (from % 4096) (from % 4096 + near)

-- A front of the reads was done, and the next one was refused; `left` were not come to.
pub record ReadsStop (reads : List SlotRead) (asked_old asked_new : List Asked) : Type 0 where
  pub left : ℕ
  pub within : left < length reads
  pub asked : asked_new ≡ last_refused read_asks (drop left reads) ++ asked_old

-- A call makes these reads: on Ok all of them, on Err a front.
pub record DoesReads {T E : Type 0} (reads : List SlotRead) (result : Result T E)
    (asked_old asked_new : List Asked) : Type 0 where
  pub all : OnOk result (asked_new ≡ all_allowed read_asks reads ++ asked_old)
  pub front : OnErr result (ReadsStop reads asked_old asked_new)

-- A call asked for steps of these devices alone.
pub record AsksOnly (devices : List ℕ) (asked_old asked_new : List Asked) : Type 0 where
  pub made : List Asked
  pub own : AreStepsOn devices made
  pub is : asked_new ≡ made ++ asked_old

-- Counts of faults of several devices: none fell, and one of them rose.

abbrev pub NoneFell : List ℕ → List ℕ → Type 0
NoneFell [] [] = Unit {0}
NoneFell [] (now ∷ nows) = ⊥
NoneFell (before ∷ befores) [] = ⊥
NoneFell (before ∷ befores) (now ∷ nows) = (before ≤ now) × NoneFell befores nows

abbrev pub SomeRose : List ℕ → List ℕ → Type 0
SomeRose [] nows = ⊥
SomeRose (before ∷ befores) [] = ⊥
SomeRose (before ∷ befores) (now ∷ nows) = Rose before now ⊎ SomeRose befores nows

-- The counts of a call's devices tell how it ended: one rose where it failed, and all are as before
-- where it did not.
pub record HaveCause {T E : Type 0} (befores nows : List ℕ) (result : Result T E) : Type 0 where
  pub later : NoneFell befores nows
  pub failed : OnErr result (SomeRose befores nows)
  pub passed : OnOk result (nows ≡ befores)
