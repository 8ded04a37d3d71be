-- Counts of faults of a job's devices.
use Rattle.std.specs.Prelude.{ℕ, ◌≡◌, ◌⊎◌, Option, Some, None, List, [], ◌∷◌, Result, OnOk, OnErr}
use Rattle.cfs_slot.specs.Payload.{NoneFell, SomeRose}
use Rattle.cfs_job.specs.declared.tile.Tile.{Tile}

-- that of a block, where `faults` tells it of each
abbrev pub faults_in : {B : Type 0} → (B → ℕ) → Option (Tile B) → List ℕ
faults_in faults None = []
faults_in faults (Some tile) = faults tile.block ∷ []

-- The counts of the slots and those of the blocks tell how a call ended: none fell; one rose where
-- it failed, and all are as before where it did not.
pub record HasCauseIn {T E : Type 0} (slots_old slots_new blocks_old blocks_new : List ℕ)
    (result : Result T E) : Type 0 where
  pub slots : NoneFell slots_old slots_new
  pub blocks : NoneFell blocks_old blocks_new
  pub failed : OnErr result (SomeRose slots_old slots_new ⊎ SomeRose blocks_old blocks_new)
  pub passed : OnOk result ((slots_new ≡ slots_old) × (blocks_new ≡ blocks_old))
