-- What calls ask of a power, as entries of its history, the newest first.
use Rattle.std.specs.Prelude.{ℕ, ◌<◌, ◌≡◌, ◌⊎◌, Bool, List, [], ◌∷◌, ◌++◌, length, Result, is_ok}
use Rattle.cfs_pmem.specs.declared.trace.Asked.{Asked}
use Rattle.cfs_pmem.specs.declared.trace.Asked.TheVariants.{Step, Stopped, Planned, Revived}

-- one of these devices
abbrev pub IsOneOf : List ℕ → ℕ → Type 0
IsOneOf [] device = ⊥
IsOneOf (first ∷ rest) device = (device ≡ first) ⊎ IsOneOf rest device

-- the entry is a step of one of these devices, whatever the answer
abbrev pub IsStepOn : List ℕ → Asked → Type 0
IsStepOn devices (Step device writing allowed) = IsOneOf devices device
IsStepOn devices (Stopped n) = ⊥
IsStepOn devices (Planned device writing k) = ⊥
IsStepOn devices Revived = ⊥

abbrev pub AreStepsOn : List ℕ → List Asked → Type 0
AreStepsOn devices [] = Unit {0}
AreStepsOn devices (entry ∷ before) = IsStepOn devices entry × AreStepsOn devices before

-- A call asked for steps of these devices alone, and for one at least.
pub record AsksSome (devices : List ℕ) (old new : List Asked) : Type 0 where
  pub made : List Asked
  pub some : 0 < length made
  pub own : AreStepsOn devices made
  pub is : new ≡ made ++ old

-- A call asked for one step, and went well exactly where it was allowed.
abbrev pub AsksOnce : {T E : Type 0} → ℕ → Bool → Result T E → List Asked → List Asked → Type 0
AsksOnce device writing result old new = new ≡ Step device writing (is_ok result) ∷ old
