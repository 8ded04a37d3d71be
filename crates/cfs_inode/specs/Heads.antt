-- A call sets a word of the first of a request's slots.
use Rattle.std.specs.Prelude.{ℕ, ◌≡◌, Bool, List, ◌∷◌}
use Rattle.cfs_pmem.specs.declared.trace.Asked.{Asked}
use Rattle.cfs_pmem.specs.Images.{Seen, WordStep}
use Rattle.cfs_pmem.specs.WordOps.{SetsWord}
use Rattle.cfs_medium.specs.SlotEvents.{Answer}
use Rattle.cfs_inode.specs.View.{Seens}

-- the head's word at a place is set, or that fails; the tails stay
pub record SetsHead (obeys : Bool) (at word : ℕ) (result : Answer) (asked_old : List Asked)
    (old : Seens) (asked_new : List Asked) (new : Seens) : Type 0 where
  pub head : Seen WordStep
  pub now : Seen WordStep
  pub tails : Seens
  pub old_is : old ≡ head ∷ tails
  pub new_is : new ≡ now ∷ tails
  pub sets : SetsWord obeys at word result asked_old head asked_new now

-- the gate is opened with the number of its place
abbrev pub OpensGate : Bool → ℕ → Answer → List Asked → Seens → List Asked → Seens → Type 0
OpensGate obeys place = SetsHead obeys 0 place

-- the gate is closed
abbrev pub Closes : Bool → Answer → List Asked → Seens → List Asked → Seens → Type 0
Closes obeys = SetsHead obeys 0 0

-- the mark of a no-op is set
abbrev pub SetsMark : Bool → Answer → List Asked → Seens → List Asked → Seens → Type 0
SetsMark obeys = SetsHead obeys 1 1

-- the offset of a staged append is set
abbrev pub SetsOffset : Bool → ℕ → Answer → List Asked → Seens → List Asked → Seens → Type 0
SetsOffset obeys offset = SetsHead obeys 3 offset
