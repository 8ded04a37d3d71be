-- The device steps of a call that stores a change, and what each failure leaves.
use Rattle.std.specs.Prelude.{ℕ, ◌≡◌, Bool, true, false, List, Option, Result, IsErr}
use Rattle.cfs_dir.specs.declared.change.Change.{Change}
use Rattle.cfs_pmem.specs.declared.trace.Asked.{Asked}
use Rattle.cfs_pmem.specs.Images.{Seen, WordStep}
use Rattle.cfs_pmem.specs.Operations.{AllDone}
use Rattle.cfs_ckpt.specs.Placed.{PlacedOp, numbers_of, placed_asks, placed_done}
use Rattle.cfs_ckpt.specs.Stores.{StopsAt}
use Rattle.cfs_journal.specs.Appends.{Appends}

-- Where all records stand, a checkpoint is stored by these steps, and where there is room, nothing
-- is done. `ok` tells whether there is room now.
pub record MakesRoom (full : Bool) (ops : List PlacedOp) (ok unsure_old unsure_new : Bool)
    (asked_old : List Asked) (old : List (Seen WordStep)) (asked_new : List Asked)
    (new : List (Seen WordStep)) : Type 0 where
  pub none : full ≡ false →
      (ok ≡ true) × (unsure_new ≡ unsure_old) × (asked_new ≡ asked_old) × (new ≡ old)
  pub all : full ≡ true → ok ≡ true → (unsure_new ≡ false)
      × AllDone (placed_asks (numbers_of old)) placed_done ops asked_old old asked_new new
  pub front : full ≡ true → ok ≡ false → StopsAt ops unsure_new asked_old old asked_new new

-- What a call finds and leaves: the regions of the checkpoint, whether its selector is in doubt,
-- the region of the next record, and the change in doubt.
pub record Found : Type 0 where
  pub tables : List (Seen WordStep)
  pub unsure : Bool
  pub next : Seen WordStep
  pub doubt : Option Change

-- Room is made, and then the record is appended.
pub record StoresChange {T E : Type 0} (full : Bool) (ops : List PlacedOp) (number : ℕ)
    (change : Change) (result : Result T E) (asked_old : List Asked) (old : Found)
    (asked_new : List Asked) (new : Found) : Type 0 where
  pub ok : Bool
  pub asked : List Asked
  pub room : MakesRoom full ops ok old.unsure new.unsure asked_old old.tables asked new.tables
  pub appended : ok ≡ true →
      Appends number change old.doubt new.doubt result asked old.next asked_new new.next
  pub stopped : ok ≡ false →
      IsErr result × (new.doubt ≡ old.doubt) × (asked_new ≡ asked) × (new.next ≡ old.next)
