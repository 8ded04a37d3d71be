-- What a request does to the stored tree and its devices.
use Rattle.std.specs.Prelude.{ℕ, ◌+◌, ◌≡◌, ◌≢◌, ◌⊎◌, Bool, false, IsTrue, List, Option, Some, None, Result, Ok, Err, OnErr, OnOk, set}
use Rattle.cfs_dir.specs.declared.change.Change.{Change}
use Rattle.cfs_pmem.specs.declared.trace.Asked.{Asked}
use Rattle.cfs_pmem.specs.Images.{IsImage, Seen, WordStep}
use Rattle.cfs_pmem.specs.Objects.{MomentsOf, seen_at}
use Rattle.cfs_names.specs.declared.store_refusal.StoreRefusal.{StoreRefusal}
use Rattle.cfs_names.specs.declared.store_refusal.StoreRefusal.TheVariants as stored
use Rattle.cfs_names.specs.declared.stored_tree.StoredTree.{StoredTree}
use Rattle.cfs_names.specs.Causes.{HasCauseOf}
use Rattle.cfs_names.specs.Held.{MakesChange}
use Rattle.cfs_names.specs.Recovered.{Recovers}
use Rattle.cfs_names.specs.Steps.{StoresChange}
use Rattle.cfs_names.specs.StoredTrees.{IsSame, LacksRoom, doubt_in, found_at, held_of, is_full, last_number, next_faults, place_in, records_in, room_ops, seens_in, table_faults, tree_of}
use Rattle.cfs_kernel.specs.declared.ns_state.NsState.{NsState}
use Rattle.cfs_kernel.specs.declared.refusal.NsRefusal.{NsRefusal}
use Rattle.cfs_kernel.specs.Answers.{ended}
use Rattle.cfs_kernel.specs.States.{IsSpent, Kernel, kernel_of, stored_of}

-- A change is stored, or a device fails while it is: the steps, in order; what is in doubt; why it
-- failed; and what a crash recovers at each moment.
pub record Stores {R : Type 0} {g : _} (see : R → Seen WordStep) (faults : R → ℕ) (obeys : Bool)
    (change : Change) (outcome : Result (Unit {0}) StoreRefusal)
    (asked_old : List Asked) (old : StoredTree R g)
    (asked_new : List Asked) (new : StoredTree R g) : Type 0 where
  pub makes : MakesChange (is_full old) change outcome (held_of old) (held_of new)
  pub does : IsTrue obeys →
      StoresChange (is_full old) (room_ops old) (last_number old + 1) change outcome
      asked_old (found_at see (place_in old) old) asked_new (found_at see (place_in old) new)
  pub others : records_in see new ≡
      set (records_in see old) (place_in old) (seen_at (records_in see new) (place_in old))
  pub cause : HasCauseOf (table_faults faults old) (table_faults faults new)
      (next_faults faults (place_in old) old) (next_faults faults (place_in old) new) outcome
  pub moments : MomentsOf IsImage (Recovers (tree_of old) (doubt_in old) change)
      asked_old (seens_in see old) asked_new (seens_in see new)

-- nothing was asked of a device, and the stored tree is as it was
abbrev pub Rests : {R : Type 0} {g : _} → List Asked → StoredTree R g → List Asked
    → StoredTree R g → Type 0
Rests asked_old old asked_new new = IsSame old new × (asked_new ≡ asked_old)

-- a request that makes a change stores it; one that makes none does nothing
abbrev pub Attempts : {R : Type 0} {g : _} → (R → Seen WordStep) → (R → ℕ) → Bool
    → Option Change → Result (Unit {0}) StoreRefusal
    → List Asked → StoredTree R g → List Asked → StoredTree R g → Type 0
Attempts see faults obeys None outcome asked_old old asked_new new =
    (outcome ≡ Ok tt) × Rests asked_old old asked_new new
Attempts see faults obeys (Some change) outcome asked_old old asked_new new =
    Stores see faults obeys change outcome asked_old old asked_new new

-- there is no number for a place, or no room in the selector for the number of the last change
abbrev pub LacksFor : {R : Type 0} {g : _} → Option Change → StoredTree R g → Type 0
LacksFor None stored = ⊥
LacksFor (Some change) stored = LacksRoom stored

abbrev pub Lacks : {R : Type 0} {g : _} → Option Change → NsState R g → Type 0
Lacks change state = IsSpent (kernel_of state) ⊎ LacksFor change (stored_of state)

-- A request whose tests are passed. It makes this change or none, answers with this value and
-- leaves this, or fails and leaves all as it was. Want of memory comes before anything is asked of
-- a device; where the request takes none, exactly where there is no number or no room.
pub record Performs {R : Type 0} {g : _} {T : Type 0} (see : R → Seen WordStep)
    (faults : R → ℕ) (obeys takes : Bool) (change : Option Change) (value : T) (after : Kernel R)
    (result : Result T NsRefusal) (asked_old : List Asked) (old : NsState R g)
    (asked_new : List Asked) (new : NsState R g) : Type 0 where
  pub outcome : Result (Unit {0}) StoreRefusal
  pub answer : result ≡ ended value outcome
  pub passed : OnOk outcome (kernel_of new ≡ after)
  pub failed : OnErr outcome (kernel_of new ≡ kernel_of old)
  pub without_memory : outcome ≡ Err stored.NoMemory →
      Rests asked_old (stored_of old) asked_new (stored_of new)
  pub attempts : outcome ≢ Err stored.NoMemory →
      Attempts see faults obeys change outcome
      asked_old (stored_of old) asked_new (stored_of new)
  pub lacks : Lacks change old → outcome ≡ Err stored.NoMemory
  pub only : takes ≡ false → outcome ≡ Err stored.NoMemory → Lacks change old

-- a request that is refused leaves all as it was
pub record Refuses {R : Type 0} {g : _} {T : Type 0} (refusal : NsRefusal)
    (result : Result T NsRefusal) (asked_old : List Asked) (old : NsState R g)
    (asked_new : List Asked) (new : NsState R g) : Type 0 where
  pub answer : result ≡ Err refusal
  pub same : kernel_of new ≡ kernel_of old
  pub rests : Rests asked_old (stored_of old) asked_new (stored_of new)
