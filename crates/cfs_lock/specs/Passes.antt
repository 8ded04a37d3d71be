-- A lock, its passes and what is found behind it, in the words of contracts.
use Rattle.std.specs.Prelude.{◌≡◌, ℕ, ◌+◌, ◌<◌, false, [], length}
use Rattle.atomic_table.specs.Seated.{TableId}
use Rattle.cfs_lock.specs.declared.lock.TreeLock.{TreeLock}
use Rattle.cfs_lock.specs.declared.pass.Pass.{Pass}
use Rattle.cfs_lock.specs.declared.view.Stage.TheVariants.{Holds}
use Rattle.cfs_lock.specs.declared.view.View.{View}
use Rattle.cfs_lock.specs.Log.{Log, Part, entries_by}
use Rattle.cfs_lock.specs.Views.{kept}

module _ {X : Type 0} where
  -- which lock a pass is of
  abbrev pub lock_of : Pass X → TableId
  lock_of pass = pass.seat.table_id

  abbrev pub IsPassOf : TreeLock X → Pass X → Type 0
  IsPassOf lock pass = lock_of pass ≡ lock.table.shared.table_id

  -- what a pass knows
  abbrev pub knows : Pass X → View X
  knows pass = pass.seat.me.0

  -- the pass is of the same lock, with the same number, and may give as many numbers
  abbrev pub IsSame : Pass X → Pass X → Type 0
  IsSame before after =
      (lock_of after ≡ lock_of before) × (after.number ≡ before.number) × (after.left ≡ before.left)

  -- the pass is between two stays inside
  abbrev pub IsOutside : Pass X → Type 0
  IsOutside pass = pass.inside ≡ false

  -- the pass is inside, where it found this value
  abbrev pub IsInside : Pass X → X → Type 0
  IsInside pass found = (ticket : ℕ) × ((knows pass).stage ≡ Holds ticket found)

  -- the pass keeps each number that was given: no other pass stands
  abbrev pub KeepsAll : Pass X → Type 0
  KeepsAll pass = length (knows pass).books + pass.left ≡ (knows pass).bound

  module _ (log : X → Log) (part : X → ℕ → Part) where
    -- numbers that a view does not keep have the entries of the start, and no part
    pub record IsNewElse (view : View X) (value : X) : Type 0 where
      pub entries : (number : ℕ) → kept number view.books ≡ 0
          → entries_by number (log value) ≡ entries_by number view.base
      pub parts : (number : ℕ) → kept number view.books ≡ 0 → number < view.bound
          → part value number ≡ []
