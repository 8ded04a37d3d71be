-- A stored tree beside its devices, and what a call that stores a change makes of it.
use Rattle.std.specs.Prelude.{ℕ, ◌+◌, ◌≡◌, ◌⊎◌, Bool, true, false, List, [], ◌∷◌, ◌++◌, Option, Some, None, Result, OnErr, OnOk}
use Rattle.cfs_dir.specs.declared.change.Change.{Change}
use Rattle.cfs_dir.specs.Change.{changed}
use Rattle.cfs_dir.specs.Namespace.{Namespace}

-- the tree, the changes that the journal holds, the number of the last of them, and the change that
-- a fault left in doubt
pub record Held : Type 0 where
  pub tree : Namespace
  pub changes : List Change
  pub last : ℕ
  pub doubt : Option Change

-- the changes that the journal holds once there is room: where it was full, a checkpoint has them
abbrev pub changes_left : Bool → List Change → List Change
changes_left true changes = []
changes_left false changes = changes

-- On Ok the change is made and none is in doubt. On Err the tree is as before, and the change that
-- was in doubt still is, or this one is.
pub record MakesChange {T E : Type 0} (full : Bool) (change : Change) (result : Result T E)
    (old new : Held) : Type 0 where
  pub made : OnOk result (new.tree ≡ changed old.tree change)
  pub appended : OnOk result
      (new.changes ≡ changes_left full old.changes ++ change ∷ [])
  pub number : OnOk result (new.last ≡ old.last + 1)
  pub settled : OnOk result (new.doubt ≡ None)
  pub refused : OnErr result (new.tree ≡ old.tree)
  pub left : OnErr result
      ((new.changes ≡ old.changes) ⊎ (new.changes ≡ changes_left full old.changes))
  pub same_number : OnErr result (new.last ≡ old.last)
  pub doubtful : OnErr result ((new.doubt ≡ old.doubt) ⊎ (new.doubt ≡ Some change))
