-- What a crash may load of a checkpoint, beside the journal.
use Rattle.std.specs.Prelude.{ℕ, ◌+◌, ◌-◌, ◌≡◌, ◌≤◌, List, length, drop}
use Rattle.cfs_dir.specs.declared.change.Change.{Change}
use Rattle.cfs_dir.specs.Change.{changed_by}
use Rattle.cfs_dir.specs.Namespace.{Namespace}
use Rattle.cfs_pmem.specs.Images.{Seen, WordStep}
use Rattle.cfs_ckpt.specs.Loads.{CanLoad, Loaded}

-- The journal holds all changes from what is loaded to the tree, and nothing more: these changes,
-- of which the first has the number `through + 1`.
pub record IsBehind (through : ℕ) (changes : List Change) (tree : Namespace)
    (x : Loaded) : Type 0 where
  pub low : through ≤ x.through
  pub high : x.through ≤ through + length changes
  pub leads : changed_by x.tree (drop (x.through - through) changes) ≡ tree

-- whatever a crash loads is behind the tree
abbrev pub AreBehind : ℕ → List Change → Namespace → List (Seen WordStep) → Type 0
AreBehind through changes tree seens =
    (x : Loaded) → CanLoad seens x → IsBehind through changes tree x
