-- The tree that a crash recovers.
use Rattle.std.specs.Prelude.{ℕ, ◌≡◌, ◌⊎◌, List, drop, Option, Some}
use Rattle.cfs_dir.specs.declared.change.Change.{Change}
use Rattle.cfs_dir.specs.Change.{changed, changed_by}
use Rattle.cfs_dir.specs.Namespace.{Namespace}
use Rattle.cfs_ckpt.specs.Loads.{loaded}
use Rattle.cfs_journal.specs.Standing.{changes_above}

-- The images of the selector, of the two copies of the table and of the 64 records, in this order,
-- recover a tree: the selected table, and then the changes that the records tell above its number.
abbrev pub recovered : List (List ℕ) → Namespace
recovered images =
    changed_by (loaded images).tree (changes_above (loaded images).through (drop 3 images))

-- a tree, or that tree with the change in doubt
abbrev pub IsTreeOr : Namespace → Option Change → Namespace → Type 0
IsTreeOr tree doubt found =
    (found ≡ tree)
    ⊎ ((change : Change) × (doubt ≡ Some change) × (found ≡ changed tree change))

-- Images recover the tree, the tree with the change that was in doubt before, or the tree with the
-- change that is under way.
abbrev pub Recovers : Namespace → Option Change → Change → List (List ℕ) → Type 0
Recovers tree doubt change images =
    IsTreeOr tree doubt (recovered images) ⊎ (recovered images ≡ changed tree change)
