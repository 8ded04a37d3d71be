-- Facts that have one proof at most, as a ghost field asks.
use Rattle.std.specs.Prelude.{ℕ, List, [], ◌∷◌}
use Rattle.std.proofs.Props.{props}
use Rattle.cfs_dir.specs.declared.change.Change.{Change}
use Rattle.cfs_dir.specs.declared.change.Change.TheVariants as changes
use Rattle.cfs_dir.specs.Change.{IsTellable}
use Rattle.cfs_pmem.specs.AllMoments.{AreDistinct, IsApartFrom}

apart_prop : (one : List ℕ) (others : List (List ℕ)) → IsProp (IsApartFrom one others)
apart_prop one [] = hlevel props
apart_prop one (other ∷ rest) = let later = apart_prop one rest in hlevel (later, props)

pub distinct_prop : (devices : List (List ℕ)) → IsProp (AreDistinct devices)
distinct_prop [] = hlevel props
distinct_prop (one ∷ rest) =
    let first = apart_prop one rest in
    let later = distinct_prop rest in
    hlevel (first, later, props)

pub tellable_prop : (change : Change) → IsProp (IsTellable change)
tellable_prop (changes.Create node) = hlevel props
tellable_prop (changes.Remove rec ino) = hlevel props
tellable_prop (changes.Move node replaced) = hlevel props
