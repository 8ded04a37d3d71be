-- That no two objects share a device has one proof at most, as a ghost field asks.
use Rattle.std.specs.Prelude.{ℕ, List, [], ◌∷◌}
use Rattle.std.proofs.Props.{props}
use Rattle.cfs_pmem.specs.AllMoments.{AreDistinct, IsApartFrom}

apart_prop : (one : List ℕ) (others : List (List ℕ)) → IsProp (IsApartFrom one others)
apart_prop one [] = hlevel props
apart_prop one (other ∷ rest) = let later = apart_prop one rest in hlevel (later, props)

pub distinct_prop : (devices : List (List ℕ)) → IsProp (AreDistinct devices)
distinct_prop [] = hlevel props
distinct_prop (one ∷ rest) =
    let first = apart_prop one rest in
    let later = distinct_prop rest in
    hlevel (first, later, props)
