-- Devices that are distinct, in two parts.
use Rattle.std.proofs.Common.{ℕ, List, [], ◌∷◌, ◌++◌, subst}
use Rattle.std.proofs.lemmas.List.{map-append}
use Rattle.cfs_pmem.specs.AllMoments.{AreDistinct, IsApartFrom}
use Rattle.cfs_pmem.specs.Images.{Seen, WordStep, devices_of}
use Rattle.cfs_pmem.specs.Objects.{all_devices}

apart_front : (one : List ℕ) (xs ys : List (List ℕ)) → IsApartFrom one (xs ++ ys) →
    IsApartFrom one xs
apart_front one [] ys apart = tt
apart_front one (x ∷ xs) ys apart = (apart.0, apart_front one xs ys apart.1)

pub distinct_front : (xs ys : List (List ℕ)) → AreDistinct (xs ++ ys) → AreDistinct xs
distinct_front [] ys distinct = tt
distinct_front (x ∷ xs) ys distinct =
    (apart_front x xs ys distinct.0, distinct_front xs ys distinct.1)

distinct_back : (xs ys : List (List ℕ)) → AreDistinct (xs ++ ys) → AreDistinct ys
distinct_back [] ys distinct = distinct
distinct_back (x ∷ xs) ys distinct = distinct_back xs ys distinct.1

pub first_distinct : (xs ys : List (Seen WordStep)) → AreDistinct (all_devices (xs ++ ys)) →
    AreDistinct (all_devices xs)
first_distinct xs ys distinct =
    distinct_front (all_devices xs) (all_devices ys)
    (subst AreDistinct (map-append devices_of xs ys) distinct)

pub second_distinct : (xs ys : List (Seen WordStep)) → AreDistinct (all_devices (xs ++ ys)) →
    AreDistinct (all_devices ys)
second_distinct xs ys distinct =
    distinct_back (all_devices xs) (all_devices ys)
    (subst AreDistinct (map-append devices_of xs ys) distinct)
