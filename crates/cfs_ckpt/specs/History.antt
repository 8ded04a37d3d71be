-- Stores one after another, and what a crash may load behind them.
use Rattle.std.specs.Prelude.{◌≡◌, ◌⊎◌, Bool, true, false, List, [], ◌∷◌}
use Rattle.cfs_pmem.specs.declared.trace.Asked.{Asked}
use Rattle.cfs_pmem.specs.Images.{Seen, WordStep, IsImage}
use Rattle.cfs_pmem.specs.Objects.{MomentsOf}
use Rattle.cfs_ckpt.specs.Loads.{CanLoad, Loaded, LoadsOnly, loaded}

-- the moments of one store: an image loads what one could load before the call, or what is stored
abbrev pub StoreMoments : Loaded → List Asked → List (Seen WordStep) → List Asked
    → List (Seen WordStep) → Type 0
StoreMoments what asked_old old asked_new new =
    MomentsOf IsImage (λ images. CanLoad old (loaded images) ⊎ (loaded images ≡ what))
    asked_old old asked_new new

-- a store: what it stores, whether it answered Ok, and what it left
pub record Stored : Type 0 where
  pub what : Loaded
  pub well : Bool
  pub asked : List Asked
  pub seens : List (Seen WordStep)

-- what the newest of some stores left
abbrev pub asked_behind : List Stored → List Asked → List Asked
asked_behind [] asked = asked
asked_behind (store ∷ before) asked = store.asked

abbrev pub seens_behind : List Stored → List (Seen WordStep) → List (Seen WordStep)
seens_behind [] seens = seens
seens_behind (store ∷ before) seens = store.seens

-- each of these calls, the newest first, is a store as its contract tells it
abbrev pub AreStores : List Asked → List (Seen WordStep) → List Stored → Type 0
AreStores asked seens [] = Unit {0}
AreStores asked seens (store ∷ before) =
    StoreMoments store.what
    (asked_behind before asked) (seens_behind before seens) store.asked store.seens
    × (store.well ≡ true → LoadsOnly store.seens store.what)
    × AreStores asked seens before

-- of the last store that answered Ok, or of one since; until one has, what the checkpoint was made
-- with stands in place of the last one
abbrev pub IsOneSince : Loaded → List Stored → Loaded → Type 0
IsOneSince made [] x = x ≡ made
IsOneSince made (store ∷ before) x =
    (x ≡ store.what) ⊎ ((store.well ≡ false) × IsOneSince made before x)

-- Behind stores, a crash loads what the last one stored that answered Ok, or one since.
abbrev pub CrashesLoadStores : Type 0
CrashesLoadStores =
    (made : Loaded) (asked : List Asked) (seens : List (Seen WordStep)) (stores : List Stored)
    (x : Loaded) → LoadsOnly seens made → AreStores asked seens stores →
    CanLoad (seens_behind stores seens) x → IsOneSince made stores x

-- And at each moment of one more store, it loads that or what this one stores.
abbrev pub CrashesInAStore : Type 0
CrashesInAStore =
    (made : Loaded) (asked : List Asked) (seens : List (Seen WordStep)) (stores : List Stored)
    (what : Loaded) (asked_new : List Asked) (new : List (Seen WordStep)) →
    LoadsOnly seens made → AreStores asked seens stores →
    StoreMoments what (asked_behind stores asked) (seens_behind stores seens) asked_new new →
    MomentsOf IsImage
    (λ images. IsOneSince made stores (loaded images) ⊎ (loaded images ≡ what))
    (asked_behind stores asked) (seens_behind stores seens) asked_new new
