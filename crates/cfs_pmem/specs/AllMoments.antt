-- The moments of a call on several objects, whatever they are: `World` is what they have come to.
use Rattle.std.specs.Prelude.{ℕ, ◌≡◌, List, [], ◌∷◌, ◌++◌}
use Rattle.cfs_pmem.specs.declared.trace.Asked.{Asked}
use Rattle.cfs_pmem.specs.Asks.{IsOneOf}

-- One call on one of the objects: what it asked of the power, and the world behind it. Calls are
-- listed as steps are, the
-- newest first.
pub record Passed (World : Type 0) : Type 0 where
  pub asked : List Asked
  pub world : World

-- the world behind all of them
abbrev pub newest : {World : Type 0} → List (Passed World) → World → World
newest [] old = old
newest (call ∷ before) old = call.world

-- what they asked
abbrev pub asked_by : {World : Type 0} → List (Passed World) → List Asked
asked_by [] = []
asked_by (call ∷ before) = call.asked ++ asked_by before

-- Each call leads from the world before it to that behind it, and in each of these worlds each
-- image has P.
-- `IsImage` says what an image of a world is, and `IsCall` what one call on one object may do to a
-- world.
abbrev pub Leads : {World Image : Type 0} → (World → Image → Type 0) →
    (List Asked → World → World → Type 0) → (Image → Type 0) → World → List (Passed World) → Type 0
Leads {World} {Image} IsImage IsCall P old [] = (image : Image) → IsImage old image → P image
Leads {World} {Image} IsImage IsCall P old (call ∷ before) =
    ((image : Image) → IsImage call.world image → P image)
    × IsCall call.asked (newest before old) call.world × Leads IsImage IsCall P old before

-- no device is in both lists of device numbers
abbrev pub AreApart : List ℕ → List ℕ → Type 0
AreApart one other = (device : ℕ) → IsOneOf one device → IsOneOf other device → ⊥

abbrev pub IsApartFrom : List ℕ → List (List ℕ) → Type 0
IsApartFrom one [] = Unit {0}
IsApartFrom one (other ∷ rest) = AreApart one other × IsApartFrom one rest

-- no device is in two of the lists
abbrev pub AreDistinct : List (List ℕ) → Type 0
AreDistinct [] = Unit {0}
AreDistinct (one ∷ rest) = IsApartFrom one rest × AreDistinct rest

-- A call is made of calls on one object each, in this order, and at each moment each image of the
-- world has P.
-- The objects have distinct device numbers, as `devices` gives them, so each step in the power's
-- history is one object's.
pub record AllMoments {World Image : Type 0} (devices : World → List (List ℕ))
    (IsImage : World → Image → Type 0)
    (IsCall : List Asked → World → World → Type 0) (P : Image → Type 0)
    (asked_old : List Asked) (old : World) (asked_new : List Asked) (new : World) : Type 0 where
  pub distinct : AreDistinct (devices old)
  pub passed : List (Passed World)
  pub ends : newest passed old ≡ new
  pub asked : asked_new ≡ asked_by passed ++ asked_old
  pub each : Leads IsImage IsCall P old passed
