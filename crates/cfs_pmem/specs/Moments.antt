-- The moments of a call on one object.
use Rattle.std.specs.Prelude.{ℕ, suc, ◌+◌, ◌<◌, ◌≤◌, ◌≡◌, List, [], ◌∷◌, ◌++◌, length, drop}
use Rattle.cfs_pmem.specs.declared.trace.Asked.{Asked}
use Rattle.cfs_pmem.specs.Images.{Seen, devices_of}
use Rattle.cfs_pmem.specs.Asks.{AreStepsOn}

-- One call of a device, with what it asked of the power, the newest first: one that wrote, and is
-- one tick of the
-- object's clock, or one that read.
pub data Call : Type 0 where
  ticking : List Asked → Call
  reading : List Asked → Call

-- of a list of calls, the newest first: how many of them ticked
abbrev pub ticks_in : List Call → ℕ
ticks_in [] = 0
ticks_in (ticking asked ∷ before) = suc (ticks_in before)
ticks_in (reading asked ∷ before) = ticks_in before

-- and what they asked
abbrev pub asked_in : List Call → List Asked
asked_in [] = []
asked_in (ticking asked ∷ before) = asked ++ asked_in before
asked_in (reading asked ∷ before) = asked ++ asked_in before

-- each of them asked for steps of these devices alone, and for one at least
abbrev pub AreCallsOn : List ℕ → List Call → Type 0
AreCallsOn devices [] = Unit {0}
AreCallsOn devices (ticking asked ∷ before) =
    (0 < length asked) × AreStepsOn devices asked × AreCallsOn devices before
AreCallsOn devices (reading asked ∷ before) =
    (0 < length asked) × AreStepsOn devices asked × AreCallsOn devices before

-- At each moment of a call, before its first step, between two steps and after its last one, each
-- image has P.
-- `IsImage` says what an image of a history is: that of regions here, that of blocks in the crate
-- of blocks.
pub record Moments {Form Image : Type 0} (IsImage : List Form → Image → Type 0) (P : Image → Type 0)
    (asked_old : List Asked) (old : Seen Form) (asked_new : List Asked)
    (new : Seen Form) : Type 0 where
  -- it is made of these calls, each on the object's own devices, and its clock rose by one for each
  -- that ticked
  pub calls : List Call
  pub own : AreCallsOn (devices_of old) calls
  pub asked : asked_new ≡ asked_in calls ++ asked_old
  pub same : new.device ≡ old.device
  pub same_also : new.also ≡ old.also
  pub clock : length new.history ≡ ticks_in calls + length old.history
  -- the past stays as it was
  pub before : drop (ticks_in calls) new.history ≡ old.history
  pub each : (ago : ℕ) → ago ≤ ticks_in calls → (image : Image)
      → IsImage (drop ago new.history) image → P image
