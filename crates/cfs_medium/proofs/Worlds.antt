-- Worlds with other slots at one number.
use Rattle.std.proofs.Common.{◌≡◌, ◌≢◌, inl, inr, ℕ, ◌<◌, ◌==◌, Bool, true, false, if◌then◌else◌, List, ◌∷◌, length, arith, refl, sym, ap, ◌∙◌}
use Rattle.std.proofs.Math.Path.{fun_ext}
use Rattle.std.proofs.lemmas.Bool.Decides.{nat_tests}
use Rattle.cfs_core.proofs.Legal.{same_number}
use Rattle.cfs_pmem.specs.declared.trace.Asked.{Asked}
use Rattle.cfs_pmem.specs.Asks.{AreStepsOn}
use Rattle.cfs_pmem.specs.Images.{Seen, WordStep, IsImage, devices_of, stepped}
use Rattle.cfs_pmem.specs.Moments.{Moments}
use Rattle.cfs_pmem.specs.Objects.{IsBehind}
use Rattle.cfs_pmem.proofs.AllMomentLemmas.{among}
use Rattle.cfs_medium.specs.World.{MayRemain, Remains, World}
use Rattle.cfs_medium.specs.WorldCalls.{HasSlots, IsWorldCall, WorldMoments, of_slot, with_slots}
use Rattle.cfs_medium.proofs.Left.{equal_test}

-- ---- slots at a number, and at others

pub at_place : {X : Type 0} → (place : ℕ) (one other : X) → (if place == place then one else other) ≡ one
at_place place one other = rw (equal_test place) refl

pub at_other : {X : Type 0} → (at place : ℕ) (one other : X) → at ≢ place →
    (if at == place then one else other) ≡ other
at_other at place one other differs =
    let test : (at == place) ≡ false = grind (arith, nat_tests) in
    rw test refl

slots-same : (place : ℕ) (seens : List (Seen WordStep)) (world : World) → world.slots place ≡ seens →
    (other : ℕ) → (if other == place then seens else world.slots other) ≡ world.slots other
slots-same place seens world here other = test (other == place) refl
  where
    test : (b : Bool) → (other == place) ≡ b →
        (if other == place then seens else world.slots other) ≡ world.slots other
    test true is = rw is (sym here ∙ ap (λ (p : ℕ). world.slots p) (sym (same_number other place is)))
    test false is = rw is refl

-- a world that has these slots there already
pub same_world : (place : ℕ) (seens : List (Seen WordStep)) (world : World) →
    world.slots place ≡ seens → with_slots place seens world ≡ world
same_world place seens world here =
    ap (λ (f : ℕ → List (Seen WordStep)). record world { slots = f })
    (fun_ext (slots-same place seens world here))

replaced : (place : ℕ) (old new : List (Seen WordStep)) (world : World) →
    HasSlots place new (with_slots place old world) (with_slots place new world)
replaced place old new world = record {
  size = refl;
  here = at_place place new (world.slots place);
  others = λ other differs.
      at_other other place new (world.slots other) differs
      ∙ sym (at_other other place old (world.slots other) differs);
  blocks = λ block. refl;
}

-- ---- a call on the head at a number

head_call : (place : ℕ) (tails : List (Seen WordStep)) (world : World) (asked : List Asked)
    (seen now : Seen WordStep) → IsBehind seen now → 0 < length asked →
    AreStepsOn (devices_of seen) asked →
    IsWorldCall asked (with_slots place (seen ∷ tails) world) (with_slots place (now ∷ tails) world)
head_call place tails world asked seen now behind some own =
    let here : (with_slots place (seen ∷ tails) world).slots place ≡ seen ∷ tails =
    at_place place (seen ∷ tails) (world.slots place) in
    of_slot place 0 now (rw here (omega arith)) (rw here behind)
    (rw here (record { some = some; own = own }))
    (rw here (replaced place (seen ∷ tails) (now ∷ tails) world))

-- The moments of a call on it: what is left there is an image with P, beside images of all others.
pub head_moments : (place : ℕ) (tails : List (Seen WordStep)) (world : World) (P : List ℕ → Type 0)
    (Q : Remains → Type 0) {asked_old asked_new : List Asked} {old new : Seen WordStep} →
    ((seen : Seen WordStep) → ((image : List ℕ) → IsImage seen.history image → P image) →
    (remains : Remains) → MayRemain (with_slots place (seen ∷ tails) world) remains → Q remains) →
    Moments IsImage P asked_old old asked_new new →
    WorldMoments Q asked_old (with_slots place (old ∷ tails) world) asked_new
    (with_slots place (new ∷ tails) world)
head_moments place tails world P Q {asked_old} {asked_new} {old} {new} gives moments =
    among tt
    (record {
      tick = λ step asked seen numbers some own.
          head_call place tails world asked seen (stepped step seen) (inr (step, refl)) some
          (rw numbers own);
      look = λ asked seen numbers some own.
          head_call place tails world asked seen seen (inl refl) some (rw numbers own);
      gives = gives;
    }) moments
