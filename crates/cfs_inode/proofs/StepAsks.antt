-- The reads of a job's slots, as moments of its devices.
use Rattle.std.proofs.Common.{◌≡◌, ◌+◌, ◌<◌, ◌⊎◌, ◌++◌, arith, inl, inr, length, List}
use Rattle.std.proofs.Common.{[], ◌∷◌, refl, subst, sym, ℕ, zero, suc}
use Rattle.std.specs.List.{flat_map}
use Rattle.std.proofs.lemmas.List.{set-get_or}
use Rattle.cfs_pmem.specs.declared.trace.Asked.{Asked}
use Rattle.cfs_pmem.specs.declared.trace.Asked.TheVariants.{Step, Stopped, Planned, Revived}
use Rattle.cfs_pmem.specs.Asks.{AreStepsOn, IsOneOf, IsStepOn}
use Rattle.cfs_pmem.specs.Images.{Seen, WordStep, devices_of}
use Rattle.cfs_pmem.specs.Objects.{seen_at}
use Rattle.cfs_pmem.proofs.AllMomentLemmas.{all_after, all_begun}
use Rattle.cfs_slot.specs.Payload.{AsksOnly}
use Rattle.cfs_medium.specs.World.{AllRemains, Remains, World}
use Rattle.cfs_medium.specs.WorldCalls.{IsWorldCall, WorldMoments, of_slot}

one-of-both : (devices more : List ℕ) (device : ℕ) → IsOneOf (devices ++ more) device →
    IsOneOf devices device ⊎ IsOneOf more device
one-of-both [] more device h = inr h
one-of-both (first ∷ rest) more device h =
    elim h as (λ _. IsOneOf (first ∷ rest) device ⊎ IsOneOf more device) [
      | inl is ↦ inl (inl is)
      | inr there ↦ elim (one-of-both rest more device there) [
        | inl early ↦ inl (inr early)
        | inr late ↦ inr late
      ]
    ]

-- a device is that of one of the slots
record IsAt (seens : List (Seen WordStep)) (device : ℕ) : Type 0 where
  index : ℕ
  within_ : index < length seens
  own : IsOneOf (devices_of (seen_at seens index)) device

found : (seens : List (Seen WordStep)) (device : ℕ) →
    IsOneOf (flat_map devices_of seens) device → IsAt seens device
found [] device h = absurd h
found (seen ∷ seens) device h =
    elim (one-of-both (devices_of seen) (flat_map devices_of seens) device h) [
      | inl here ↦ record { index = zero; within_ = omega arith; own = here }
      | inr there ↦
          let later = found seens device there in
          record {
            index = suc later.index;
            within_ = omega (arith, later.within_);
            own = later.own;
          }
    ]

-- one step of one of them
read-call : (place : ℕ) (world : World) (device : ℕ) (entry : Asked) →
    ((devices : List ℕ) → IsOneOf devices device → IsStepOn devices entry) →
    IsOneOf (flat_map devices_of (world.slots place)) device →
    IsWorldCall (entry ∷ []) world world
read-call place world device entry give h =
    let at = found (world.slots place) device h in
    of_slot place at.index (seen_at (world.slots place) at.index) at.within_ (inl refl)
    (record {
      some = omega arith;
      own = (give (devices_of (seen_at (world.slots place) at.index)) at.own, tt);
    })
    (record {
      size = refl;
      here = sym (set-get_or (world.slots place) at.index
          (record { device = 0; also = []; history = [] }));
      others = λ other apart. refl;
      blocks = λ block. refl;
    })

read-step : (place : ℕ) (world : World) (entry : Asked) →
    IsStepOn (flat_map devices_of (world.slots place)) entry → IsWorldCall (entry ∷ []) world world
read-step place world (Step device writing allowed) own =
    read-call place world device (Step device writing allowed) (λ devices is. is) own
read-step place world (Stopped n) own = absurd own
read-step place world (Planned device writing k) own = absurd own
read-step place world Revived own = absurd own

steps-moments : (P : Remains → Type 0) (place : ℕ) (world : World) (asked made : List Asked) →
    AllRemains world P → AreStepsOn (flat_map devices_of (world.slots place)) made →
    WorldMoments P asked world (made ++ asked) world
steps-moments P place world asked [] all own = all_begun asked world tt all
steps-moments P place world asked (entry ∷ made) all own =
    all_after (steps-moments P place world asked made all own.1)
    (record {
      distinct = tt;
      passed = record { asked = entry ∷ []; world = world } ∷ [];
      ends = refl;
      asked = refl;
      each = (all, read-step place world entry own.0, all);
    })

-- what holds whatever a crash leaves holds at each moment of reads of slots
pub reads-moments : (P : Remains → Type 0) (place : ℕ) (slots : List (Seen WordStep))
    (world : World) (asked_old asked_new : List Asked) → AllRemains world P →
    world.slots place ≡ slots → AsksOnly (flat_map devices_of slots) asked_old asked_new →
    WorldMoments P asked_old world asked_new world
reads-moments P place slots world asked_old asked_new all here asks =
    subst (λ asked. WorldMoments P asked_old world asked world) (sym asks.is)
    (steps-moments P place world asked_old asks.made all
    (subst (λ (s : List (Seen WordStep)). AreStepsOn (flat_map devices_of s) asks.made) (sym here)
    asks.own))
