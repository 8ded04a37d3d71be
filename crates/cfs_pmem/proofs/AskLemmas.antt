-- What calls ask of a power.
use Rattle.std.proofs.Common.{ℕ, ◌≡◌, Bool, List, [], ◌∷◌, ◌++◌, inl, inr, refl, arith}
use Rattle.cfs_pmem.specs.declared.trace.Asked.{Asked}
use Rattle.cfs_pmem.specs.declared.trace.Asked.TheVariants.{Step, Stopped, Planned, Revived}
use Rattle.cfs_pmem.specs.Asks.{IsOneOf, AreStepsOn, AsksSome}

-- one step of a device
pub asks_one : {device : ℕ} {also : List ℕ} {writing allowed : Bool} {old new : List Asked}
    → new ≡ Step device writing allowed ∷ old → AsksSome (device ∷ also) old new
asks_one {device} {also} {writing} {allowed} {old} {new} e =
    record { made = Step device writing allowed ∷ []; some = omega arith; own = (inl refl, tt); is = e }

pub own_both : (devices : List ℕ) (later earlier : List Asked) → AreStepsOn devices later → AreStepsOn devices earlier → AreStepsOn devices (later ++ earlier)
own_both devices [] earlier a b = b
own_both devices (entry ∷ later) earlier a b = (a.0, own_both devices later earlier a.1 b)

-- steps of some devices are steps of more devices

one_left : (devices more : List ℕ) (device : ℕ) → IsOneOf devices device → IsOneOf (devices ++ more) device
one_left [] more device h = absurd h
one_left (first ∷ rest) more device h = elim h as (λ _. IsOneOf ((first ∷ rest) ++ more) device) [
  | inl is ↦ inl is
  | inr there ↦ inr (one_left rest more device there)
]

one_right : (devices more : List ℕ) (device : ℕ) → IsOneOf more device → IsOneOf (devices ++ more) device
one_right [] more device h = h
one_right (first ∷ rest) more device h = inr (one_right rest more device h)

pub steps_left : (devices more : List ℕ) (asked : List Asked) → AreStepsOn devices asked → AreStepsOn (devices ++ more) asked
steps_left devices more [] h = tt
steps_left devices more (Step device writing allowed ∷ before) h = (one_left devices more device h.0, steps_left devices more before h.1)
steps_left devices more (Stopped n ∷ before) h = absurd h.0
steps_left devices more (Planned device writing k ∷ before) h = absurd h.0
steps_left devices more (Revived ∷ before) h = absurd h.0

pub steps_right : (devices more : List ℕ) (asked : List Asked) → AreStepsOn more asked → AreStepsOn (devices ++ more) asked
steps_right devices more [] h = tt
steps_right devices more (Step device writing allowed ∷ before) h = (one_right devices more device h.0, steps_right devices more before h.1)
steps_right devices more (Stopped n ∷ before) h = absurd h.0
steps_right devices more (Planned device writing k ∷ before) h = absurd h.0
steps_right devices more (Revived ∷ before) h = absurd h.0
