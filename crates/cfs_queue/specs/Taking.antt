-- How slots are taken.
use Rattle.std.specs.Prelude.{ℕ, ◌<◌, ◌≡◌, List, [], ◌∷◌, length}
use Rattle.std.proofs.Math.ListN.{get_or, set}
use Rattle.cfs_queue.specs.Queue.{Held, free, out, free_in}

-- The first free slot is taken, and at its number there is one that is out with place 0.
pub record TakesFirst {X : Type 0} (old : List (Held X)) (slot : X)
    (new : List (Held X)) : Type 0 where
  pub number : ℕ
  pub within : number < length old
  pub there : get_or old number (out 0) ≡ free slot
  pub first : free_in old ≡ slot ∷ free_in new
  pub after : new ≡ set old number (out 0)

-- One after another.
pub data TakesMany {X : Type 0} : List (Held X) → List X → List (Held X) → Type 0 where
  took_none : {held : List (Held X)} → TakesMany held [] held
  took_one : {old mid new : List (Held X)} {slot : X} {slots : List X}
      → TakesFirst old slot mid → TakesMany mid slots new
      → TakesMany old (slot ∷ slots) new
