-- Calls on the devices of one inode.
use Rattle.std.specs.Prelude.{ℕ, ◌<◌, ◌≡◌, ◌≢◌, ◌==◌, false, Option, Some, List, [], length, if◌then◌else◌}
use Rattle.std.proofs.Math.ListN.{set}
use Rattle.cfs_pmem.specs.declared.trace.Asked.{Asked}
use Rattle.cfs_pmem.specs.AllMoments.{AllMoments}
use Rattle.cfs_pmem.specs.Asks.{AreStepsOn}
use Rattle.cfs_pmem.specs.Images.{Seen, WordStep, IsImage, devices_of}
use Rattle.cfs_pmem.specs.Objects.{IsBehind, IsEachImage, seen_at}
use Rattle.cfs_block.specs.BlockImages.{BlockStep, Content}
use Rattle.cfs_medium.specs.Shows.{is_gated}
use Rattle.cfs_medium.specs.World.{IsImageAt, MayRemain, Remains, World, head_words}

-- the world with another region for its size word, other slots at a number, or another block
abbrev pub with_size : Seen WordStep → World → World
with_size seen world = record world { size = seen }

abbrev pub with_slots : ℕ → List (Seen WordStep) → World → World
with_slots place seens world =
    record world { slots = λ other. if other == place then seens else world.slots other }

abbrev pub with_block : ℕ → Option (Seen BlockStep) → World → World
with_block block here world =
    record world { blocks = λ other. if other == block then here else world.blocks other }

-- in one world the slots at a number are these, and all else is as in the other
pub record HasSlots (place : ℕ) (seens : List (Seen WordStep)) (old new : World) : Type 0 where
  pub size : new.size ≡ old.size
  pub here : new.slots place ≡ seens
  pub others : (other : ℕ) → other ≢ place → new.slots other ≡ old.slots other
  pub blocks : (block : ℕ) → new.blocks block ≡ old.blocks block

-- and the same of a block
pub record HasBlock (block : ℕ) (here : Option (Seen BlockStep)) (old new : World) : Type 0 where
  pub size : new.size ≡ old.size
  pub slots : (place : ℕ) → new.slots place ≡ old.slots place
  pub here_is : new.blocks block ≡ here
  pub others : (other : ℕ) → other ≢ block → new.blocks other ≡ old.blocks other

-- no image of these slots has an open gate
abbrev pub AreShut : List (Seen WordStep) → Type 0
AreShut seens =
    (slots : List (List ℕ)) → IsEachImage IsImage seens slots → is_gated (head_words slots) ≡ false

-- the block is tagged in no image
abbrev pub IsBare : Option (Seen BlockStep) → Type 0
IsBare here = (content : Content) → IsImageAt here content → content.tag ≡ 0

-- a call asks for steps of these devices alone, and for one at least
pub record AsksOf {Form : Type 0} (seen : Seen Form) (asked : List Asked) : Type 0 where
  pub some : 0 < length asked
  pub own : AreStepsOn (devices_of seen) asked

-- One call on one of the devices; or slots or a block that count in no image came or went, which
-- takes no step.
pub data IsWorldCall : List Asked → World → World → Type 0 where
  of_size : {asked : List Asked} {old : World} → (now : Seen WordStep) →
      IsBehind old.size now → AsksOf old.size asked → IsWorldCall asked old (with_size now old)
  of_slot : {asked : List Asked} {old new : World} → (place index : ℕ) (now : Seen WordStep) →
      index < length (old.slots place) → IsBehind (seen_at (old.slots place) index) now →
      AsksOf (seen_at (old.slots place) index) asked →
      HasSlots place (set (old.slots place) index now) old new → IsWorldCall asked old new
  of_block : {asked : List Asked} {old new : World} → (block : ℕ) (seen now : Seen BlockStep) →
      old.blocks block ≡ Some seen → IsBehind seen now → AsksOf seen asked →
      HasBlock block (Some now) old new → IsWorldCall asked old new
  for_slots : {old new : World} → (place : ℕ) (seens : List (Seen WordStep)) →
      AreShut (old.slots place) → AreShut seens → HasSlots place seens old new →
      IsWorldCall [] old new
  for_block : {old new : World} → (block : ℕ) (here : Option (Seen BlockStep)) →
      IsBare (old.blocks block) → IsBare here → HasBlock block here old new →
      IsWorldCall [] old new

-- A world's own numbers are no matter here: whoever puts worlds together states that they differ.
abbrev pub no_numbers : World → List (List ℕ)
no_numbers world = []

-- At each moment of these calls, whatever a crash leaves has P.
abbrev pub WorldMoments : (Remains → Type 0) → List Asked → World → List Asked → World → Type 0
WorldMoments P asked_old old asked_new new =
    AllMoments no_numbers MayRemain IsWorldCall P asked_old old asked_new new
