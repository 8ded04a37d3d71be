-- The steps of a job, and what two of them have to do with each other.
use Rattle.std.specs.Prelude.{◌≡◌, ℕ, ◌/◌, Bool, true, Option, List, get_or}
use Rattle.cfs_file.specs.declared.sizes.TheConstants.{BLOCK_LEN}
use Rattle.cfs_core.specs.declared.event.Event.{Event}
use Rattle.cfs_core.specs.declared.event.Event.TheVariants as events
use Rattle.cfs_core.specs.declared.inode_core.Core.{Core}
use Rattle.cfs_core.specs.Words.{track}
use Rattle.cfs_core.specs.Medium.{is_loose}
use Rattle.cfs_core.specs.May.{may}
use Rattle.cfs_core.specs.After.{after}

-- what a job does to one of its blocks
pub data JobStep : Type 0 where
  -- a write, with what it left where it failed
  writes : Option (List ℕ) → JobStep
  -- a flush, which may fail
  flushes : Bool → JobStep

abbrev pub step_of : ℕ → ℕ → JobStep → Event
step_of place block (writes left) = events.BlockWrite place block left
step_of place block (flushes ok) = events.Flush place block ok

-- from the one core to the other only the track of the place and the block changed
pub record StaysInside (place block : ℕ) (core new : Core) : Type 0 where
  pub tracks : (other : ℕ) → (other ≡ place → ⊥) → track new.tracks other ≡ track core.tracks other
  pub bytes : (p : ℕ) → (p / BLOCK_LEN ≡ block → ⊥) → get_or new.bytes p 0 ≡ get_or core.bytes p 0
  pub loose : (p : ℕ) → (p / BLOCK_LEN ≡ block → ⊥) → is_loose new.loose p ≡ is_loose core.loose p
  pub rest : new ≡ record core { tracks = new.tracks; bytes = new.bytes; loose = new.loose }

-- the same core, but that its stretches may stand otherwise: the same positions are loose
pub record AreAlike (one other : Core) : Type 0 where
  pub same : one ≡ record other { loose = one.loose }
  pub loose : (p : ℕ) → is_loose one.loose p ≡ is_loose other.loose p

-- each may come after the other, and both orders make the same
pub record Commute (core : Core) (first second : Event) : Type 0 where
  pub then_second : may (after core first) second ≡ true
  pub then_first : may (after core second) first ≡ true
  pub alike : AreAlike (after (after core first) second) (after (after core second) first)
