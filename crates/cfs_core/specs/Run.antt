-- Lists of events.
use Rattle.std.specs.Prelude.{◌≡◌, ℕ, true, false, Some, List, [], ◌∷◌, take}
use Rattle.std.specs.List.{slice_get}
use Rattle.cfs_core.specs.declared.event.Event.{Event}
use Rattle.cfs_core.specs.declared.inode_core.Core.{Core}
use Rattle.cfs_core.specs.Fresh.{IsFresh}
use Rattle.cfs_core.specs.May.{may}
use Rattle.cfs_core.specs.After.{after}

-- each event may come in the core that those before it made
abbrev pub IsRun : Core → List Event → Type 0
IsRun core [] = Unit {0}
IsRun core (event ∷ events) = (may core event ≡ true) × IsRun (after core event) events

-- the core after the events
abbrev pub after_all : Core → List Event → Core
after_all core [] = core
after_all core (event ∷ events) = after_all (after core event) events

-- Event `at`, from 0, is the first that may not come.
pub record IsRefusal (at : ℕ) (core : Core) (events : List Event) : Type 0 where
  pub before : IsRun core (take at events)
  pub event : Event
  pub is_there : slice_get events at ≡ Some event
  pub no_case : may (after_all core (take at events)) event ≡ false

-- It holds of the core at the end of every run of a fresh core.
abbrev pub OfEveryRun : (Core → Type 0) → Type 0
OfEveryRun holds =
    (core : Core) (events : List Event) → IsFresh core → IsRun core events →
    holds (after_all core events)
