-- A run with one event more.
use Rattle.std.proofs.Common.{◌≡◌, true, List, [], ◌∷◌, ◌++◌, refl}
use Rattle.cfs_core.specs.declared.event.Event.{Event}
use Rattle.cfs_core.specs.declared.inode_core.Core.{Core}
use Rattle.cfs_core.specs.May.{may}
use Rattle.cfs_core.specs.After.{after}
use Rattle.cfs_core.specs.Run.{IsRun, after_all}

pub IsRun-snoc : (core : Core) (events : List Event) (event : Event) → IsRun core events →
    may (after_all core events) event ≡ true → IsRun core (events ++ event ∷ [])
IsRun-snoc core [] event run may_be = (may_be, tt)
IsRun-snoc core (first ∷ events) event run may_be =
    (run.0, IsRun-snoc (after core first) events event run.1 may_be)

pub after_all-snoc : (core : Core) (events : List Event) (event : Event) →
    after_all core (events ++ event ∷ []) ≡ after (after_all core events) event
after_all-snoc core [] event = refl
after_all-snoc core (first ∷ events) event = after_all-snoc (after core first) events event
