-- When a call is a list of events.
use Rattle.std.specs.Prelude.{ℕ, ◌+◌, ◌≤◌, ◌⊎◌, List, [], ◌∷◌, length}
use Rattle.cfs_core.specs.declared.event.Event.{Event}
use Rattle.cfs_core.specs.declared.inode_core.Core.{Core}
use Rattle.cfs_core.specs.After.{after}
use Rattle.cfs_core.specs.Run.{IsRun, after_all}
use Rattle.cfs_core.specs.Within.{within}
use Rattle.cfs_job.specs.Views.{JobView}
use Rattle.cfs_pmem.specs.declared.trace.Asked.{Asked}
use Rattle.cfs_medium.specs.Shows.{Recovers}
use Rattle.cfs_medium.specs.World.{World}
use Rattle.cfs_medium.specs.WorldCalls.{WorldMoments}
use Rattle.cfs_inode.specs.View.{StateView}
use Rattle.cfs_inode.specs.Stands.{Together}

-- P of the core behind one of these events
abbrev pub BehindOne : (Core → Type 0) → Core → List Event → Type 0
BehindOne P core [] = ⊥
BehindOne P core (event ∷ events) = P (after core event) ⊎ BehindOne P core events

-- P of a core that the events come by: the first one, one behind some of them, or one in which the
-- device steps of the next event are under way.
abbrev pub AnyBetween : (Core → Type 0) → Core → List Event → Type 0
AnyBetween P core [] = P core
AnyBetween P core (event ∷ events) =
    P core ⊎ (BehindOne P core (within core event) ⊎ AnyBetween P (after core event) events)

-- Places below n are enough to look at in each core that the events come by.
abbrev pub AreEnough : ℕ → Core → List Event → Type 0
AreEnough n core [] = length core.log + 2 ≤ n
AreEnough n core (event ∷ events) =
    (length core.log + 2 ≤ n) × AreEnough n (after core event) events

-- The events may come one after another. At each moment of the device calls that lead from one
-- world to the other, whatever a crash leaves recovers the file of a core that they come by. Behind
-- them the core and the world have Q.
pub record Made (ino : ℕ) (events : List Event) (Q : Core → World → Type 0)
    (core : Core) (asked_old : List Asked) (old : World) (asked_new : List Asked) : Type 0 where
  pub run : IsRun core events
  pub world : World
  pub moments : (n : ℕ) → AreEnough n core events →
      WorldMoments (λ remains. AnyBetween (λ one. Recovers ino n one remains) core events)
      asked_old old asked_new world
  pub stands : Q (after_all core events) world

-- the same from each core and world that have P
abbrev pub Makes : ℕ → (Core → World → Type 0) → List Event → List Asked → List Asked →
    (Core → World → Type 0) → Type 0
Makes ino P events asked_old asked_new Q =
    (core : Core) (world : World) → P core world → Made ino events Q core asked_old world asked_new

-- A call of a state is these events, whichever of its jobs are beside it as they are.
abbrev pub CallMakes : List Event → List Asked → StateView → List Asked → StateView → Type 0
CallMakes events asked_old old asked_new new =
    (jobs : List JobView) →
    Makes old.ino (Together old jobs) events asked_old asked_new (Together new jobs)
