-- When a call is a list of events.
use Rattle.std.specs.Prelude.{List}
use Rattle.cfs_core.specs.declared.event.Event.{Event}
use Rattle.cfs_pmem.specs.declared.trace.Asked.{Asked}
use Rattle.cfs_inode.specs.Makes.{Makes}
use Rattle.cfs_inode.specs.Stands.{Together}
use Rattle.cfs_active.specs.View.{ActiveView}

-- A call is these events, from every core and world that the state and its jobs stand for: then
-- they stand for what comes behind. At each moment of the call, whatever a crash leaves recovers
-- the file of a core that the events come by.
abbrev pub ActiveMakes : List Event → List Asked → ActiveView → List Asked → ActiveView → Type 0
ActiveMakes events asked_old old asked_new new =
    Makes old.state.ino (Together old.state old.jobs) events asked_old asked_new
    (Together new.state new.jobs)

-- so is one that asks for no step of a device
abbrev pub QuietlyMakes : List Event → ActiveView → ActiveView → Type 0
QuietlyMakes events old new = (asked : List Asked) → ActiveMakes events asked old asked new
