-- Reads and syncs of a state.
use Rattle.std.specs.Prelude.{ℕ, List, [], ◌∷◌}
use Rattle.cfs_file.specs.declared.entry.Entry.{Entry}
use Rattle.cfs_file.specs.declared.request.Request.{Request}
use Rattle.cfs_core.specs.declared.event.Event.{Event}
use Rattle.cfs_core.specs.declared.event.Event.TheVariants as events
use Rattle.cfs_pmem.specs.declared.trace.Asked.{Asked}
use Rattle.cfs_tracker.specs.Reads.{read_admitted, read_ended}
use Rattle.cfs_inode.specs.Makes.{CallMakes}
use Rattle.cfs_inode.specs.Opening.{IsNext}
use Rattle.cfs_inode.specs.View.{StateView}

-- one takes the next place, and one is answered or dropped
abbrev pub with_read : Request → StateView → StateView
with_read request state = record state { tracker = read_admitted request state.tracker }

abbrev pub without_read : ℕ → StateView → StateView
without_read place state = record state { tracker = read_ended place state.tracker }

-- A call that asks for no step of a device is these events.
abbrev pub QuietlyMakes : List Event → StateView → StateView → Type 0
QuietlyMakes events old new = (asked : List Asked) → CallMakes events asked old asked new

-- A call is the admission of a read or a sync, whoever the line names.
abbrev pub ReadMakes : Request → StateView → StateView → Type 0
ReadMakes request old new =
    (entry : Entry) → IsNext old request entry →
    QuietlyMakes (events.AdmitRead entry ∷ []) old new
