-- A change is admitted beside the jobs that are out.
use Rattle.std.specs.Prelude.{ℕ, ◌≡◌, Bool, List, [], ◌∷◌}
use Rattle.cfs_file.specs.declared.entry.Entry.{Entry}
use Rattle.cfs_file.specs.declared.request.Request.{Request}
use Rattle.cfs_pmem.specs.declared.trace.Asked.{Asked}
use Rattle.cfs_inode.specs.Admitting.{AdmitEnd, Admits, admit_events}
use Rattle.cfs_inode.specs.Ends.{CloseEnd}
use Rattle.cfs_inode.specs.Opening.{IsNext}
use Rattle.cfs_inode.specs.Tagging.{Blocks}
use Rattle.cfs_inode.specs.View.{Seens}
use Rattle.cfs_core.specs.declared.event.Event.TheVariants as events
use Rattle.cfs_active.specs.Makes.{ActiveMakes, QuietlyMakes}
use Rattle.cfs_active.specs.View.{ActiveView}

-- What `admit` leaves: the state as it admits, and the jobs as they were. The call is these events,
-- whoever the line names.
pub record AdmitMakes (words tags keeps : Bool) (request : Request) (grant : ℕ) (staged : Seens)
    (close : CloseEnd) (end : AdmitEnd) (asked_old : List Asked) (stock_old : Blocks)
    (old : ActiveView) (asked_new : List Asked) (stock_new : Blocks) (new : ActiveView)
    : Type 0 where
  pub did : Admits words tags keeps request grant staged asked_old stock_old old.state asked_new
      stock_new new.state close end
  pub jobs : new.jobs ≡ old.jobs
  pub makes : (entry : Entry) → IsNext old.state request entry →
      ActiveMakes (admit_events did entry) asked_old old asked_new new

-- The admission of a read or a sync, whoever the line names.
abbrev pub ReadMakes : Request → ActiveView → ActiveView → Type 0
ReadMakes request old new =
    (entry : Entry) → IsNext old.state request entry →
    QuietlyMakes (events.AdmitRead entry ∷ []) old new
