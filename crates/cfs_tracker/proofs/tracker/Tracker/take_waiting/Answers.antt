use Rattle.std.proofs.Common.{◌≡◌, arith, Some, refl}
use Rattle.cfs_tracker.specs.Dispatch.{waiting_slots}
use Rattle.cfs_tracker.specs.View.{entry_at, view_of}
use Rattle.cfs_tracker.proofs.Putting.{same-view}
use Rattle.cfs_tracker.proofs.Marking.{follows-marking}
use Rattle.cfs_tracker.proofs.tracker.Tracker.take_waiting.Goals as goal

pub returns-clause-follows : goal.returns-clause-follows
returns-clause-follows g c = λ core follows.
    let slots : waiting_slots (entry_at c.args.self.now.entries.items c.args.place) ≡ Some c.in-Some-Waiting.slots = grind arith in
    same-view (rw c.redo.ensures.items refl)
    (follows-marking (view_of c.args.self.now) core c.args.place c.in-Some-Waiting.slots slots follows)
