use Rattle.std.proofs.Common.{◌≡◌, arith, Some}
use Rattle.cfs_tracker.specs.Skip.{covered_slots}
use Rattle.cfs_tracker.specs.View.{entry_at, view_of}
use Rattle.cfs_tracker.proofs.Putting.{entries-are}
use Rattle.cfs_tracker.proofs.Skips.{follows-closing}
use Rattle.cfs_tracker.proofs.tracker.Tracker.take_covered.Goals as goal

pub returns-clause-follows : goal.returns-clause-follows
returns-clause-follows g c = λ core follows.
    let slots : covered_slots (entry_at c.args.self.now.entries.items c.args.place) ≡ Some c.in-Some-Covered.slots = grind (arith) in
    entries-are (view_of c.args.self.now) core c.redo.ensures.items
    (follows-closing (view_of c.args.self.now) core c.args.place c.in-Some-Covered.slots slots follows)
