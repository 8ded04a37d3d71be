use Rattle.cfs_tracker.specs.View.{view_of}
use Rattle.cfs_tracker.proofs.Purging.{follows-noted}
use Rattle.cfs_tracker.proofs.Putting.{entries-are}
use Rattle.cfs_tracker.proofs.tracker.Tracker.note_passed.Goals as goal

pub returns-clause-follows : goal.returns-clause-follows
returns-clause-follows g c = λ core follows.
    entries-are (view_of c.args.self.now) core c.pass.ensures.items
    (follows-noted (view_of c.args.self.now) core c.args.place follows)
