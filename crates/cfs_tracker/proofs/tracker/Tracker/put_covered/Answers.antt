use Rattle.cfs_tracker.specs.View.{view_of}
use Rattle.cfs_tracker.proofs.Putting.{entries-are}
use Rattle.cfs_tracker.proofs.Skips.{follows-unclosed}
use Rattle.cfs_tracker.proofs.tracker.Tracker.put_covered.Goals as goal

pub returns-clause-follows : goal.returns-clause-follows
returns-clause-follows g c = λ core follows.
    entries-are (view_of c.args.self.now) core c.redo.ensures.items
    (follows-unclosed (view_of c.args.self.now) core c.args.place c.args.slots c.requires follows)
