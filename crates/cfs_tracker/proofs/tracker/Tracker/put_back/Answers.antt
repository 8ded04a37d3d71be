use Rattle.std.proofs.Common.{refl}
use Rattle.cfs_tracker.specs.View.{view_of}
use Rattle.cfs_tracker.proofs.Putting.{same-view}
use Rattle.cfs_tracker.proofs.Finishing.{follows-back}
use Rattle.cfs_tracker.proofs.tracker.Tracker.put_back.Goals as goal

pub returns-clause-follows : goal.returns-clause-follows
returns-clause-follows g c = λ core follows.
    let ends = follows-back (view_of c.args.self.now) core c.args.place c.args.slots c.args.first c.args.second c.requires follows in
    (ends.0, same-view (rw (c.redo.ensures.items, c.bring_both.ensures.items) refl) ends.1)
