use Rattle.std.proofs.Common.{refl}
use Rattle.cfs_tracker.specs.View.{view_of}
use Rattle.cfs_tracker.proofs.Putting.{same-view}
use Rattle.cfs_tracker.proofs.Marking.{follows-marked}
use Rattle.cfs_tracker.proofs.tracker.Tracker.marked.Goals as goal

pub returns-clause-follows : goal.returns-clause-follows
returns-clause-follows g c = λ core marking follows.
    let marks =
    follows-marked (view_of c.args.self.now) core c.args.place c.args.by c.args.slots
    c.args.kept marking follows in
    (marks.0, same-view (rw (c.redo.ensures.items, c.marked_doing.ensures) refl) marks.1)
