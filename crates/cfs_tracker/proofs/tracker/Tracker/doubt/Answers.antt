use Rattle.std.proofs.Common.{refl}
use Rattle.cfs_tracker.specs.View.{view_of}
use Rattle.cfs_tracker.proofs.Putting.{same-view}
use Rattle.cfs_tracker.proofs.Admissions.{follows-doubted}
use Rattle.cfs_tracker.proofs.tracker.Tracker.doubt.Goals as goal

pub returns-clause-follows : goal.returns-clause-follows
returns-clause-follows g c = λ core entry follows next same.
    let doubts = follows-doubted (view_of c.args.self.now) core c.args.request.now entry c.args.grant c.args.slots c.requires.admits follows next same in
    (doubts.0, same-view (rw c.span_of.ensures.exact refl) doubts.1)
