use Rattle.std.proofs.Common.{◌∙◌, refl}
use Rattle.cfs_tracker.specs.View.{view_of}
use Rattle.cfs_tracker.proofs.Putting.{same-view}
use Rattle.cfs_tracker.proofs.Finishing.{follows-unsure}
use Rattle.cfs_tracker.proofs.tracker.Tracker.size_unsure.Goals as goal

pub returns-clause-follows : goal.returns-clause-follows
returns-clause-follows g c = λ core follows.
    let ends = follows-unsure (view_of c.args.self.now) core c.args.place c.args.slots c.args.first c.args.second c.requires follows in
    (ends.0, same-view (c.put_back.ensures.view ∙ rw c.size_after-self.ensures refl) ends.1)
