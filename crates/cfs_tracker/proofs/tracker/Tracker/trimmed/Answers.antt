use Rattle.std.proofs.Common.{refl}
use Rattle.cfs_tracker.specs.View.{view_of}
use Rattle.cfs_tracker.proofs.Putting.{same-view}
use Rattle.cfs_tracker.proofs.Trimming.{follows-trimmed}
use Rattle.cfs_tracker.proofs.tracker.Tracker.trimmed.Goals as goal

pub returns-clause-follows : goal.returns-clause-follows
returns-clause-follows g c = λ core follows.
    let trims = follows-trimmed (view_of c.args.self.now) core c.args.block c.args.left c.requires.past c.requires.moving follows in
    (trims.0, same-view (rw c.left_cell.ensures refl) trims.1)
