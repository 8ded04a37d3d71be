use Rattle.cfs_tracker.specs.View.{view_of}
use Rattle.cfs_tracker.proofs.Settles.{follows-settled}
use Rattle.cfs_tracker.proofs.tracker.Tracker.settled.Goals as goal

pub returns-clause-follows : goal.returns-clause-follows
returns-clause-follows g c = λ core follows.
    follows-settled (view_of c.args.self.now) core c.requires.doubt follows
