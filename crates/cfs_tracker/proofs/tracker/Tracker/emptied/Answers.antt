use Rattle.cfs_tracker.specs.View.{view_of}
use Rattle.cfs_tracker.proofs.Purging.{emptied-view}
use Rattle.cfs_tracker.proofs.tracker.Tracker.emptied.Goals as goal

pub returns-clause-view : goal.returns-clause-view
returns-clause-view g c =
    emptied-view (view_of c.args.self.now) c.args.self.now.covers_file c.requires.unused
    c.requires.bare
