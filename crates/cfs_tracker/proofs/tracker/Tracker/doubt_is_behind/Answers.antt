use Rattle.cfs_tracker.specs.View.{view_of}
use Rattle.cfs_tracker.proofs.Behind.{doubt-behind}
use Rattle.cfs_tracker.proofs.tracker.Tracker.doubt_is_behind.Goals as goal

pub returns : goal.returns
returns g c = λ core place entry doubt follows there is.
    doubt-behind (view_of c.args.self.now) core place entry doubt follows there is
