use Rattle.cfs_tracker.specs.View.{view_of}
use Rattle.cfs_tracker.proofs.Named.{named-marks}
use Rattle.cfs_tracker.proofs.tracker.Tracker.named_may_be_marked.Goals as goal

pub returns : goal.returns
returns g c = λ core follows. named-marks (view_of c.args.self.now) core follows
