use Rattle.cfs_tracker.specs.View.{view_of}
use Rattle.cfs_tracker.proofs.Loading.{follows-fresh}
use Rattle.cfs_tracker.proofs.tracker.Tracker.follows_fresh.Goals as goal

pub returns : goal.returns
returns g c = λ core fresh loaded. follows-fresh (view_of c.args.self.now) core fresh loaded
