use Rattle.cfs_tracker.proofs.Loading.{empty-ok}
use Rattle.cfs_tracker.proofs.tracker.Tracker.new.Goals as goal

pub returns-clause-follows : goal.returns-clause-follows
returns-clause-follows g c = empty-ok c.stored.result c.stored.ensures
