use Rattle.cfs_tracker.specs.View.{view_of}
use Rattle.cfs_tracker.proofs.JobSteps.{follows-flush, follows-write}
use Rattle.cfs_tracker.proofs.tracker.Tracker.follows_jobs.Goals as goal

pub returns-clause-writes : goal.returns-clause-writes
returns-clause-writes g c = λ core place block left follows h.
    follows-write (view_of c.args.self.now) core place block left follows h

pub returns-clause-flushes : goal.returns-clause-flushes
returns-clause-flushes g c = λ core place block ok follows h.
    follows-flush (view_of c.args.self.now) core place block ok follows h
