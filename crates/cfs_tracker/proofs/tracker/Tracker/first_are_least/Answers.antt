use Rattle.cfs_tracker.specs.View.{view_of}
use Rattle.cfs_tracker.proofs.Leasts.{no-entry-less, no-less-for-reads, no-read-less}
use Rattle.cfs_tracker.proofs.tracker.Tracker.first_are_least.Goals as goal

pub returns-clause-entries : goal.returns-clause-entries
returns-clause-entries g c = λ core follows. no-entry-less (view_of c.args.self.now) core follows

pub returns-clause-reads : goal.returns-clause-reads
returns-clause-reads g c = λ core follows. no-read-less (view_of c.args.self.now) core follows

pub returns-clause-for_reads : goal.returns-clause-for_reads
returns-clause-for_reads g c = λ core follows. no-less-for-reads (view_of c.args.self.now) core follows
