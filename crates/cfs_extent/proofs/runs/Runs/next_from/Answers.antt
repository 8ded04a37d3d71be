use Rattle.cfs_extent.proofs.Places.{ascending}
use Rattle.cfs_extent.proofs.runs.Runs.next_from.Goals as goal

pub returns-clause-ascending : goal.returns-clause-ascending
returns-clause-ascending c = rw (← c.self.view_is) (ascending c.self.inside.runs.items c.self.invariant)
