use Rattle.std.proofs.Common.{subst}
use Rattle.cfs_queue.specs.Queue.{IsQueue, Slots}
use Rattle.cfs_queue.proofs.queue.Queue.number.Goals as goal

pub returns-clause-each : goal.returns-clause-each
returns-clause-each g c = subst (λ (q : Slots g.row.R.Denot). IsQueue g.R.Region.seen q.number q.held) c.self.view_is c.self.invariant
