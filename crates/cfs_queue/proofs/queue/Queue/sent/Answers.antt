use Rattle.std.proofs.Common.{List, sym, subst}
use Rattle.cfs_queue.specs.Queue.{Held, IsQueue}
use Rattle.cfs_queue.specs.Rows.{seen_all}
use Rattle.cfs_queue.proofs.QueueLemmas.{queue_out}
use Rattle.cfs_queue.proofs.queue.Queue.sent.Goals as goal

pub invariant_of-self : goal.invariant_of-self
invariant_of-self g c =
    subst (λ (held : List (Held g.row.R.Denot)). IsQueue g.R.Region.seen c.self.inside.number held) (sym c.put.ensures)
    (queue_out g.R.Region.seen c.self.inside.number (seen_all c.self.inside.rows.items) c.args.slot c.args.place c.self.invariant)
