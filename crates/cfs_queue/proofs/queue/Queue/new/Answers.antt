use Rattle.std.proofs.Common.{List, ap, subst, sym}
use Rattle.cfs_slot.specs.Regions.{of_slots}
use Rattle.cfs_queue.specs.Queue.{Held, IsQueue, Slots}
use Rattle.cfs_queue.proofs.QueueLemmas.{queue_new}
use Rattle.cfs_queue.proofs.queue.Queue.new.Goals as goal

pub invariant_of-result : goal.invariant_of-result
invariant_of-result g c =
    subst (λ (held : List (Held g.row.R.Denot)). IsQueue g.R.Region.seen c.args.number held) (sym c.all_free.ensures)
    (queue_new g.R.Region.seen c.args.number (of_slots c.args.slots) c.requires)

pub returns : goal.returns
returns g c = ap (λ (held : List (Held g.row.R.Denot)). let q : Slots g.row.R.Denot = record { number = c.args.number; held = held } in q) c.all_free.ensures
