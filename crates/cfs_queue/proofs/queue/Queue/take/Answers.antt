use Rattle.std.proofs.Common.{ap, subst}
use Rattle.std.proofs.Math.ListN.{set}
use Rattle.cfs_slot.specs.Tails.{number_of}
use Rattle.cfs_queue.specs.Queue.{Slots, out}
use Rattle.cfs_queue.specs.Rows.{seen_all}
use Rattle.cfs_queue.proofs.QueueLemmas.{Took, same_slots, took}
use Rattle.cfs_queue.proofs.queue.Queue.take.Goals as goal

pub invariant_of-self-2 : goal.invariant_of-self-2
invariant_of-self-2 g c =
    (took g.R.Region.seen c.self.inside.number (seen_all c.self.inside.rows.items) (seen_all c.take_first.new.rows.items) c.in-Some.slot.region c.self.invariant c.in-Some.ensures.first).queue

pub returns-clause-own : goal.returns-clause-own
returns-clause-own g c =
    (subst (λ (q : Slots g.row.R.Denot). Took g.R.Region.seen q c.in-Some.slot.region (seen_all c.take_first.new.rows.items)) c.self.view_is
    (took g.R.Region.seen c.self.inside.number (seen_all c.self.inside.rows.items) (seen_all c.take_first.new.rows.items) c.in-Some.slot.region c.self.invariant c.in-Some.ensures.first)).own

pub returns-clause-taken : goal.returns-clause-taken
returns-clause-taken g c =
    let t : Took g.R.Region.seen c.args.self.now c.in-Some.slot.region (seen_all c.take_first.new.rows.items) =
    subst (λ (q : Slots g.row.R.Denot). Took g.R.Region.seen q c.in-Some.slot.region (seen_all c.take_first.new.rows.items)) c.self.view_is
    (took g.R.Region.seen c.self.inside.number (seen_all c.self.inside.rows.items) (seen_all c.take_first.new.rows.items) c.in-Some.slot.region c.self.invariant c.in-Some.ensures.first) in
    same_slots c.self.inside.number (seen_all c.take_first.new.rows.items) (set c.args.self.now.held (number_of (g.R.Region.seen c.in-Some.slot.region).device) (out 0)) c.args.self.now
    (ap (λ (q : Slots g.row.R.Denot). q.number) c.self.view_is) t.taken
