use Rattle.std.proofs.Common.{◌≡◌, ◌-◌, ◌%◌, ◌∙◌, ℕ, List, ap, sym, subst}
use Rattle.std.proofs.Math.ListN.{set}
use Rattle.cfs_slot.specs.Tails.{number_of}
use Rattle.cfs_queue.specs.Queue.{Held, IsOf, IsQueue, Slots, free}
use Rattle.cfs_queue.specs.Rows.{seen_all}
use Rattle.cfs_queue.proofs.QueueLemmas.{queue_free}
use Rattle.cfs_queue.proofs.queue.Queue.give_back.Goals as goal

pub invariant_of-self : goal.invariant_of-self
invariant_of-self g c =
    let is : (c.device.result - 323) % 16 ≡ number_of (g.R.Region.seen c.args.slot.region).device = ap (λ (d : ℕ). (d - 323) % 16) c.device.ensures in
    subst (λ (held : List (Held g.row.R.Denot)). IsQueue g.R.Region.seen c.self.inside.number held)
    (sym (c.put.ensures ∙ ap (λ (n : ℕ). set (seen_all c.self.inside.rows.items) n (free c.args.slot.region)) is))
    (queue_free g.R.Region.seen c.self.inside.number (seen_all c.self.inside.rows.items) c.args.slot.region c.self.invariant
    (subst (λ (q : Slots g.row.R.Denot). IsOf q.number (g.R.Region.seen c.args.slot.region).device) (sym c.self.view_is) c.requires.own))
