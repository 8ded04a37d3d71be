use Rattle.std.proofs.Common.{◌≤◌, ◌∙◌, length, ap, arith}
use Rattle.cfs_queue.specs.Queue.{Slots, free_in}
use Rattle.cfs_queue.specs.Rows.{seen_all}
use Rattle.cfs_queue.proofs.QueueLemmas.{many_all, together}
use Rattle.cfs_queue.proofs.queue.Queue.into_parts.Goals as goal

pub returns : goal.returns
returns g c =
    let few : length (free_in (seen_all c.self.inside.rows.items)) ≤ 16 = omega (arith, together 0 (seen_all c.self.inside.rows.items), c.self.invariant.sixteen) in
    many_all 16 few c.take_lowest.ensures.taken c.take_lowest.ensures.all ∙ ap (λ (q : Slots g.row.R.Denot). free_in q.held) c.self.view_is
