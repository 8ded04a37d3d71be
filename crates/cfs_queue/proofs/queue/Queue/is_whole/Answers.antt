use Rattle.std.proofs.Common.{◌≡◌, ◌∙◌, ◌↔◌, [], List, length, subst, ap}
use Rattle.std.proofs.Math.Dec.{eqb}
use Rattle.std.specs.Bool.{IsTrue}
use Rattle.std.specs.List.{count_by}
use Rattle.cfs_queue.specs.declared.kept.Kept.{Kept}
use Rattle.cfs_queue.specs.Queue.{Slots, free_in, is_free, out_from}
use Rattle.cfs_queue.specs.Rows.{seen_all, seen_as}
use Rattle.cfs_queue.proofs.QueueLemmas.{whole_is}
use Rattle.cfs_queue.proofs.RowLemmas.{count_is}
use Rattle.cfs_queue.proofs.queue.Queue.is_whole.Goals as goal

pub returns : goal.returns
returns g c =
    let f = λ (row : Kept g.row.R.Denot g.R.Region). seen_as row in
    let count : c.count_free.result ≡ length (free_in (seen_all c.self.inside.rows.items)) =
    c.count_free.ensures ∙ ap (λ (rows : List (Kept g.row.R.Denot g.R.Region)). count_by (λ row. is_free (seen_as row)) rows) c.as_slice.ensures.value ∙ count_is f c.self.inside.rows.items in
    subst (λ (q : Slots g.row.R.Denot). IsTrue (eqb c.count_free.result 16) ↔ (out_from 0 q.held ≡ [])) c.self.view_is
    (whole_is (seen_all c.self.inside.rows.items) c.count_free.result count c.self.invariant.sixteen)
