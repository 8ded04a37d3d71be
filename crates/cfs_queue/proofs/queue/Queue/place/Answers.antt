use Rattle.std.proofs.Common.{◌∙◌, List, ap, slice_get}
use Rattle.cfs_queue.specs.declared.kept.Kept.{Kept}
use Rattle.cfs_queue.specs.Queue.{Slots, place_at}
use Rattle.cfs_queue.specs.Rows.{seen_all}
use Rattle.cfs_queue.proofs.queue.Queue.place.Goals as goal

pub returns : goal.returns
returns g c =
    c.place_at.ensures ∙ ap (λ (rows : List (Kept g.row.R.Denot g.R.Region)). place_at (slice_get (seen_all rows) c.args.slot)) c.as_slice.ensures.value
    ∙ ap (λ (q : Slots g.row.R.Denot). place_at (slice_get q.held c.args.slot)) c.self.view_is
