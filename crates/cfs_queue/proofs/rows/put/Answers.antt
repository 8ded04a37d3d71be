use Rattle.std.proofs.Common.{◌∙◌, List, ap, length}
use Rattle.std.specs.List.{refill}
use Rattle.cfs_queue.specs.declared.kept.Kept.{Kept}
use Rattle.cfs_queue.specs.Rows.{seen_all, seen_as}
use Rattle.cfs_queue.proofs.RowLemmas.{put_at}
use Rattle.cfs_queue.proofs.rows.put.Goals as goal

pub returns : goal.returns
returns g c =
    ap (λ (rows : List (Kept g.row.R.Denot g.R.Region)). seen_all (refill (length c.args.rows.now.items) c.args.rows.now.items rows)) c.put_in.ensures
    ∙ put_at (λ (row : Kept g.row.R.Denot g.R.Region). seen_as row) c.args.rows.now.items c.as_mut_slice.result.now c.args.at c.args.row c.as_mut_slice.ensures.value
