use Rattle.cfs_job.specs.Jobs.{job_view, request_in}
use Rattle.cfs_inode.specs.View.{held_of}
use Rattle.cfs_inode.proofs.EndTells.{came-apart}
use Rattle.cfs_inode.proofs.put_back.take_apart.Goals as goal

pub returns : goal.returns
returns g c =
    let job = job_view g.R.Region.seen g.B.Block.seen g.B.Block.number c.args.job in
    came-apart (held_of g.R.Region.seen) g.B.Block.seen g.B.Block.number c.place-place.result
    job.place c.into_parts-live.result.0 (request_in c.args.job) c.into_parts-live.result.1
    c.into_parts-live.result.2 c.tile_from.result c.tile_from-2.result c.args.job.first
    c.args.job.second c.place-place.ensures c.into_parts-live.ensures.request
    c.into_parts-live.ensures.first c.into_parts-live.ensures.second c.tile_from.ensures
    c.tile_from-2.ensures
