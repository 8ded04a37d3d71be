use Rattle.std.proofs.Common.{ap, subst, sym}
use Rattle.cfs_job.specs.Jobs.{job_view}
use Rattle.cfs_tracker.specs.View.{view_of}
use Rattle.cfs_inode.specs.Backs.{PutsBack, held_back, tile_back}
use Rattle.cfs_inode.specs.View.{StateView, held_of, seens_of, state_view}
use Rattle.cfs_inode.proofs.EndTells.{has-out, put-back-is}
use Rattle.cfs_inode.proofs.PutBacks.{back-made}
use Rattle.cfs_inode.proofs.put_back.InodeState+R+B.put_back.Goals as goal

pub put_back-requires : goal.put_back-requires
put_back-requires g c =
    let job = job_view g.R.Region.seen g.B.Block.seen g.B.Block.number c.args.job in
    let came = c.take_apart-place.ensures in
    has-out (held_of g.R.Region.seen) (seens_of g.R.Region.seen) g.B.Block.seen
    (view_of c.args.self.now.tracker) c.take_apart-place.result.0 job.place
    c.take_apart-place.result.1
    (held_back job) c.take_apart-place.result.2 c.take_apart-place.result.3 (tile_back job.first)
    (tile_back job.second) came c.requires.out.out

pub returns-clause-view : goal.returns-clause-view
returns-clause-view g c =
    let job = job_view g.R.Region.seen g.B.Block.seen g.B.Block.number c.args.job in
    let old = state_view g.R.Region.seen g.B.Block.seen c.args.self.now in
    let came = c.take_apart-place.ensures in
    ap (λ t. record old { tracker = t })
    (put-back-is (held_of g.R.Region.seen) (seens_of g.R.Region.seen) g.B.Block.seen
    (view_of c.args.self.now.tracker) (view_of c.put_back.new.self) c.take_apart-place.result.0
    job.place
    c.take_apart-place.result.1 (held_back job) c.take_apart-place.result.2
    c.take_apart-place.result.3
    (tile_back job.first) (tile_back job.second) came c.put_back.ensures.view)

pub returns-clause-makes : goal.returns-clause-makes
returns-clause-makes g c =
    let job = job_view g.R.Region.seen g.B.Block.seen g.B.Block.number c.args.job in
    let old = state_view g.R.Region.seen g.B.Block.seen c.args.self.now in
    subst (λ (s : StateView). PutsBack old job s) (sym (returns-clause-view g c))
    (back-made old job c.requires.out)
