use Rattle.std.proofs.Common.{◌∙◌, sym}
use Rattle.cfs_tracker.specs.View.{view_of}
use Rattle.cfs_inode.specs.View.{held_of, seens_of}
use Rattle.cfs_inode.proofs.Works.{next-work-told}
use Rattle.cfs_inode.proofs.telling.InodeState+R+B.next_work.Goals as goal

pub returns : goal.returns
returns g c =
    c.next_work.ensures
    ∙ sym (next-work-told (held_of g.R.Region.seen) (seens_of g.R.Region.seen) g.B.Block.seen
    (view_of c.args.self.now.tracker) c.args.after)
