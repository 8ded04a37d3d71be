use Rattle.std.proofs.Common.{◌∙◌, sym}
use Rattle.cfs_tracker.specs.View.{view_of}
use Rattle.cfs_inode.specs.View.{held_of, seens_of}
use Rattle.cfs_inode.proofs.Works.{listing-told}
use Rattle.cfs_inode.proofs.telling.InodeState+R+B.listing.Goals as goal

pub returns : goal.returns
returns g c =
    c.listing.ensures
    ∙ sym (listing-told (held_of g.R.Region.seen) (seens_of g.R.Region.seen) g.B.Block.seen
    (view_of c.args.self.now.tracker) c.args.grant c.args.after)
