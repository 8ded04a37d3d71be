use Rattle.cfs_inode.proofs.States.{state-same}
use Rattle.cfs_inode.proofs.room.InodeState+R+B.reserve.Goals as goal

pub returns-clause-view : goal.returns-clause-view
returns-clause-view g c =
    state-same g.R.Region.seen g.B.Block.seen c.args.self.now c.reserve.new.self
    c.reserve.ensures.view
