use Rattle.std.proofs.Common.{[], subst, sym}
use Rattle.cfs_core.specs.declared.inode_core.Core.{Core}
use Rattle.cfs_core.specs.Fresh.{IsEmpty}
use Rattle.cfs_inode.specs.New.{stored_world}
use Rattle.cfs_inode.specs.Stands.{Together}
use Rattle.cfs_inode.specs.View.{StateView}
use Rattle.cfs_inode.proofs.News.{empty-file, none-stored, state-stored, stored-stands}
use Rattle.cfs_inode.proofs.new.InodeState+R+B.new.Goals as goal

pub returns-in-Ok-clause-view : goal.returns-in-Ok-clause-view
returns-in-Ok-clause-view g c =
    state-stored g.R.Region.seen g.B.Block.seen c.args.ino c.args.size c.in-Ok.tracker 0 []
    c.in-Ok.ensures

pub returns-in-Ok-clause-stands : goal.returns-in-Ok-clause-stands
returns-in-Ok-clause-stands g c =
    let size = g.R.Region.seen c.args.size in
    subst (λ (s : StateView). (core : Core) → IsEmpty core →
    Together s [] core (stored_world size []))
    (sym (returns-in-Ok-clause-view g c))
    (λ core empty.
    stored-stands c.args.ino size 0 []
    (none-stored c.args.ino size c.requires.sure c.requires.empty) core (empty-file core empty))
