use Rattle.std.proofs.Common.{ap, subst, sym}
use Rattle.cfs_inode.specs.Purges.{StandsEmpty}
use Rattle.cfs_inode.specs.View.{StateView}
use Rattle.cfs_inode.proofs.Purges.{stands-empty}
use Rattle.cfs_inode.proofs.purge.InodeState+R+B.begin.Goals as goal

pub returns-clause-view : goal.returns-clause-view
returns-clause-view g c =
    ap (λ (s : StateView). record s { ino = c.args.ino }) c.requires.empty

pub returns-clause-stands : goal.returns-clause-stands
returns-clause-stands g c =
    subst (λ (s : StateView). StandsEmpty s) (sym (returns-clause-view g c))
    (stands-empty c.args.ino (g.R.Region.seen c.args.self.now.size) c.requires.zero)
