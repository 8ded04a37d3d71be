use Rattle.std.proofs.Common.{subst, sym}
use Rattle.cfs_inode.specs.Reads.{ReadMakes}
use Rattle.cfs_inode.specs.View.{StateView, state_view}
use Rattle.cfs_inode.proofs.Quiet.{read-made}
use Rattle.cfs_inode.proofs.States.{state-read}
use Rattle.cfs_inode.proofs.reads.InodeState+R+B.admit_read.Goals as goal

pub returns-clause-view : goal.returns-clause-view
returns-clause-view g c =
    state-read g.R.Region.seen g.B.Block.seen c.args.self.now c.admit_read.new.self
    c.args.request.now c.admit_read.ensures.view

pub returns-clause-makes : goal.returns-clause-makes
returns-clause-makes g c =
    let old = state_view g.R.Region.seen g.B.Block.seen c.args.self.now in
    subst (λ (s : StateView). ReadMakes c.args.request.now old s) (sym (returns-clause-view g c))
    (read-made old c.args.request.now c.requires.query)
