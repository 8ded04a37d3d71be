use Rattle.std.proofs.Common.{[], ◌∷◌, None, subst, sym}
use Rattle.cfs_core.specs.declared.event.Event.TheVariants as events
use Rattle.cfs_inode.specs.Reads.{QuietlyMakes}
use Rattle.cfs_inode.specs.View.{StateView, state_view}
use Rattle.cfs_inode.proofs.Quiet.{drop-made}
use Rattle.cfs_inode.proofs.States.{state-dropped}
use Rattle.cfs_inode.proofs.reads.InodeState+R+B.drop_read.Goals as goal

pub returns-clause-view : goal.returns-clause-view
returns-clause-view g c =
    state-dropped g.R.Region.seen g.B.Block.seen c.args.self.now c.dropped.new.self c.args.place
    c.dropped.ensures.view

pub returns-clause-makes : goal.returns-clause-makes
returns-clause-makes g c =
    let old = state_view g.R.Region.seen g.B.Block.seen c.args.self.now in
    subst (λ (s : StateView). QuietlyMakes (events.Serve c.args.place None ∷ []) old s)
    (sym (returns-clause-view g c)) (drop-made old c.args.place c.requires)
