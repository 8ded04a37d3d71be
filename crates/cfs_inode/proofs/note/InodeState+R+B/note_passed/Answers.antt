use Rattle.std.proofs.Common.{[], subst, sym}
use Rattle.cfs_inode.specs.Reads.{QuietlyMakes}
use Rattle.cfs_inode.specs.View.{StateView, state_view}
use Rattle.cfs_inode.proofs.Noting.{note-made, state-noted}
use Rattle.cfs_inode.proofs.note.InodeState+R+B.note_passed.Goals as goal

pub returns-clause-view : goal.returns-clause-view
returns-clause-view g c =
    state-noted g.R.Region.seen g.B.Block.seen c.args.self.now c.note_passed.new.self c.args.place
    c.note_passed.ensures.view

pub returns-clause-makes : goal.returns-clause-makes
returns-clause-makes g c =
    let old = state_view g.R.Region.seen g.B.Block.seen c.args.self.now in
    subst (λ (s : StateView). QuietlyMakes [] old s) (sym (returns-clause-view g c))
    (note-made old c.args.place)
