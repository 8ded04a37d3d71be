use Rattle.std.proofs.Common.{◌∙◌, ap, map, subst, sym}
use Rattle.cfs_inode.specs.New.{StandsFor, brought, told_mapped}
use Rattle.cfs_inode.specs.View.{StateView}
use Rattle.cfs_inode.proofs.News.{homes-within, state-stored, stored-stands}
use Rattle.cfs_inode.proofs.new.InodeState+R+B.loaded.Goals as goal

pub bring_all-requires : goal.bring_all-requires
bring_all-requires g c = λ k d less.
    homes-within g.B.Block.seen c.args.ino 0 c.args.blocks.items k d c.requires.mapped less

pub returns-clause-view : goal.returns-clause-view
returns-clause-view g c =
    state-stored g.R.Region.seen g.B.Block.seen c.args.ino c.args.size c.bring_all.new.tracker
    c.args.stored c.args.blocks.items
    (c.bring_all.ensures ∙ ap (brought c.args.blocks.items) c.in-Ok.ensures)

pub returns-clause-stands : goal.returns-clause-stands
returns-clause-stands g c =
    let size = g.R.Region.seen c.args.size in
    let blocks = map (told_mapped g.B.Block.seen) c.args.blocks.items in
    subst (λ (s : StateView). StandsFor size c.args.stored blocks s)
    (sym (returns-clause-view g c))
    (stored-stands c.args.ino size c.args.stored blocks c.requires)
