use Rattle.std.proofs.Common.{◌∙◌, ap, sym}
use Rattle.cfs_tracker.specs.declared.cell.Cell.TheVariants as kinds
use Rattle.cfs_tracker.specs.Cells.{with_cell}
use Rattle.cfs_tracker.specs.View.{view_of}
use Rattle.cfs_inode.proofs.News.{homes-more}
use Rattle.cfs_inode.proofs.new.bring_all.Goals as goal

pub loop-mapped-preserved : goal.loop-mapped-preserved
loop-mapped-preserved g c =
    let old = view_of c.args.tracker.now in
    let mapped = c.in-Some.mapped in
    c.bring.ensures.view
    ∙ ap (λ v. with_cell mapped.at (kinds.Home mapped.block) v) c.loop-mapped.invariant
    ∙ ap (λ cs. record old { cells = cs })
    (sym (homes-more c.loop-mapped.yielded mapped old.cells))
