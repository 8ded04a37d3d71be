use Rattle.std.proofs.Common.{◌∙◌, arith, sym}
use Rattle.cfs_tracker.proofs.Windows.{next-window}
use Rattle.cfs_tracker.proofs.lending.next_cell.Goals as goal

pub returns : goal.returns
returns g c =
    c.find_wanted.ensures
    ∙ sym (next-window c.args.cells.now c.args.span.now c.args.done c.first_block.result c.behind.result c.end_block.result c.min-low.result c.min-high.result
    c.first_block.ensures c.behind.ensures c.end_block.ensures
    (omega (arith, c.min-low.ensures)) (omega (arith, c.min-high.ensures))
    (λ k less. omega (arith, c.min-low.ensures, c.max.ensures)) (λ k le. omega (arith, c.min-high.ensures)))
