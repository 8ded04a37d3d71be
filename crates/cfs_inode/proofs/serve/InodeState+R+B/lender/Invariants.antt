use Rattle.std.proofs.Common.{◌≡◌, ◌-◌}
use Rattle.std.specs.List.{range_with_len}
use Rattle.cfs_inode.specs.Serves.{end_block, first_lender, lender_in}
use Rattle.cfs_inode.specs.View.{state_view}
use Rattle.cfs_inode.proofs.serve.InodeState+R+B.lender.Given as goal

abbrev pub invariant-loop-block : goal.invariant-loop-block
invariant-loop-block g l =
    let cells = (state_view g.R.Region.seen g.B.Block.seen l.self).tracker.cells in
    lender_in cells l.from l.to
    ≡ first_lender cells (range_with_len l.block (end_block l.from l.to - l.block))
