use Rattle.std.proofs.Common.{◌-◌, ◌^◌}
use Rattle.cfs_inode.proofs.Coverings.{HasMarked}
use Rattle.cfs_inode.specs.View.{state_view}
use Rattle.cfs_inode.proofs.covering.InodeState+R+B.mark_covered.Given as goal

abbrev pub invariant-loop-place : goal.invariant-loop-place
invariant-loop-place g l =
    HasMarked g.R.Region.obeys_power l.by l.after l.marked
    (g.P.Power.asked l.initial.power) (state_view g.R.Region.seen g.B.Block.seen l.initial.self)
    (g.P.Power.asked l.power) (state_view g.R.Region.seen g.B.Block.seen l.self)

abbrev pub decreases-loop-place : goal.decreases-loop-place
decreases-loop-place g l = 2 ^ 64 - l.after
