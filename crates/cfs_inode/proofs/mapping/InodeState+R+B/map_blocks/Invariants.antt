use Rattle.std.proofs.Common.{◌≡◌}
use Rattle.cfs_file.specs.Span.{span}
use Rattle.cfs_tracker.specs.View.{KeepsRoom, view_of}
use Rattle.cfs_inode.specs.Tagging.{stock_of}
use Rattle.cfs_inode.specs.View.{state_view}
use Rattle.cfs_inode.proofs.Mappings.{IsMapping, unmapped_needed}
use Rattle.cfs_inode.proofs.mapping.InodeState+R+B.map_blocks.Given as goal

abbrev pub invariant-loop-block : goal.invariant-loop-block
invariant-loop-block g l =
    IsMapping g.B.Block.obeys_power g.B.Block.keeps_refused
    (span l.request (view_of l.initial.self.tracker).long)
    (g.P.Power.asked l.initial.power) (stock_of g.B.Block.seen l.initial.stock)
    (state_view g.R.Region.seen g.B.Block.seen l.initial.self)
    (g.P.Power.asked l.power) (stock_of g.B.Block.seen l.stock)
    (state_view g.R.Region.seen g.B.Block.seen l.self)
    × (l.self.ino ≡ l.initial.self.ino) × KeepsRoom l.initial.self.tracker l.self.tracker

abbrev pub decreases-loop-block : goal.decreases-loop-block
decreases-loop-block g l =
    unmapped_needed (state_view g.R.Region.seen g.B.Block.seen l.self).tracker.cells
    (span l.request (view_of l.initial.self.tracker).long)
