use Rattle.std.proofs.Common.{◌≡◌}
use Rattle.cfs_tracker.specs.View.{view_of}
use Rattle.cfs_inode.specs.New.{brought}
use Rattle.cfs_inode.proofs.new.bring_all.Given as goal

abbrev pub invariant-loop-mapped : goal.invariant-loop-mapped
invariant-loop-mapped g l = view_of l.tracker ≡ brought l.yielded (view_of l.initial.tracker)
