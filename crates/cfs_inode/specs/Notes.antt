-- Other work is chosen while a change of a state stands ready.
use Rattle.std.specs.Prelude.{ℕ}
use Rattle.cfs_tracker.specs.Work.{noted}
use Rattle.cfs_inode.specs.View.{StateView}

abbrev pub with_noted : ℕ → StateView → StateView
with_noted place state = record state { tracker = noted place state.tracker }
