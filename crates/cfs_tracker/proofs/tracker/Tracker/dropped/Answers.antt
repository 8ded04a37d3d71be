use Rattle.std.proofs.Common.{None}
use Rattle.cfs_core.specs.declared.event.Event.TheVariants as events
use Rattle.cfs_core.specs.After.{after}
use Rattle.cfs_tracker.specs.View.{view_of}
use Rattle.cfs_tracker.proofs.Putting.{reads-are}
use Rattle.cfs_tracker.proofs.Readings.{follows-dropped}
use Rattle.cfs_tracker.proofs.tracker.Tracker.dropped.Goals as goal

pub returns-clause-follows : goal.returns-clause-follows
returns-clause-follows g c = λ core follows.
    let drops = follows-dropped (view_of c.args.self.now) core c.args.place c.requires follows in
    (drops.0, reads-are (view_of c.args.self.now) (after core (events.Serve c.args.place None)) c.drop_read.ensures.items drops.1)
