use Rattle.cfs_tracker.specs.View.{view_of}
use Rattle.cfs_core.specs.declared.event.Event.TheVariants as events
use Rattle.cfs_core.specs.After.{after}
use Rattle.cfs_tracker.proofs.Putting.{entries-are}
use Rattle.cfs_tracker.proofs.Skips.{follows-skipped}
use Rattle.cfs_tracker.proofs.tracker.Tracker.skipped.Goals as goal

pub returns-clause-follows : goal.returns-clause-follows
returns-clause-follows g c = λ core follows.
    let skips = follows-skipped (view_of c.args.self.now) core c.args.place c.requires follows in
    (skips.0, entries-are (view_of c.args.self.now) (after core (events.Skip c.args.place)) c.drop_entry.ensures.items skips.1)
