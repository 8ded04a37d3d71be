use Rattle.std.proofs.Common.{Some}
use Rattle.cfs_core.specs.declared.event.Event.TheVariants as events
use Rattle.cfs_core.specs.After.{after}
use Rattle.cfs_tracker.specs.View.{view_of}
use Rattle.cfs_tracker.proofs.Putting.{reads-are}
use Rattle.cfs_tracker.proofs.Readings.{follows-served}
use Rattle.cfs_tracker.proofs.tracker.Tracker.served.Goals as goal

pub returns-clause-follows : goal.returns-clause-follows
returns-clause-follows g c = λ core bytes follows stored.
    let serves = follows-served (view_of c.args.self.now) core c.args.place bytes c.requires.there c.requires.ready follows stored in
    (serves.0, reads-are (view_of c.args.self.now) (after core (events.Serve c.args.place (Some bytes))) c.drop_read.ensures.items serves.1)
