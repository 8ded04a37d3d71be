use Rattle.std.proofs.Common.{◌≡◌, ◌∙◌, ◌++◌, ◌∷◌, [], ap}
use Rattle.cfs_core.specs.declared.event.Event.TheVariants as events
use Rattle.cfs_core.specs.After.{after}
use Rattle.cfs_tracker.specs.declared.reading.Reading.{Reading}
use Rattle.cfs_tracker.specs.Reads.{read_admitted, reading}
use Rattle.cfs_tracker.specs.View.{view_of}
use Rattle.cfs_tracker.proofs.Putting.{reads-are}
use Rattle.cfs_tracker.proofs.Readings.{follows-read}
use Rattle.cfs_tracker.proofs.tracker.Tracker.admit_read.Goals as goal

pub returns-clause-follows : goal.returns-clause-follows
returns-clause-follows g c = λ core entry follows next same.
    let view = view_of c.args.self.now in
    let admits = follows-read view core c.args.request.now entry c.requires.query follows next same in
    let items : c.push.new.self.items ≡ c.args.self.now.reads.items ++ reading c.args.request.now (view_of c.args.self.now) ∷ [] =
    c.in-Ok.ensures.items ∙ ap (λ (r : Reading). c.args.self.now.reads.items ++ r ∷ []) c.reading-reading.ensures in
    (admits.0, reads-are (read_admitted c.args.request.now view) (after core (events.AdmitRead entry)) items admits.1)
