use Rattle.std.proofs.Common.{refl}
use Rattle.cfs_tracker.specs.View.{view_of}
use Rattle.cfs_tracker.proofs.Putting.{same-view}
use Rattle.cfs_tracker.proofs.Tagging.{follows-tagged}
use Rattle.cfs_tracker.proofs.tracker.Tracker.tagged.Goals as goal

pub returns-clause-follows : goal.returns-clause-follows
returns-clause-follows g c = λ core follows.
    let tags = follows-tagged (view_of c.args.self.now) core c.args.block c.args.home c.args.kept c.requires.block c.requires.bare follows in
    (tags.0, same-view (rw c.tagged_cell.ensures refl) tags.1)
