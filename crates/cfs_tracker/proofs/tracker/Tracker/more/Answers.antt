use Rattle.std.proofs.Common.{refl}
use Rattle.cfs_tracker.specs.View.{view_of}
use Rattle.cfs_tracker.proofs.Putting.{same-view}
use Rattle.cfs_tracker.proofs.Finishing.{follows-more}
use Rattle.cfs_tracker.proofs.tracker.Tracker.more.Goals as goal

pub returns-clause-follows : goal.returns-clause-follows
returns-clause-follows g c = λ core follows through.
    let ends = follows-more (view_of c.args.self.now) core c.args.place c.args.slots c.args.first
    c.args.second c.requires follows through in (
      ends.0,
      same-view
          (rw (
            c.wait_again.ensures.items,
            c.bring_both.ensures.items,
            c.number_of.ensures,
            c.number_of-2.ensures,
          ) refl) ends.1,
    )
