use Rattle.std.proofs.Common.{refl}
use Rattle.cfs_tracker.specs.View.{view_of}
use Rattle.cfs_tracker.proofs.Putting.{same-view}
use Rattle.cfs_tracker.proofs.Finishing.{follows-retired, may-size}
use Rattle.cfs_tracker.proofs.tracker.Tracker.retired.Goals as goal

pub returns-clause-follows : goal.returns-clause-follows
returns-clause-follows g c = λ core follows through.
    let ends = follows-retired (view_of c.args.self.now) core c.args.place c.args.first
    c.args.second c.requires.out c.requires.last follows through in (
      ends.0,
      same-view
          (rw (c.drop_entry.ensures.items, c.bring_both.ensures.items, c.size_after-self.ensures)
          refl) ends.1,
    )

pub returns-clause-sized : goal.returns-clause-sized
returns-clause-sized g c = λ core follows through.
    may-size (view_of c.args.self.now) core c.args.place c.args.first c.args.second c.requires.out
    c.requires.last follows through
