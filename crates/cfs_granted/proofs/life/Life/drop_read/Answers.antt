use Rattle.std.proofs.Common.{ap}
use Rattle.cfs_active.specs.View.{ActiveView, active_view}
use Rattle.cfs_granted.proofs.Lendings.{same-lent}
use Rattle.cfs_granted.proofs.Readings.{ended-granted}
use Rattle.cfs_granted.proofs.life.Life.drop_read.Goals as goal

pub invariant_of-self : goal.invariant_of-self
invariant_of-self c =
    let old = active_view c.args.self.now.active in
    let new = active_view c.drop_read.new.self in record {
      known = ended-granted c.args.self.now.grants c.args.self.now.readers.items
          c.drop_reader.new.readers.items old.state new.state c.args.place
          (ap (λ (a : ActiveView). a.state) c.drop_read.ensures.view) c.drop_reader.ensures.items
          c.args.self.now.known;
      lent = same-lent old new
          (ap (λ (a : ActiveView). a.state.tracker.cells) c.drop_read.ensures.view)
          (ap (λ (a : ActiveView). a.jobs) c.drop_read.ensures.view) c.args.self.now.lent;
    }
