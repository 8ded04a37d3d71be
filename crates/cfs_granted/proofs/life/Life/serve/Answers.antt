use Rattle.std.proofs.Common.{ap}
use Rattle.cfs_inode.specs.View.{StateView}
use Rattle.cfs_active.specs.View.{active_view}
use Rattle.cfs_granted.proofs.Lendings.{same-lent}
use Rattle.cfs_granted.proofs.Readings.{ended-granted}
use Rattle.cfs_granted.proofs.life.Life.serve.Goals as goal

pub invariant_of-self : goal.invariant_of-self
invariant_of-self g c =
    let old = active_view c.args.self.now.active in
    let new = active_view c.serve-answer.new.self in record {
      known = ended-granted c.args.self.now.grants c.args.self.now.readers.items
          c.drop_reader.new.readers.items old.state new.state c.args.place
          c.in-Served.ensures.serves.1.1.0 c.drop_reader.ensures.items
          c.args.self.now.known;
      lent = same-lent old new
          (ap (λ (s : StateView). s.tracker.cells) c.in-Served.ensures.serves.1.1.0)
          c.in-Served.ensures.jobs c.args.self.now.lent;
    }
