use Rattle.cfs_active.specs.Memory.{words_seen}
use Rattle.cfs_active.specs.View.{active_view}
use Rattle.std.proofs.Common.{true}
use Rattle.cfs_inode.specs.Ends.{end_of}
use Rattle.cfs_granted.proofs.Grantings.{granting-settle}
use Rattle.cfs_granted.proofs.Lendings.{LendsNone}
use Rattle.cfs_granted.proofs.Passings.{passes-by}
use Rattle.cfs_granted.specs.Rows.{stands}
use Rattle.cfs_granted.proofs.Knowing.{stays-granted}
use Rattle.cfs_granted.proofs.life.Life.settle.Goals as goal

pub invariant_of-self : goal.invariant_of-self
invariant_of-self g c =
    let rows = c.args.self.now.grants in
    let old = active_view c.args.self.now.active in
    let new = active_view c.settle.new.self in
    let passes =
    passes-by (λ n. stands n rows) old new c.settle.ensures.jobs
    (granting-settle (λ n. stands n rows) LendsNone true (end_of words_seen c.settle.result)
    (g.P.Power.asked c.args.power.now) old.state (g.P.Power.asked c.settle.new.power) new.state
    c.settle.ensures.settles) in record {
      known = stays-granted rows c.args.self.now.readers.items old new passes
          c.args.self.now.known;
      lent = passes.lent c.args.self.now.lent;
    }
