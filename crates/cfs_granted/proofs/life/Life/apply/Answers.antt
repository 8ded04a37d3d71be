use Rattle.cfs_active.specs.Memory.{words_seen}
use Rattle.cfs_active.specs.View.{active_view}
use Rattle.std.proofs.Common.{true}
use Rattle.cfs_granted.proofs.Passings.{passes-apply}
use Rattle.cfs_granted.specs.Rows.{stands}
use Rattle.cfs_granted.proofs.Knowing.{stays-granted}
use Rattle.cfs_granted.proofs.life.Life.apply.Goals as goal

pub invariant_of-self : goal.invariant_of-self
invariant_of-self g c =
    let rows = c.args.self.now.grants in
    let old = active_view c.args.self.now.active in
    let new = active_view c.apply.new.self in
    let passes =
    passes-apply (λ n. stands n rows) true true true c.args.place c.apply.result
    (g.P.Power.asked c.args.power.now) old (g.P.Power.asked c.apply.new.power) new
    c.apply.ensures in record {
      known = stays-granted rows c.args.self.now.readers.items old new passes
          c.args.self.now.known;
      lent = passes.lent c.args.self.now.lent;
    }
