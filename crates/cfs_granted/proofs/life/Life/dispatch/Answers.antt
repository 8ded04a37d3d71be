use Rattle.cfs_active.specs.Memory.{words_seen}
use Rattle.cfs_active.specs.View.{active_view}
use Rattle.cfs_granted.proofs.Passings.{passes-sends}
use Rattle.cfs_granted.specs.Rows.{stands}
use Rattle.cfs_granted.proofs.Knowing.{stays-granted}
use Rattle.cfs_granted.proofs.life.Life.dispatch.Goals as goal

pub invariant_of-self : goal.invariant_of-self
invariant_of-self c =
    let rows = c.args.self.now.grants in
    let old = active_view c.args.self.now.active in
    let new = active_view c.dispatch.new.self in
    let passes =
    passes-sends (λ n. stands n rows) c.args.place c.dispatch.result old new
    c.dispatch.ensures.sends in record {
      known = stays-granted rows c.args.self.now.readers.items old new passes
          c.args.self.now.known;
      lent = passes.lent c.args.self.now.lent;
    }
