use Rattle.cfs_active.specs.Memory.{words_seen}
use Rattle.cfs_active.specs.View.{active_view}
use Rattle.std.proofs.Common.{true}
use Rattle.cfs_block.specs.MemoryBlocks.{seen_of}
use Rattle.cfs_inode.specs.Trims.{trim_end}
use Rattle.cfs_granted.proofs.Grantings.{granting-trim}
use Rattle.cfs_granted.proofs.Lendings.{LendsNone}
use Rattle.cfs_granted.proofs.Passings.{passes-by}
use Rattle.cfs_granted.specs.Rows.{stands}
use Rattle.cfs_granted.proofs.Knowing.{stays-granted}
use Rattle.cfs_granted.proofs.life.Life.trim.Goals as goal

pub invariant_of-self : goal.invariant_of-self
invariant_of-self g c =
    let rows = c.args.self.now.grants in
    let old = active_view c.args.self.now.active in
    let new = active_view c.trim.new.self in
    let passes =
    passes-by (λ n. stands n rows) old new c.trim.ensures.jobs
    (granting-trim (λ n. stands n rows) LendsNone true true (trim_end seen_of c.trim.result)
    (g.P.Power.asked c.args.power.now) old.state (g.P.Power.asked c.trim.new.power) new.state
    c.trim.ensures.trims) in record {
      known = stays-granted rows c.args.self.now.readers.items old new passes
          c.args.self.now.known;
      lent = passes.lent c.args.self.now.lent;
    }
