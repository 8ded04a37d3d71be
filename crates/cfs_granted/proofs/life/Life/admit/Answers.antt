use Rattle.cfs_active.specs.Memory.{words_seen}
use Rattle.cfs_active.specs.View.{active_view}
use Rattle.std.proofs.Common.{◌∙◌, ℕ, ap, sym, true}
use Rattle.cfs_block.specs.MemoryBlocks.{seen_of}
use Rattle.cfs_pmem.specs.Images.{words_of}
use Rattle.cfs_slot.specs.Regions.{of_staged}
use Rattle.cfs_slot.specs.Words.{grant_of}
use Rattle.cfs_inode.specs.Admitting.{admit_end}
use Rattle.cfs_inode.specs.Ends.{end_of}
use Rattle.cfs_inode.specs.Placing.{staged_seens}
use Rattle.cfs_inode.specs.Tagging.{stock_of}
use Rattle.cfs_granted.specs.Rows.{Rows, may_write}
use Rattle.cfs_granted.proofs.Grantings.{granting-admit}
use Rattle.cfs_granted.proofs.Standing.{writer-stands}
use Rattle.cfs_granted.proofs.Lendings.{LendsNone}
use Rattle.cfs_granted.proofs.Passings.{passes-by}
use Rattle.cfs_granted.specs.Rows.{stands}
use Rattle.cfs_granted.proofs.Knowing.{stays-granted}
use Rattle.cfs_granted.proofs.life.Life.admit.Goals as goal

pub invariant_of-self : goal.invariant_of-self
invariant_of-self g c =
    let rows = c.args.self.now.grants in
    let old = active_view c.args.self.now.active in
    let new = active_view c.admit.new.self in
    let passes =
    passes-by (λ n. stands n rows) old new c.admit.ensures.jobs
    (granting-admit (λ n. stands n rows) LendsNone true true true c.args.request.now
    (grant_of (words_of (words_seen (of_staged c.args.staged))))
    (staged_seens words_seen c.args.staged) (g.P.Power.asked c.args.power.now)
    (stock_of seen_of c.args.stock.now) old.state (g.P.Power.asked c.admit.new.power)
    (stock_of seen_of c.admit.new.stock) new.state (end_of words_seen c.admit.result.settled)
    (admit_end words_seen c.admit.result.answer)
    (writer-stands (grant_of (words_of (words_seen (of_staged c.args.staged)))) rows
    (ap (λ (n : ℕ). may_write n rows) (sym c.grant.ensures)
    ∙ ap (λ (rs : Rows). may_write c.grant.result rs) (sym c.rows.ensures)
    ∙ sym c.may_write.ensures ∙ c.if-not-may_write.false))
    c.admit.ensures.did) in record {
      known = stays-granted rows c.args.self.now.readers.items old new passes
          c.args.self.now.known;
      lent = passes.lent c.args.self.now.lent;
    }
