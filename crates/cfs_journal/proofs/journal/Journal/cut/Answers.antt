use Rattle.std.proofs.Common.{arith, map, subst, sym}
use Rattle.cfs_journal.specs.Standing.{Standing}
use Rattle.cfs_journal.proofs.CutLemmas.{cut_down}
use Rattle.cfs_journal.proofs.Walks.{some_change}
use Rattle.cfs_journal.proofs.journal.Journal.cut.Goals as goal

pub invariant_of-self : goal.invariant_of-self
invariant_of-self g c =
    record {
      standing = subst (λ changes. Standing c.args.through changes c.args.self.now.doubt (map g.R.Region.seen c.args.self.now.records.items)) (sym c.forget.ensures.rest)
          (cut_down c.args.through some_change c.args.self.now.standing c.requires.from c.requires.most c.requires.low);
      room = omega (arith, c.args.self.now.room, c.forget.ensures.room);
    }
