use Rattle.std.proofs.Common.{rules}
use Rattle.cfs_sched.proofs.Best.{fair, is_first, kept, nothing, taken}
use Rattle.cfs_sched.proofs.choice.choose.Goals as goal
use Rattle.cfs_sched.proofs.choice.choose.Goals.{then-comes_before, else-comes_before}

pub loop-at-preserved : goal.loop-at-preserved
loop-at-preserved c =
    elim c.if-comes_before.branch [
      | then-comes_before w ↦ rw (w.best-is, w.index-is)
          (taken _ _ _ _ _ c.loop-at.invariant c.loop-at-test.true (c.comes_before.ensures.0 (search rules)))
      | else-comes_before w ↦ rw (w.best-is, w.index-is)
          (kept c.args.work.now c.loop-at.at c.loop-at.index c.loop-at.best.now nothing
          c.loop-at.invariant c.loop-at-test.true (search rules))
    ]

pub returns-clause-first : goal.returns-clause-first
returns-clause-first c =
    (c.loop-at.best.now, is_first _ _ _ _ c.loop-at.invariant c.loop-at-test.false)

pub returns-clause-fair : goal.returns-clause-fair
returns-clause-fair c k chosen other there is often =
    fair c.args.work.now c.loop-at.index k c.loop-at.best.now chosen other
    (is_first _ _ _ _ c.loop-at.invariant c.loop-at-test.false) there is often
