use Rattle.cfs_sched.proofs.Best.{IsBest}
use Rattle.cfs_sched.proofs.choice.choose.Given as goal

abbrev pub invariant-loop-at : goal.invariant-loop-at
invariant-loop-at l = IsBest l.work l.at l.index l.best
