use Rattle.cfs_pmem.specs.Draws.{word_left, after_word}
use Rattle.cfs_pmem.proofs.Crashes.{Leaving}
use Rattle.cfs_pmem.proofs.mem_region.leave.Given as goal

abbrev pub invariant-loop-i : goal.invariant-loop-i
invariant-loop-i l =
    Leaving (λ k. word_left) (λ k. after_word) l.initial.pick l.initial.durable.items l.initial.present.items l.pick l.durable.items l.present.items l.i
