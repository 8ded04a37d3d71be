use Rattle.cfs_pmem.specs.Draws.{byte_left, after_byte}
use Rattle.cfs_pmem.proofs.Crashes.{Leaving}
use Rattle.cfs_block.specs.Written.{is_set}
use Rattle.cfs_block.proofs.mem_block.leave.Given as goal

abbrev pub invariant-loop-i : goal.invariant-loop-i
invariant-loop-i l =
    Leaving (λ k. byte_left (is_set l.written.items k)) (λ k. after_byte (is_set l.written.items k)) l.initial.pick l.initial.durable.items l.initial.present.items
    l.pick l.durable.items l.present.items l.i
