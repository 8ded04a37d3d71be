use Rattle.cfs_plan.proofs.Filters.{pendings-more}
use Rattle.cfs_plan.proofs.pendings.pendings_of.Goals as goal

pub loop-entry-preserved : goal.loop-entry-preserved
loop-entry-preserved c = λ files has.
    pendings-more files c.args.entries.now c.loop-entry.entry-index _
    c.loop-entry.pendings.items c.push.new.self.items c.pending_of.result
    c.loop-entry-test.true (c.pending_of.ensures files has)
    (c.loop-entry.invariant files has) c.in_ok-push.ensures.items
