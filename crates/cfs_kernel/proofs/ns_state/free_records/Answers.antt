use Rattle.cfs_kernel.proofs.Begun.{rec_below}
use Rattle.cfs_kernel.proofs.ns_state.free_records.Goals as goal

pub returns-clause-within : goal.returns-clause-within
returns-clause-within c rec there = rec_below c.args.tree.now.nodes c.args.tree.now.next rec c.next-next.ensures.whole there
