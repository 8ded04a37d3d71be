use Rattle.cfs_kernel.proofs.Keeping.{lowest_is}
use Rattle.cfs_kernel.proofs.ns_state.NsState.free_record.Goals as goal

pub returns-clause-lowest : goal.returns-clause-lowest
returns-clause-lowest g c =
    let self = c.args.self.now in
    let found = c.lowest.ensures in
    lowest_is self.stored.tree.nodes self.removed self.free self.records c.lowest.result found.within found.free found.lowest found.none
