use Rattle.cfs_kernel.proofs.Keeping.{row_kept}
use Rattle.cfs_kernel.proofs.ns_state.NsState.kept.Goals as goal

pub invariant_of-self : goal.invariant_of-self
invariant_of-self g c =
    let self = c.args.self.now in
    record {
      records = rw c.kept.ensures (row_kept self.stored.tree.nodes self.removed self.free self.records c.args.rec c.requires.there);
      counted = self.counted;
    }
