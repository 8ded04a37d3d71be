use Rattle.cfs_kernel.proofs.Keeping.{row_freed}
use Rattle.cfs_kernel.proofs.ns_state.NsState.freed.Goals as goal

pub invariant_of-self : goal.invariant_of-self
invariant_of-self g c =
    let self = c.args.self.now in
    record {
      records = rw c.freed.ensures (row_freed self.stored.tree.nodes self.removed self.free self.records c.args.rec c.give.new.self c.requires.there c.give.ensures);
      counted = self.counted;
    }
