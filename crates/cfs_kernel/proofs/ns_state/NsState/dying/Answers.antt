use Rattle.std.proofs.Common.{◌∙◌, ap}
use Rattle.cfs_grants.specs.Removed.{first_dying}
use Rattle.cfs_kernel.proofs.Keeping.{row_given}
use Rattle.cfs_kernel.proofs.ns_state.NsState.dying.Goals as goal

pub invariant_of-self : goal.invariant_of-self
invariant_of-self g c =
    let self = c.args.self.now in
    record {
      records = rw c.dying.ensures.given (row_given self.stored.tree.nodes self.removed self.free self.records self.queues.grants c.args.by c.dying.result (c.dying.ensures.found ∙ ap (λ grants. first_dying 0 grants self.removed) c.grants.ensures));
      counted = self.counted;
    }
