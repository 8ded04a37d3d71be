use Rattle.std.proofs.Common.{◌∙◌, ap, refl, rules}
use Rattle.std.specs.Prelude.{is_some, not}
use Rattle.cfs_dir.specs.Namespace.{Namespace, node_at}
use Rattle.cfs_kernel.proofs.Keeping.{begun}
use Rattle.cfs_kernel.proofs.ns_state.NsState.new.Goals as goal

pub invariant_of-result : goal.invariant_of-result
invariant_of-result g c = record {
  records = begun c.args.stored.tree.nodes c.in_ok-removed.removed c.free_records-free.result c.in_ok-removed.ensures
      (λ rec low. c.free_records-free.ensures.free rec low ∙ ap (λ (tree : Namespace). not (is_some (node_at tree.nodes rec))) c.tree.ensures)
      (λ rec there. c.free_records-free.ensures.within rec (ap (λ (tree : Namespace). is_some (node_at tree.nodes rec)) c.tree.ensures ∙ there));
  counted = search rules;
}

pub returns-clause-kernel : goal.returns-clause-kernel
returns-clause-kernel g c = rw c.in_ok-queues.ensures.grants (rw c.in_ok-queues.ensures.home (rw c.in_ok-removed.ensures refl))
