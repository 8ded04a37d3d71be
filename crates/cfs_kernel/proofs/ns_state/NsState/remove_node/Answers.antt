use Rattle.std.proofs.Common.{◌∙◌, sym, subst}
use Rattle.cfs_dir.specs.Namespace.{Namespace}
use Rattle.cfs_names.proofs.Ends.{on_ok}
use Rattle.cfs_kernel.specs.Records.{AreKept}
use Rattle.cfs_kernel.proofs.Keeping.{node_left}
use Rattle.cfs_kernel.proofs.ns_state.NsState.remove_node.Goals as goal

pub invariant_of-self-2 : goal.invariant_of-self-2
invariant_of-self-2 g c =
    let self = c.args.self.now in
    let node = c.args.node.now in
    let ok = sym c.is_err.ensures.value ∙ c.if-is_err.false in
    let tree = on_ok c.remove-result.result ok c.remove-result.ensures.makes.made in
    record {
      records = subst (λ (tree : Namespace). AreKept tree.nodes c.bury.new.removed c.bury.new.free) (sym tree)
          (rw c.bury.ensures.removed
          (node_left self.stored.tree.nodes self.removed self.free self.records node c.bury.new.free c.requires.stands c.bury.ensures.free));
      counted = self.counted;
    }
