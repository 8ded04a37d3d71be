use Rattle.std.proofs.Common.{◌∙◌, sym, subst}
use Rattle.cfs_dir.specs.Namespace.{Namespace}
use Rattle.cfs_names.proofs.Ends.{on_ok}
use Rattle.cfs_kernel.specs.Records.{AreKept}
use Rattle.cfs_kernel.proofs.Keeping.{node_joined, unused_is_free}
use Rattle.cfs_kernel.proofs.ns_state.NsState.add_node.Goals as goal

pub take-requires : goal.take-requires
take-requires g c =
    let self = c.args.self.now in
    (unused_is_free self.stored.tree.nodes self.removed self.free self.records c.args.node.now.rec c.requires.record).0

pub invariant_of-self-2 : goal.invariant_of-self-2
invariant_of-self-2 g c =
    let self = c.args.self.now in
    let node = c.args.node.now in
    let ok = sym c.is_err.ensures.value ∙ c.if-is_err.false in
    let tree = on_ok c.create-result.result ok c.create-result.ensures.makes.made in
    let free = unused_is_free self.stored.tree.nodes self.removed self.free self.records node.rec c.requires.record in
    record {
      records = subst (λ (tree : Namespace). AreKept tree.nodes self.removed c.take.new.self) (sym tree)
          (node_joined self.stored.tree.nodes self.removed self.free self.records node c.take.new.self free.0 free.1 c.take.ensures c.requires.joins.free);
      counted = self.counted;
    }
