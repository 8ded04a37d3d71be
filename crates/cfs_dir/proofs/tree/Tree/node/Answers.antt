use Rattle.std.proofs.Common.{◌∙◌, ap}
use Rattle.cfs_dir.specs.Namespace.{Namespace, node_at}
use Rattle.cfs_dir.proofs.Slots.{slot_is_node}
use Rattle.cfs_dir.proofs.tree.Tree.node.Goals as goal

pub returns : goal.returns
returns c =
    c.get.ensures
    ∙ slot_is_node c.self.inside.nodes c.args.rec c.self.invariant.at_records
    ∙ ap (λ (namespace : Namespace). node_at namespace.nodes c.args.rec) c.self.view_is
