use Rattle.std.proofs.Common.{◌∙◌, ap}
use Rattle.cfs_dir.specs.Namespace.{Namespace, node_of}
use Rattle.cfs_dir.specs.Rename.{goes_too_deep, node_is_too_deep}
use Rattle.cfs_dir.specs.Table.{nodes_of}
use Rattle.cfs_dir.proofs.Slots.{list_any-holds}
use Rattle.cfs_dir.proofs.tree.Tree.goes_too_deep.Goals as goal

pub returns : goal.returns
returns c =
    c.some_is_too_deep.ensures
    ∙ list_any-holds c.self.inside.nodes (node_is_too_deep (node_of (nodes_of c.self.inside.nodes)) c.args.top c.args.names)
    ∙ ap (λ (namespace : Namespace). goes_too_deep namespace.nodes c.args.top c.args.names) c.self.view_is
