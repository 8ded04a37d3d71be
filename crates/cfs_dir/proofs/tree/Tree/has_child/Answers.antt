use Rattle.std.proofs.Common.{◌∙◌, ap}
use Rattle.cfs_dir.specs.Namespace.{Namespace, has_child}
use Rattle.cfs_dir.proofs.Slots.{list_any-stands_in}
use Rattle.cfs_dir.proofs.tree.Tree.has_child.Goals as goal

pub returns : goal.returns
returns c =
    c.some_stands_in.ensures ∙ list_any-stands_in c.self.inside.nodes c.args.parent
    ∙ ap (λ (namespace : Namespace). has_child namespace.nodes c.args.parent) c.self.view_is
