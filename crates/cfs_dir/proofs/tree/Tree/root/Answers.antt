use Rattle.std.proofs.Common.{◌∙◌, sym, ap, subst}
use Rattle.std.specs.Prelude.{option_copied, IsSomeAnd}
use Rattle.cfs_dir.specs.Namespace.{Namespace, node_at}
use Rattle.cfs_dir.specs.Tree.{IsRoot}
use Rattle.cfs_dir.proofs.Slots.{slot_is_node}
use Rattle.cfs_dir.proofs.tree.Tree.root.Goals as goal

pub unreachable-requires : goal.unreachable-requires
unreachable-requires c =
    let none = sym (slot_is_node c.self.inside.nodes 0 c.self.invariant.at_records)
    ∙ sym c.get.ensures ∙ ap option_copied c.in-None.is in
    subst (λ o. IsSomeAnd o IsRoot) none c.self.invariant.tree.root

pub returns-clause-first : goal.returns-clause-first
returns-clause-first c =
    ap (λ (namespace : Namespace). node_at namespace.nodes 0) (sym c.self.view_is)
    ∙ sym (slot_is_node c.self.inside.nodes 0 c.self.invariant.at_records)
    ∙ sym c.get.ensures ∙ ap option_copied c.in-Some.is
