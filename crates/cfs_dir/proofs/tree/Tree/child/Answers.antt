use Rattle.std.proofs.Common.{◌∙◌, sym, ap}
use Rattle.std.specs.Prelude.{option_copied}
use Rattle.cfs_dir.specs.Namespace.{Namespace, child_of}
use Rattle.cfs_dir.proofs.Found.{node_at-child, child_of-None}
use Rattle.cfs_dir.proofs.Slots.{slot_is_node}
use Rattle.cfs_dir.proofs.tree.Tree.child.Goals as goal

pub returns-in_err-rec : goal.returns-in_err-rec
returns-in_err-rec c =
    ap option_copied c.from_residual.ensures
    ∙ sym (child_of-None _ c.args.parent c.args.name
    (sym (c.self.invariant.indexed (record { parent = c.args.parent; name = c.args.name })) ∙ sym c.in_err-rec.ensures.value))
    ∙ ap (λ (namespace : Namespace). child_of namespace.nodes c.args.parent c.args.name) c.self.view_is

pub returns : goal.returns
returns c =
    c.get-2.ensures
    ∙ slot_is_node c.self.inside.nodes c.in_ok-rec.field-0.now c.self.invariant.at_records
    ∙ node_at-child _ 0 c.args.parent c.args.name c.in_ok-rec.field-0.now c.self.invariant.tree.ascending
    (sym (c.self.invariant.indexed (record { parent = c.args.parent; name = c.args.name })) ∙ sym c.in_ok-rec.ensures.value)
    ∙ ap (λ (namespace : Namespace). child_of namespace.nodes c.args.parent c.args.name) c.self.view_is
