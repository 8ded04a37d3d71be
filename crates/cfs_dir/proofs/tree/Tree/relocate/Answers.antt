use Rattle.std.proofs.Common.{◌≡◌, sym, ◌∙◌, ap, subst}
use Rattle.std.specs.Prelude.{IsSomeAnd, Some, option_copied}
use Rattle.cfs_dir.specs.Namespace.{Namespace, node_at}
use Rattle.cfs_dir.specs.declared.node.Node.{Node}
use Rattle.cfs_dir.proofs.Changed.{IsRenamed-relocated, IsTable-relocated, seen-relocated}
use Rattle.cfs_dir.proofs.Slots.{slot_is_node}
use Rattle.cfs_dir.proofs.tree.Tree.relocate.Goals as goal

pub unreachable-requires : goal.unreachable-requires
unreachable-requires c =
    let none = ap (λ (v : Namespace). node_at v.nodes c.args.node.now.rec) (sym c.self.view_is)
    ∙ sym (slot_is_node c.self.inside.nodes c.args.node.now.rec c.self.invariant.at_records) ∙ sym c.get.ensures ∙ ap option_copied c.in_default.is in
    subst (λ o. IsSomeAnd o (λ (old : Node). old.ino ≡ c.args.node.now.ino)) none c.requires.stands

pub replace-requires : goal.replace-requires
replace-requires c =
    subst (λ o. IsSomeAnd o (λ (old : Node). old.ino ≡ c.args.node.now.ino))
    (ap (λ (v : Namespace). node_at v.nodes c.args.node.now.rec) (sym c.self.view_is)
    ∙ sym (slot_is_node c.self.inside.nodes c.args.node.now.rec c.self.invariant.at_records)) c.requires.stands

pub rename_key-requires : goal.rename_key-requires
rename_key-requires c =
    let stands = ap (λ (v : Namespace). node_at v.nodes c.args.node.now.rec) (sym c.self.view_is)
    ∙ sym (slot_is_node c.self.inside.nodes c.args.node.now.rec c.self.invariant.at_records) ∙ sym c.get.ensures ∙ ap option_copied c.in-Some.is in
    IsRenamed-relocated c.self.inside.nodes c.self.inside.index c.self.inside.next c.replace.new.self c.args.self.now c.args.node.now c.in-Some.old.now
    c.self.invariant c.self.view_is stands c.requires.unnamed c.requires.whole c.replace.ensures

pub invariant_of-self : goal.invariant_of-self
invariant_of-self c =
    let stands = ap (λ (v : Namespace). node_at v.nodes c.args.node.now.rec) (sym c.self.view_is)
    ∙ sym (slot_is_node c.self.inside.nodes c.args.node.now.rec c.self.invariant.at_records) ∙ sym c.get.ensures ∙ ap option_copied c.in-Some.is in
    IsTable-relocated c.self.inside.nodes c.self.inside.index c.self.inside.next c.replace.new.self c.args.self.now c.args.node.now c.in-Some.old.now
    c.self.invariant c.self.view_is stands c.requires.unnamed c.requires.whole c.replace.ensures c.rename_key.new.index c.rename_key.ensures

pub returns : goal.returns
returns c =
    let stands = ap (λ (v : Namespace). node_at v.nodes c.args.node.now.rec) (sym c.self.view_is)
    ∙ sym (slot_is_node c.self.inside.nodes c.args.node.now.rec c.self.invariant.at_records) ∙ sym c.get.ensures ∙ ap option_copied c.in-Some.is in
    seen-relocated c.self.inside.nodes c.self.inside.index c.self.inside.next c.replace.new.self c.args.self.now c.args.node.now c.in-Some.old.now
    c.self.invariant c.self.view_is stands c.requires.unnamed c.requires.whole c.replace.ensures
