use Rattle.std.proofs.Common.{ℕ, List, length, sym, ◌∙◌, ap}
use Rattle.cfs_dir.specs.Rename.{move_refusal}
use Rattle.cfs_dir.proofs.Renaming.{renamed-goes, renamed-moves, still-moves, still-same}
use Rattle.cfs_dir.proofs.tree.Tree.node_to_move.Goals as goal

pub returns-then-is_node_there-clause-moves : goal.returns-then-is_node_there-clause-moves
returns-then-is_node_there-clause-moves c =
    let place = c.place.ensures.place in let was = c.in_ok-parent.was in let entry = c.in-Entry.is in let some = c.in-Some-node.is in
    still-moves c.args.self.now c.args.credential c.args.from.now c.in-Entry.parent c.in-Entry.field-1 c.in-Some-node.node c.place.ensures.whole c.place.ensures.readable (cc)

pub returns-then-is_node_there-clause-itself : goal.returns-then-is_node_there-clause-itself
returns-then-is_node_there-clause-itself c = λ _.
    let place = c.place.ensures.place in let was = c.in_ok-parent.was in let entry = c.in-Entry.is in let some = c.in-Some-node.is in
    still-same c.args.self.now c.args.credential c.args.from.now c.in-Entry.parent c.in-Entry.field-1 c.in-Some-node.node c.place.ensures.whole c.place.ensures.readable (cc)

pub returns-clause-moves : goal.returns-clause-moves
returns-clause-moves c =
    let place = c.place.ensures.place in let was = c.in_ok-parent.was in let entry = c.in-Entry.is in let some = c.in-Some-node.is in
    let paths = c.paths_refusal.ensures in let accepted = c.in_default.is in let from = c.names.ensures.same in let to = c.names-2.ensures.same in
    let place-2 = c.place-2.ensures.place in let was-2 = c.in_ok-directory.was in let entry-2 = c.in-Entry-2.is in
    let there = c.is_node_there.ensures in let differs = c.if-is_node_there.false in
    renamed-moves c.args.self.now c.args.credential c.args.from.now c.args.to.now c.in-Entry.parent c.in-Entry.field-1 c.in-Some-node.node c.in-Entry-2.directory c.in-Entry-2.name c.in-Entry-2.there
    c.place.ensures.whole c.place.ensures.readable c.place-2.ensures.readable (cc) (cc) (cc) (cc)
    (ap (λ (ns : List (List ℕ)). move_refusal c.args.self.now.nodes c.args.credential c.in-Entry.parent c.in-Some-node.node c.in-Entry-2.directory c.in-Entry-2.there (length ns))
    (sym c.names-names.ensures.same) ∙ sym c.move_refusal-refusal.ensures ∙ c.in_default-refusal.is)

pub returns-clause-itself : goal.returns-clause-itself
returns-clause-itself c = λ stands.
    let place = c.place.ensures.place in let was = c.in_ok-parent.was in let entry = c.in-Entry.is in let some = c.in-Some-node.is in
    let paths = c.paths_refusal.ensures in let accepted = c.in_default.is in let from = c.names.ensures.same in let to = c.names-2.ensures.same in
    let place-2 = c.place-2.ensures.place in let was-2 = c.in_ok-directory.was in let entry-2 = c.in-Entry-2.is in
    let there = c.is_node_there.ensures in let differs = c.if-is_node_there.false in
    absurd (renamed-goes c.args.self.now c.args.credential c.args.from.now c.args.to.now c.in-Entry.parent c.in-Entry.field-1 c.in-Some-node.node c.in-Entry-2.directory c.in-Entry-2.name c.in-Entry-2.there
    c.place.ensures.whole c.place.ensures.readable c.place-2.ensures.readable (cc) (cc) (cc) (cc)
    (ap (λ (ns : List (List ℕ)). move_refusal c.args.self.now.nodes c.args.credential c.in-Entry.parent c.in-Some-node.node c.in-Entry-2.directory c.in-Entry-2.there (length ns))
    (sym c.names-names.ensures.same) ∙ sym c.move_refusal-refusal.ensures ∙ c.in_default-refusal.is) stands)
