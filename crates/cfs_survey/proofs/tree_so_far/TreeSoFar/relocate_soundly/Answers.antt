use Rattle.std.proofs.Common.{◌∙◌, ◌++◌, List, ℕ, sym, ap}
use Rattle.std.proofs.lemmas.Result.{err_from_is_err_and}
use Rattle.cfs_dir.specs.Change.{changed}
use Rattle.cfs_dir.specs.Namespace.{Namespace}
use Rattle.cfs_image.specs.Checks.{Check, damage_of}
use Rattle.cfs_journal.specs.Records.{change_of}
use Rattle.cfs_survey.specs.declared.refusal.SurveyRefusal.TheVariants.{Damaged}
use Rattle.cfs_survey.specs.Changes.{move_checks, placed_by, tree_checks}
use Rattle.cfs_survey.specs.SoFar.{places_of, tree_of}
use Rattle.cfs_survey.proofs.FirstFaults.{behind_sound}
use Rattle.cfs_survey.proofs.RefusalLemmas.{refused_before, refused_with}
use Rattle.cfs_survey.proofs.tree_so_far.TreeSoFar.relocate_soundly.Goals as goal

pub returns-in_err-change-clause-named : goal.returns-in_err-change-clause-named
returns-in_err-change-clause-named c =
    let r = c.from_residual in
    let p = err_from_is_err_and r.result r.ensures.1 in
    let moves : List Check = move_checks c.args.at c.args.self.now.nodes.items c.args.words.now in
    let tree : Namespace = changed (tree_of c.args.self.now) (change_of c.args.words.now) in
    let after : List Check =
    tree_checks (placed_by c.args.at c.args.words.now (places_of c.args.self.now)) tree.nodes in
    refused_with r.result (moves ++ after) p.0 c.in_err-change.field-0.0 p.1 p.2
    (refused_before moves after c.in_err-change.field-0.0 c.in_err-change.ensures.named)

pub returns-in_err-check-clause-named : goal.returns-in_err-check-clause-named
returns-in_err-check-clause-named c =
    let r = c.from_residual-in_err-check in
    let p = err_from_is_err_and r.result r.ensures.1 in
    let moves : List Check = move_checks c.args.at c.args.self.now.nodes.items c.args.words.now in
    let tree : Namespace = changed (tree_of c.args.self.now) (change_of c.args.words.now) in
    let after : List Check =
    tree_checks (placed_by c.args.at c.args.words.now (places_of c.args.self.now)) tree.nodes in
    refused_with r.result (moves ++ after) p.0 (Damaged c.in_err-check.field-0.0) p.1 p.2
    (behind_sound moves after c.in_ok-change.ensures.sound
    ∙ ap (λ (places : List ℕ). damage_of (tree_checks places tree.nodes))
    (sym c.in_ok-change.ensures.places)
    ∙ ap (λ (t : Namespace). damage_of (tree_checks (places_of c.relocate.new.self) t.nodes))
    (sym c.in_ok-change.ensures.tree)
    ∙ sym c.in_err-check.ensures)

pub returns-clause-sound : goal.returns-clause-sound
returns-clause-sound c =
    let moves : List Check = move_checks c.args.at c.args.self.now.nodes.items c.args.words.now in
    let tree : Namespace = changed (tree_of c.args.self.now) (change_of c.args.words.now) in
    let after : List Check =
    tree_checks (placed_by c.args.at c.args.words.now (places_of c.args.self.now)) tree.nodes in
    behind_sound moves after c.in_ok-change.ensures.sound
    ∙ ap (λ (places : List ℕ). damage_of (tree_checks places tree.nodes))
    (sym c.in_ok-change.ensures.places)
    ∙ ap (λ (t : Namespace). damage_of (tree_checks (places_of c.relocate.new.self) t.nodes))
    (sym c.in_ok-change.ensures.tree)
    ∙ sym c.in_ok-check.ensures
