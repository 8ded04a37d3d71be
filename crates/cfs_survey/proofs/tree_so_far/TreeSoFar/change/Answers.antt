use Rattle.std.proofs.Common.{◌∷◌, ℕ, sym, ap}
use Rattle.cfs_image.specs.Checks.{damage_of}
use Rattle.cfs_survey.specs.Changes.{change_checks, create_checks, kind_checks, moving_checks}
use Rattle.cfs_survey.specs.Changes.{operation_check}
use Rattle.cfs_survey.specs.SoFar.{places_of, tree_of}
use Rattle.cfs_survey.proofs.RefusalLemmas.{refused_same}
use Rattle.cfs_survey.proofs.tree_so_far.TreeSoFar.change.Goals as goal

pub returns-then-operation-eq1-clause-named : goal.returns-then-operation-eq1-clause-named
returns-then-operation-eq1-clause-named c =
    refused_same (create_checks c.args.at (tree_of c.args.self.now) c.args.words.now)
    (change_checks c.args.at (tree_of c.args.self.now) (places_of c.args.self.now) c.args.words.now)
    c.create.result
    (ap (λ (n : ℕ). damage_of (operation_check c.args.at n ∷
    kind_checks c.args.at (tree_of c.args.self.now) (places_of c.args.self.now) c.args.words.now
    n)) (sym c.if-operation-eq1.true))
    c.create.ensures.named

pub returns-then-operation-eq3-clause-named : goal.returns-then-operation-eq3-clause-named
returns-then-operation-eq3-clause-named c =
    refused_same
    (moving_checks c.args.at (tree_of c.args.self.now) (places_of c.args.self.now)
    c.args.words.now)
    (change_checks c.args.at (tree_of c.args.self.now) (places_of c.args.self.now) c.args.words.now)
    c.relocate_soundly.result
    (ap (λ (n : ℕ). damage_of (operation_check c.args.at n ∷
    kind_checks c.args.at (tree_of c.args.self.now) (places_of c.args.self.now) c.args.words.now
    n)) (sym c.if-operation-eq3.true))
    c.relocate_soundly.ensures.named
