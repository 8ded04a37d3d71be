use Rattle.std.proofs.Common.{◌∙◌, ◌%◌, ℕ, List, [], get_or, ap}
use Rattle.cfs_image.specs.Checks.{damage_of}
use Rattle.cfs_survey.specs.Changes.{change_checks}
use Rattle.cfs_survey.specs.Journals.{record_at}
use Rattle.cfs_survey.specs.SoFar.{places_of, tree_of}
use Rattle.cfs_survey.proofs.RefusalLemmas.{refused_same}
use Rattle.cfs_survey.proofs.journal.change_tree.Goals as goal

pub returns-clause-named : goal.returns-clause-named
returns-clause-named c =
    refused_same
    (change_checks c.offset_of.result (tree_of c.args.tree.now) (places_of c.args.tree.now)
    c.record_of-words.result)
    (change_checks (record_at c.args.at (c.args.number % 64)) (tree_of c.args.tree.now)
    (places_of c.args.tree.now) (get_or c.args.journal.now (c.args.number % 64) []))
    c.change.result
    (ap (λ (at : ℕ). damage_of
    (change_checks at (tree_of c.args.tree.now) (places_of c.args.tree.now)
    c.record_of-words.result)) c.offset_of.ensures.at
    ∙ ap (λ (words : List ℕ). damage_of
    (change_checks (record_at c.args.at (c.args.number % 64)) (tree_of c.args.tree.now)
    (places_of c.args.tree.now) words)) c.record_of-words.ensures)
    c.change.ensures.named
