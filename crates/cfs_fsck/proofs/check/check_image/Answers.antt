use Rattle.std.proofs.Common.{◌∙◌, ap}
use Rattle.cfs_dir.specs.Namespace.{Namespace}
use Rattle.cfs_survey.specs.Surveys.{Words, recovered_tree, words_of}
use Rattle.cfs_fsck.specs.Images.{image_words}
use Rattle.cfs_fsck.specs.Reports.{counts_of, report_of}
use Rattle.cfs_fsck.proofs.check.check_image.Goals as goal

pub returns-clause-report : goal.returns-clause-report
unfolding report_of
returns-clause-report c =
    c.in_ok-count.ensures
    ∙ ap (λ (tree : Namespace). counts_of tree.nodes (words_of c.in_ok-words.words))
    c.in_ok-words.ensures.tree
    ∙ ap (λ (words : Words). counts_of (recovered_tree (image_words c.args.bytes.now)).nodes words)
    c.in_ok-words.ensures.words
