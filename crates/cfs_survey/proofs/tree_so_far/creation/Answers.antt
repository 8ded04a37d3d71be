use Rattle.std.proofs.Common.{◌∙◌, sym, ap}
use Rattle.cfs_dir.specs.declared.change.Change.TheVariants as changes
use Rattle.cfs_survey.proofs.ChangeLemmas.{told_create}
use Rattle.cfs_survey.proofs.tree_so_far.creation.Goals as goal

pub returns : goal.returns
returns c =
    ap changes.Create c.requires.node
    ∙ sym (told_create c.args.words.now c.requires.operation)
