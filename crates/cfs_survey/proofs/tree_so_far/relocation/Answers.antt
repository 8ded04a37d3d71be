use Rattle.std.proofs.Common.{◌∙◌, sym, ap₂}
use Rattle.cfs_dir.specs.declared.change.Change.TheVariants as changes
use Rattle.cfs_survey.proofs.ChangeLemmas.{told_move}
use Rattle.cfs_survey.proofs.tree_so_far.relocation.Goals as goal

pub returns : goal.returns
returns c =
    ap₂ changes.Move c.requires.node c.replaced_in.ensures
    ∙ sym (told_move c.args.words.now c.requires.operation)
