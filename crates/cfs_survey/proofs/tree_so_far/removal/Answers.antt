use Rattle.std.proofs.Common.{◌∙◌, ℕ, sym, ap}
use Rattle.cfs_dir.specs.declared.change.Change.TheVariants as changes
use Rattle.cfs_survey.specs.Changes.{ino_of}
use Rattle.cfs_survey.proofs.ChangeLemmas.{told_remove}
use Rattle.cfs_survey.proofs.tree_so_far.removal.Goals as goal

pub returns : goal.returns
returns c =
    ap (λ (rec : ℕ). changes.Remove rec (ino_of c.args.words.now)) c.requires.number
    ∙ sym (told_remove c.args.words.now c.requires.operation)
