use Rattle.std.proofs.Common.{sym, ◌∙◌}
use Rattle.cfs_io.proofs.Folders.{SameOrSaved-left, Saved-shelf}
use Rattle.cfs_io.proofs.file_shelf.save_file.Goals as goal

pub returns-in-Ok-clause-saved : goal.returns-in-Ok-clause-saved
returns-in-Ok-clause-saved g c = Saved-shelf _ _ _ _ (sym c.is_kept.ensures ∙ c.if-is_kept.false) c.in-Ok.ensures.saved

pub returns-in-Err-clause-whole : goal.returns-in-Err-clause-whole
returns-in-Err-clause-whole g c = SameOrSaved-left _ _ _ _ _ (sym c.is_kept.ensures ∙ c.if-is_kept.false) c.in-Err.ensures.left
