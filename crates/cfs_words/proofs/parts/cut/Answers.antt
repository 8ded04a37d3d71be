use Rattle.std.proofs.Common.{sym, ◌∙◌}
use Rattle.std.proofs.lemmas.List.{take_rest}
use Rattle.cfs_words.proofs.Cuts.{slice_split-cut, slice_split-uncut}
use Rattle.cfs_words.proofs.parts.cut.Goals as goal

pub returns-in-Some : goal.returns-in-Some
returns-in-Some c = rw take_rest (slice_split-cut _ _ _ (sym c.find_separator.ensures ∙ c.in-Some.is))

pub returns-in-None : goal.returns-in-None
returns-in-None c = slice_split-uncut _ _ (sym c.find_separator.ensures ∙ c.in-None.is)
