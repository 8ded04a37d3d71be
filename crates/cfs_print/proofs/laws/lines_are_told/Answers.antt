use Rattle.cfs_print.proofs.Told.{line_told}
use Rattle.cfs_print.proofs.laws.lines_are_told.Goals as goal

pub returns : goal.returns
returns c = line_told
