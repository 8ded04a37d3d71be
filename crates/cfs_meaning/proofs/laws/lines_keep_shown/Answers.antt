use Rattle.cfs_meaning.proofs.ShownLines.{lines-keep-shown}
use Rattle.cfs_meaning.proofs.laws.lines_keep_shown.Goals as goal

pub returns : goal.returns
returns c = lines-keep-shown
