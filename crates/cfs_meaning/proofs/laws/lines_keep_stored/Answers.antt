use Rattle.cfs_meaning.proofs.StoredLines.{lines-keep-stored}
use Rattle.cfs_meaning.proofs.laws.lines_keep_stored.Goals as goal

pub returns : goal.returns
returns c = lines-keep-stored
