use Rattle.cfs_meaning.proofs.ReadLines.{reads-right}
use Rattle.cfs_meaning.proofs.laws.reads_are_right.Goals as goal

pub returns : goal.returns
returns c = reads-right
