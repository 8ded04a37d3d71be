use Rattle.cfs_recover.proofs.Ranges.{writes-cut}
use Rattle.cfs_recover.proofs.laws.writes_are_cut.Goals as goal

pub returns : goal.returns
returns c = writes-cut
