use Rattle.cfs_recover.proofs.Ranges.{truncates-cut}
use Rattle.cfs_recover.proofs.laws.truncates_are_cut.Goals as goal

pub returns : goal.returns
returns c = truncates-cut
