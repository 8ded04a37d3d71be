use Rattle.cfs_meaning.proofs.ChangesWell.{lines-change-well}
use Rattle.cfs_meaning.proofs.laws.lines_change_well.Goals as goal

pub returns : goal.returns
returns c = lines-change-well
