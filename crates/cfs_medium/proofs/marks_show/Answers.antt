use Rattle.cfs_medium.proofs.SlotEvents.{marks-show}
use Rattle.cfs_medium.proofs.marks_show.Goals as goal

pub returns : goal.returns
returns c = marks-show
