use Rattle.cfs_medium.proofs.SlotEvents.{admissions-show}
use Rattle.cfs_medium.proofs.admissions_show.Goals as goal

pub returns : goal.returns
returns c = admissions-show
