use Rattle.cfs_medium.proofs.SlotSteps.{shut-show}
use Rattle.cfs_medium.proofs.shut_slots_show.Goals as goal

pub returns : goal.returns
returns c = shut-show
