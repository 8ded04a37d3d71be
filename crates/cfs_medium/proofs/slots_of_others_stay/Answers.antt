use Rattle.cfs_medium.proofs.Slots.{slots-stay}
use Rattle.cfs_medium.proofs.slots_of_others_stay.Goals as goal

pub returns : goal.returns
returns c = slots-stay
