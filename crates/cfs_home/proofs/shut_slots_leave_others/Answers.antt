use Rattle.cfs_home.proofs.Slots.{shut-leaves}
use Rattle.cfs_home.proofs.shut_slots_leave_others.Goals as goal

pub returns : goal.returns
returns c = shut-leaves
