use Rattle.cfs_home.proofs.Ends.{shut-swept}
use Rattle.cfs_home.proofs.shut_slots_are_swept.Goals as goal

pub returns : goal.returns
returns c = shut-swept
