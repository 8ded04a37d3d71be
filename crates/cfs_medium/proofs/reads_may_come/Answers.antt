use Rattle.cfs_medium.proofs.ReadEvents.{reads-may-come}
use Rattle.cfs_medium.proofs.reads_may_come.Goals as goal

pub returns : goal.returns
returns c = reads-may-come
