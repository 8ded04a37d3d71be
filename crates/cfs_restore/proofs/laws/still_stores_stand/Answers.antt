use Rattle.cfs_restore.proofs.Still.{still-stands}
use Rattle.cfs_restore.proofs.laws.still_stores_stand.Goals as goal

pub returns : goal.returns
returns c = still-stands
