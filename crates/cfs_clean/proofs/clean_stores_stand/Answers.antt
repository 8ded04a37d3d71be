use Rattle.cfs_clean.proofs.Standing.{clean-stands}
use Rattle.cfs_clean.proofs.clean_stores_stand.Goals as goal

pub returns : goal.returns
returns c = clean-stands
