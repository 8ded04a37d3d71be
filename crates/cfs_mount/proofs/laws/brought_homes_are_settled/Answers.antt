use Rattle.cfs_mount.proofs.Restoring.{brought-settled}
use Rattle.cfs_mount.proofs.laws.brought_homes_are_settled.Goals as goal

pub returns : goal.returns
returns c = brought-settled
