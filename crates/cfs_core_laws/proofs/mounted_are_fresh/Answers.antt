use Rattle.cfs_core_laws.proofs.Rests.{mounted-fresh}
use Rattle.std.proofs.Common.{refl}
use Rattle.cfs_core_laws.proofs.Whole.{whole}
use Rattle.cfs_core_laws.proofs.mounted_are_fresh.Goals as goal

pub returns : goal.returns
returns c = λ core reached down. mounted-fresh core (whole reached) down (rw down refl)
