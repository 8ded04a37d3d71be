use Rattle.cfs_core_laws.proofs.Rests.{clean}
use Rattle.cfs_core_laws.proofs.Whole.{whole}
use Rattle.cfs_core_laws.proofs.images_are_clean.Goals as goal

pub returns : goal.returns
returns c = λ core image reached. clean core image (whole reached)
