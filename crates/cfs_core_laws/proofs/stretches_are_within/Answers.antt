use Rattle.cfs_core_laws.proofs.Whole.{whole}
use Rattle.cfs_core_laws.proofs.stretches_are_within.Goals as goal

pub returns : goal.returns
returns c = λ core reached. (whole reached).within_
