use Rattle.cfs_core_laws.proofs.Whole.{whole}
use Rattle.cfs_core_laws.proofs.stretches_are_short.Goals as goal

pub returns : goal.returns
returns c = λ core reached. (whole reached).kept.stored_.short
