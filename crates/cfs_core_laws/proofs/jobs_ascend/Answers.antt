use Rattle.cfs_core_laws.proofs.Sorted.{sorted-place}
use Rattle.cfs_core_laws.proofs.Whole.{whole}
use Rattle.cfs_core_laws.proofs.jobs_ascend.Goals as goal

pub returns : goal.returns
returns c = λ core reached. sorted-place core (whole reached).sorted
