use Rattle.cfs_core_laws.proofs.Doubts.{in-step}
use Rattle.cfs_core_laws.proofs.Whole.{whole}
use Rattle.cfs_core_laws.proofs.lists_are_in_step.Goals as goal

pub returns : goal.returns
returns c = λ core reached. in-step core (whole reached).kept (whole reached).doubted
