use Rattle.cfs_core.proofs.Goods.{good-kept}
use Rattle.cfs_core_laws.proofs.Whole.{whole}
use Rattle.cfs_core_laws.proofs.reached_are_good.Goals as goal

pub returns : goal.returns
returns c = λ core reached. good-kept core (whole reached).kept
