-- What holds of every core that there is.
use Rattle.cfs_core.specs.declared.inode_core.Core.{Core}
use Rattle.cfs_core.specs.Good.{IsGood}
use Rattle.cfs_core.proofs.Goods.{good-kept}
use Rattle.cfs_core_laws.specs.InStep.{AreInStep}
use Rattle.cfs_core_laws.specs.Reached.{IsReached}
use Rattle.cfs_core_laws.proofs.Doubts.{in-step}
use Rattle.cfs_core_laws.proofs.Whole.{whole}

pub good : (core : Core) → IsReached core → IsGood core
good core reached = good-kept core (whole reached).kept

pub steps-in : (core : Core) → IsReached core → AreInStep core
steps-in core reached = in-step core (whole reached).kept (whole reached).doubted
