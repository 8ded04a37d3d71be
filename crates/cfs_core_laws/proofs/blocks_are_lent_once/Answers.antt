use Rattle.cfs_core_laws.proofs.Lent.{once-at}
use Rattle.cfs_core_laws.proofs.Whole.{whole}
use Rattle.cfs_core_laws.proofs.blocks_are_lent_once.Goals as goal

pub returns : goal.returns
returns c = λ core reached. once-at core (whole reached).once
