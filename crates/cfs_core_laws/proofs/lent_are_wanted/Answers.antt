use Rattle.cfs_core_laws.proofs.Untagged.{wanted-at}
use Rattle.cfs_core_laws.proofs.Whole.{whole}
use Rattle.cfs_core_laws.proofs.lent_are_wanted.Goals as goal

pub returns : goal.returns
returns c = λ core reached. wanted-at core (whole reached).work.blocks.0
