use Rattle.cfs_core_laws.proofs.Blanks.{zero-at}
use Rattle.cfs_core_laws.proofs.Whole.{whole}
use Rattle.cfs_core_laws.proofs.untagged_are_zero.Goals as goal

pub returns : goal.returns
returns c = λ core reached. zero-at core (whole reached).work.blocks.1
