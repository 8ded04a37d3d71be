use Rattle.cfs_core_laws.proofs.Blanks.{tag-may}
use Rattle.cfs_core_laws.proofs.Whole.{whole}
use Rattle.cfs_core_laws.proofs.tags_may_come.Goals as goal

pub returns : goal.returns
returns c = λ core reached. tag-may core (whole reached).kept (whole reached).work.blocks.1
