use Rattle.cfs_core_laws.proofs.Moments.{changes-make}
use Rattle.cfs_core_laws.proofs.Whole.{whole}
use Rattle.cfs_core_laws.proofs.changes_make_the_core.Goals as goal

pub returns : goal.returns
returns c = λ core event image reached h step is. changes-make core event (whole reached) h step
    image is
