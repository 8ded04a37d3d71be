use Rattle.cfs_core_laws.proofs.Moments.{moments-named}
use Rattle.cfs_core_laws.proofs.Whole.{whole}
use Rattle.cfs_core_laws.proofs.moments_are_named.Goals as goal

pub returns : goal.returns
returns c = λ core event reached h. moments-named core event (whole reached) h
