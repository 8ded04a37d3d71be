use Rattle.cfs_core_laws.proofs.Moments.{moments-recover}
use Rattle.cfs_core_laws.proofs.moments_recover.Goals as goal

pub returns : goal.returns
returns c = λ core event reached h. moments-recover core event reached h
