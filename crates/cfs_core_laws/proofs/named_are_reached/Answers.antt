use Rattle.cfs_core_laws.proofs.Moments.{all-reached}
use Rattle.cfs_core_laws.proofs.named_are_reached.Goals as goal

pub returns : goal.returns
returns c = λ core event reached h. all-reached core event reached h
