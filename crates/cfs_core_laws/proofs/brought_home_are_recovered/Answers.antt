use Rattle.cfs_core_laws.proofs.Rests.{brought-home}
use Rattle.cfs_core_laws.proofs.brought_home_are_recovered.Goals as goal

pub returns : goal.returns
returns c = λ core image steps reached. brought-home core image steps reached
