use Rattle.cfs_core_laws.proofs.Rests.{brought-fresh}
use Rattle.cfs_core_laws.proofs.brought_home_are_fresh.Goals as goal

pub returns : goal.returns
returns c = λ core image steps reached. brought-fresh core image steps reached
