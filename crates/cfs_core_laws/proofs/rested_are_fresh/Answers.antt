use Rattle.cfs_core_laws.proofs.Rests.{rested-fresh, rested-image}
use Rattle.cfs_core_laws.proofs.Whole.{whole}
use Rattle.cfs_core_laws.proofs.rested_are_fresh.Goals as goal

pub returns : goal.returns
returns c =
    λ core reached rest. (
      rested-fresh core (whole reached) rest,
      rested-image core (whole reached)
          rest,
    )
