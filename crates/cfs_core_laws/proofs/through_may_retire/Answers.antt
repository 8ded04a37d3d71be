use Rattle.cfs_core.specs.Words.{is_through, track}
use Rattle.cfs_core.proofs.Legal.{both}
use Rattle.cfs_core_laws.proofs.Through.{is_last, may-retire}
use Rattle.cfs_core_laws.proofs.Whole.{whole}
use Rattle.cfs_core_laws.proofs.through_may_retire.Goals as goal

pub returns : goal.returns
returns c = λ core reached up place h.
    let parts = both (is_through (track core.tracks place).state) (is_last core place) h in
    may-retire core (whole reached).kept (whole reached).work up place parts.0 parts.1
