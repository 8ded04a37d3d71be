use Rattle.cfs_core.specs.May.{case, is_in_phase}
use Rattle.cfs_core.specs.Run.{after_all}
use Rattle.cfs_core.proofs.KeptRuns.{kept-all}
use Rattle.cfs_core.proofs.Legal.{both}
use Rattle.cfs_core.proofs.Listing.{relists}
use Rattle.cfs_core.proofs.laws.listed_until_closed.Goals as goal

pub returns : goal.returns
returns c = λ core list fresh run event grant may_be.
    relists (after_all core list) grant event (kept-all core list fresh run).ordered
    (both (is_in_phase (after_all core list).crashed event)
    (case (after_all core list) event) may_be).1
