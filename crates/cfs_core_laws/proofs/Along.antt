-- What comes may come in its phase, and has its case.
use Rattle.std.proofs.Common.{◌≡◌, true}
use Rattle.cfs_core.specs.declared.event.Event.{Event}
use Rattle.cfs_core.specs.declared.inode_core.Core.{Core}
use Rattle.cfs_core.specs.May.{case, is_in_phase, may}
use Rattle.cfs_core.proofs.Legal.{both}

pub case-of : (core : Core) (event : Event) → may core event ≡ true → case core event ≡ true
case-of core event h = (both (is_in_phase core.crashed event) (case core event) h).1

pub phase-of : (core : Core) (event : Event) → may core event ≡ true →
    is_in_phase core.crashed event ≡ true
phase-of core event h = (both (is_in_phase core.crashed event) (case core event) h).0
