use Rattle.std.proofs.Common.{not, true}
use Rattle.cfs_core.specs.declared.event.Event.TheVariants as events
use Rattle.cfs_core.specs.May.{may_admit}
use Rattle.cfs_core.specs.After.{after}
use Rattle.cfs_core.proofs.Legal.{both}
use Rattle.cfs_core.proofs.Marks.{marks-follow}
use Rattle.cfs_core.proofs.laws.marks_may_follow.Goals as goal

pub returns : goal.returns
returns c =
    λ core entry grant kept admits.
    marks-follow (after core (events.Admit entry grant true)) entry.place kept
    (both (not core.crashed) (may_admit core entry) admits).0
