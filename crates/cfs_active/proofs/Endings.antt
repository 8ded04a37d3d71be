-- A job among others is taken back.
use Rattle.std.proofs.Common.{◌≡◌, Bool, List, [], ◌∷◌, ◌++◌, arith, subst, sym}
use Rattle.cfs_core.specs.declared.event.End.TheVariants as ends
use Rattle.cfs_core.specs.declared.event.Event.TheVariants as events
use Rattle.cfs_job.specs.Steps.{steps_left}
use Rattle.cfs_inode.specs.Finishing.{FinishEnd, FinishMakes, Finishes, end_at, failing, going_on}
use Rattle.cfs_inode.specs.Finishing.{retiring, unfinished}
use Rattle.cfs_active.specs.Known.{IsActive}
use Rattle.cfs_active.proofs.Keepings.{keeps-finish}
use Rattle.cfs_core.specs.declared.inode_core.Core.{Core}
use Rattle.cfs_core.specs.declared.event.Event.{Event}
use Rattle.cfs_job.specs.Views.{JobView}
use Rattle.cfs_medium.specs.World.{World}
use Rattle.cfs_pmem.specs.declared.trace.Asked.{Asked}
use Rattle.cfs_inode.specs.Makes.{Made, Makes}
use Rattle.cfs_inode.specs.Stands.{Together}
use Rattle.cfs_inode.specs.View.{StateView}
use Rattle.cfs_active.specs.Makes.{ActiveMakes}
use Rattle.cfs_active.specs.View.{ActiveView}
use Rattle.cfs_active.proofs.Knowns.{made-as, stays-known}
use Rattle.cfs_active.proofs.Orders.{to-back, to-front}

-- it is before the others
at-front : (state : StateView) (jobs : List JobView) (before : List JobView) (job : JobView)
    (behind : List JobView) (core : Core) (world : World) → jobs ≡ before ++ job ∷ behind →
    Together state jobs core world → Together state (job ∷ (before ++ behind)) core world
at-front state jobs before job behind core world are together =
    to-front state before job behind core world
    (subst (λ (js : List JobView). Together state js core world) are together)

-- A call that takes the job back from beside any others takes it from among these.
pub taken-from : (events : List Event) (asked_old asked_new : List Asked) (old new : ActiveView)
    (before : List JobView) (job : JobView) (behind : List JobView) →
    old.jobs ≡ before ++ job ∷ behind → new.jobs ≡ before ++ behind →
    ((jobs : List JobView) → Makes old.state.ino (Together old.state (job ∷ jobs)) events asked_old
    asked_new (Together new.state jobs)) →
    ActiveMakes events asked_old old asked_new new
taken-from events asked_old asked_new old new before job behind were are makes =
    λ core world together.
    subst (λ (js : List JobView). Made old.state.ino events (Together new.state js) core asked_old
    world asked_new) (sym are)
    (makes (before ++ behind) core world
    (at-front old.state old.jobs before job behind core world were together))

-- A call that puts the job elsewhere puts it where it was.
pub changed-in : (events : List Event) (asked_old asked_new : List Asked) (old new : ActiveView)
    (before : List JobView) (was now : JobView) (behind : List JobView) →
    old.jobs ≡ before ++ was ∷ behind → new.jobs ≡ before ++ now ∷ behind →
    new.state ≡ old.state →
    ((jobs : List JobView) → Makes old.state.ino (Together old.state (was ∷ jobs)) events asked_old
    asked_new (Together old.state (now ∷ jobs))) →
    ActiveMakes events asked_old old asked_new new
changed-in events asked_old asked_new old new before was now behind were are same makes =
    λ core world together.
    subst (λ (s : StateView). Made old.state.ino events (Together s new.jobs) core asked_old
    world asked_new) (sym same)
    (subst (λ (js : List JobView). Made old.state.ino events (Together old.state js) core asked_old
    world asked_new) (sym are)
    (made-as old.state.ino events (Together old.state (now ∷ (before ++ behind)))
    (Together old.state (before ++ now ∷ behind)) core asked_old world asked_new
    (λ c w behind_is. to-back old.state before now behind c w behind_is)
    (makes (before ++ behind) core world
    (at-front old.state old.jobs before was behind core world were together))))

-- What is known stays known where the job ends, whichever end it is.
pub ended-known : (obeys : Bool) (end : FinishEnd) (asked_old asked_new : List Asked)
    (old new : ActiveView) (before : List JobView) (job : JobView) (behind : List JobView) →
    old.jobs ≡ before ++ job ∷ behind → new.jobs ≡ before ++ behind → steps_left job ≡ 0 →
    Finishes obeys end asked_old old.state job asked_new new.state →
    FinishMakes obeys end asked_old old.state job asked_new new.state →
    ∥ IsActive old.state old.jobs ∥₁ → ∥ IsActive new.state new.jobs ∥₁
ended-known obeys (retiring slots) asked_old asked_new old new before job behind were are none did
    makes known =
    stays-known (events.Finish job.place ends.Retired ∷ []) asked_old asked_new old new
    (keeps-finish obeys (retiring slots) asked_old old.state job asked_new new.state did)
    (taken-from (events.Finish job.place ends.Retired ∷ []) asked_old asked_new old new before job
    behind were are makes) known
ended-known obeys going_on asked_old asked_new old new before job behind were are none did makes
    known =
    stays-known (events.Finish job.place ends.More ∷ []) asked_old asked_new old new
    (keeps-finish obeys going_on asked_old old.state job asked_new new.state did)
    (taken-from (events.Finish job.place ends.More ∷ []) asked_old asked_new old new before job
    behind were are makes) known
ended-known obeys (unfinished back) asked_old asked_new old new before job behind were are none did
    makes known = absurd (omega (arith, did.0, none))
ended-known obeys failing asked_old asked_new old new before job behind were are none did makes
    known =
    stays-known (events.Finish job.place (end_at did.0 old.state job) ∷ []) asked_old asked_new old
    new (keeps-finish obeys failing asked_old old.state job asked_new new.state did)
    (taken-from (events.Finish job.place (end_at did.0 old.state job) ∷ []) asked_old asked_new old
    new before job behind were are (makes did.0 did.1 did.2)) known
