-- What is known of a state and its jobs stays known through a call.
use Rattle.std.proofs.Common.{◌≡◌, ◌<◌, ◌^◌, ◌++◌, ℕ, List, ◌∷◌, Some, length, subst, sym}
use Rattle.std.proofs.Common.{Option, None, refl, true}
use Rattle.std.specs.Option.{option_map}
use Rattle.std.specs.Prelude.{is_some}
use Rattle.std.proofs.Math.Logic.{∥∥₁_elim, ∥∥₁_map}
use Rattle.std.proofs.Props.{props}
use Rattle.cfs_core.specs.declared.event.Event.{Event}
use Rattle.cfs_core.specs.declared.inode_core.Core.{Core}
use Rattle.cfs_core.specs.Run.{after_all}
use Rattle.cfs_job.specs.Stands.{IsOpen}
use Rattle.cfs_job.specs.Views.{JobView}
use Rattle.cfs_job.proofs.JobLemmas.{opened_prop}
use Rattle.cfs_medium.specs.World.{World}
use Rattle.cfs_pmem.specs.declared.trace.Asked.{Asked}
use Rattle.cfs_pmem.specs.Images.{Seen, WordStep, words_of}
use Rattle.cfs_tracker.specs.declared.in_doubt.InDoubt.{InDoubt}
use Rattle.cfs_tracker.specs.declared.pending.Pending.{Pending}
use Rattle.cfs_inode.specs.Admitting.{is_here}
use Rattle.cfs_inode.specs.Backs.{HasOut}
use Rattle.cfs_inode.specs.Dispatching.{IsOpenedFor, IsReadyAt}
use Rattle.cfs_inode.specs.Makes.{Made}
use Rattle.cfs_inode.specs.Stands.{Together}
use Rattle.cfs_inode.specs.View.{Held, StateView, told_doubt}
use Rattle.cfs_inode.proofs.Knows.{jobs-out, standing-ready}
use Rattle.cfs_active.specs.Known.{IsActive}
use Rattle.cfs_active.specs.Makes.{ActiveMakes}
use Rattle.cfs_active.specs.View.{ActiveView}
use Rattle.cfs_active.proofs.Keepings.{Keeps}
use Rattle.cfs_active.proofs.Orders.{to-front}

-- from what is known before, and what the call is
pub stays-known : (events : List Event) (asked_old asked_new : List Asked) (old new : ActiveView) →
    Keeps old.state new.state → ActiveMakes events asked_old old asked_new new →
    ∥ IsActive old.state old.jobs ∥₁ → ∥ IsActive new.state new.jobs ∥₁
stays-known events asked_old asked_new old new keeps makes known =
    ∥∥₁_map known (λ k.
    let made = makes k.core k.world k.together in record {
      number = subst (λ (n : ℕ). n < 2 ^ 32) (sym keeps.ino) k.number;
      here = keeps.here k.here;
      sized = subst (λ (n : ℕ). 0 < n) (sym keeps.size) k.sized;
      core = after_all k.core events;
      world = made.world;
      together = made.stands;
    })

-- what is behind a call may be told otherwise
pub made-as : (ino : ℕ) (events : List Event) (P Q : Core → World → Type 0) (core : Core)
    (asked_old : List Asked) (old : World) (asked_new : List Asked) →
    ((c : Core) (w : World) → P c w → Q c w) →
    Made ino events P core asked_old old asked_new → Made ino events Q core asked_old old asked_new
made-as ino events P Q core asked_old old asked_new go made = record {
  run = made.run;
  world = made.world;
  moments = made.moments;
  stands = go (after_all core events) made.world made.stands;
}

-- the same state and jobs, told otherwise
pub known-as : (old new : StateView) (were are : List JobView) → new ≡ old → are ≡ were →
    ∥ IsActive old were ∥₁ → ∥ IsActive new are ∥₁
known-as old new were are same also known =
    subst (λ (s : StateView). ∥ IsActive s are ∥₁) (sym same)
    (subst (λ (js : List JobView). ∥ IsActive old js ∥₁) (sym also) known)

-- ---- what calls of a state ask for

open-prop : (slots : List (Seen WordStep)) (place : ℕ) → IsProp (IsOpen slots place)
open-prop slots place = opened_prop {A = Unit {0}} (Some tt) slots place

opened-for-prop : (place : ℕ) (entry : Pending Held) (held : Held) →
    IsProp (IsOpenedFor place entry held)
opened-for-prop place entry held = hlevel (open-prop, props)

pub ready-known : (state : StateView) (jobs : List JobView) (place : ℕ) →
    ∥ IsActive state jobs ∥₁ → IsReadyAt state place
ready-known state jobs place known =
    ∥∥₁_elim known (hlevel (opened-for-prop, props))
    (λ k. standing-ready state k.core k.world place k.together.stands)

pub number-known : (state : StateView) (jobs : List JobView) → ∥ IsActive state jobs ∥₁ →
    state.ino < 2 ^ 32
number-known state jobs known = ∥∥₁_elim known (hlevel props) (λ k. k.number)

pub here-known : (state : StateView) (jobs : List JobView) → ∥ IsActive state jobs ∥₁ →
    is_here state.tracker.doubt ≡ true
here-known state jobs known = ∥∥₁_elim known (hlevel props) (λ k. k.here)

some-told : {D E : Type 0} (tell : D → E) (slots : Option D) →
    is_some (option_map tell slots) ≡ true → is_some slots ≡ true
some-told tell None here = here
some-told tell (Some slots) here = refl

-- the slots in doubt are here as they are told
pub here-told : {D E : Type 0} (tell : D → E) (doubt : Option (InDoubt D)) →
    is_here (option_map (told_doubt tell) doubt) ≡ true → is_here doubt ≡ true
here-told tell None here = refl
here-told tell (Some doubt) here = some-told tell doubt.slots here

pub sized-known : (state : StateView) (jobs : List JobView) → ∥ IsActive state jobs ∥₁ →
    0 < length (words_of state.size)
sized-known state jobs known = ∥∥₁_elim known (hlevel props) (λ k. k.sized)

-- the job among the others is out
pub out-known : (state : StateView) (jobs before : List JobView) (job : JobView)
    (behind : List JobView) → jobs ≡ before ++ job ∷ behind → ∥ IsActive state jobs ∥₁ →
    HasOut state job
out-known state jobs before job behind are known =
    ∥∥₁_elim known (hlevel props)
    (λ k. jobs-out state job (before ++ behind) k.core k.world
    (to-front state before job behind k.core k.world
    (subst (λ (js : List JobView). Together state js k.core k.world) are k.together)))
