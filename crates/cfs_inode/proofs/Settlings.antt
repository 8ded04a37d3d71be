-- The request in doubt is closed.
use Rattle.std.proofs.Common.{◌≡◌, ◌∙◌, ◌≤◌, ◌+◌, ap, arith, inl, List, [], ◌∷◌, length, Option, None, Some, Ok, Err, refl, sym, true, false, ℕ, Bool}
use Rattle.std.specs.Prelude.{is_some}
use Rattle.cfs_core.specs.declared.doubt.Doubt.{Doubt as CoreDoubt}
use Rattle.cfs_core.specs.declared.event.Event.TheVariants as events
use Rattle.cfs_core.specs.declared.flag.Flag.TheVariants.{Off}
use Rattle.cfs_core.specs.declared.inode_core.Core.{Core}
use Rattle.cfs_core.specs.declared.state.State.{State}
use Rattle.cfs_core.specs.declared.state.State.TheVariants as states
use Rattle.cfs_core.specs.Words.{is_live, is_out, track}
use Rattle.cfs_core.specs.After.{after}
use Rattle.cfs_pmem.specs.declared.trace.Asked.{Asked}
use Rattle.cfs_pmem.proofs.AllMomentLemmas.{all_weaker}
use Rattle.cfs_medium.specs.Shows.{Recovers}
use Rattle.cfs_medium.specs.SlotEvents.{Answer, Leads}
use Rattle.cfs_medium.specs.World.{Remains, World}
use Rattle.cfs_medium.specs.WorldCalls.{with_slots as with_slots_at}
use Rattle.cfs_medium.proofs.SlotEvents.{settles-show}
use Rattle.cfs_tracker.specs.declared.in_doubt.InDoubt.{InDoubt}
use Rattle.cfs_tracker.specs.declared.pending.Pending.{Pending}
use Rattle.cfs_tracker.specs.Follows.{DoubtStands, Follows, IsDoubt, gate_for, is_dead}
use Rattle.cfs_tracker.specs.Settle.{doubt_slots, settled, unsettled, with_slots}
use Rattle.cfs_tracker.specs.View.{TrackerView, entry_at}
use Rattle.cfs_tracker.proofs.Putting.{track-of}
use Rattle.cfs_tracker.proofs.Settles.{follows-settled}
use Rattle.cfs_inode.specs.Heads.{Closes}
use Rattle.cfs_inode.specs.Ends.{slots_in_doubt, with_doubt, without_doubt}
use Rattle.cfs_inode.specs.Makes.{AnyBetween, CallMakes}
use Rattle.cfs_inode.specs.Stands.{Stands}
use Rattle.cfs_inode.specs.View.{Held, Seens, StateView}
use Rattle.cfs_inode.proofs.Goods.{good, steps-in}
use Rattle.cfs_inode.proofs.Replacing.{DoubtGoes, replaced}
use Rattle.cfs_inode.proofs.Replacing.DoubtGoes.{comes}

-- ---- what is known of it

-- it as the state and as the core have it
pub record Known (mine : Option (InDoubt Seens)) (was : Seens) (core : Core) : Type 0 where
  pub here : InDoubt Seens
  pub is : mine ≡ Some here
  pub slots : here.slots ≡ Some was
  pub theirs : CoreDoubt
  pub there : core.doubt ≡ Some theirs
  pub same : IsDoubt here theirs

known-both : (mine : Option (InDoubt Seens)) (was : Seens) (core : Core)
    (theirs : Option CoreDoubt) → core.doubt ≡ theirs → doubt_slots mine ≡ Some was →
    DoubtStands mine theirs → Known mine was core
known-both None was core theirs is h stands = cc
known-both (Some here) was core None is h stands = absurd stands
known-both (Some here) was core (Some theirs) is h stands =
    record { here = here; is = refl; slots = h; theirs = theirs; there = is; same = stands }

pub known : (old : StateView) (was : Seens) (core : Core) (world : World) →
    slots_in_doubt old ≡ Some was → Stands old core world → Known old.tracker.doubt was core
known old was core world h stands =
    known-both old.tracker.doubt was core core.doubt refl h stands.follows.doubt

dead-not-out : (s : State) → is_live s ≡ false → is_out s ≡ false
dead-not-out states.Waiting h = refl
dead-not-out (states.Out job) h = cc
dead-not-out states.Noop h = refl
dead-not-out states.Unserved h = refl
dead-not-out states.Closed h = refl

gate-opens : (dead applied : Bool) → gate_for dead applied ≡ Off → ⊥
gate-opens true applied h = cc
gate-opens false true h = cc
gate-opens false false h = cc

-- no pending change stands at its number
pub none-here : (old : StateView) (place : ℕ) (core : Core) (world : World)
    (entry : Pending Held) → Stands old core world → (track core.tracks place).gate ≡ Off →
    entry_at old.tracker.entries place ≡ Some entry → ⊥
none-here old place core world entry stands off there =
    gate-opens (is_dead entry.doing) entry.applied
    (sym (track-of old.tracker core place entry stands.follows there).gate ∙ off)

-- ---- the devices

settle-leads : (old : StateView) (n : ℕ) (was : Seens) (core : Core) (world : World)
    (obeys : Bool) (result : Answer) (asked_old asked_new : List Asked) (slots : Seens) →
    (k : Known old.tracker.doubt was core) → Stands old core world →
    (closes : Closes obeys result asked_old was asked_new slots) → length core.log + 2 ≤ n →
    Leads old.ino n k.theirs.entry.place core (after core events.Settle) core world closes.now
    closes.tails result asked_old asked_new
settle-leads old n was core world obeys result asked_old asked_new slots k stands closes bound =
    let step = (steps-in core stands.follows.reached).doubt k.theirs k.there in
    let here : world.slots k.theirs.entry.place ≡ closes.head ∷ closes.tails =
    ap (λ p. world.slots p) k.same.place ∙ stands.doubt k.here was k.is k.slots ∙ closes.old_is in
    settles-show old.ino n core k.theirs world closes.head closes.now closes.tails obeys result
    asked_old asked_new (good core stands.follows.reached) stands.shows k.there
    (step.gate stands.follows.up) bound here closes.sets

-- ---- the call

some-doubt : (mine : Option (InDoubt Seens)) (here : InDoubt Seens) → mine ≡ Some here →
    is_some mine ≡ true
some-doubt mine here is = rw is refl

pub settle-done : (old : StateView) (was : Seens) (obeys : Bool)
    (asked_old asked_new : List Asked) (slots : Seens) → slots_in_doubt old ≡ Some was →
    Closes obeys (Ok tt) asked_old was asked_new slots →
    CallMakes (events.Settle ∷ []) asked_old old asked_new (without_doubt old)
settle-done old was obeys asked_old asked_new slots h closes = λ jobs core world together.
    let stands = together.stands in
    let k = known old was core world h stands in
    let place : ℕ = k.theirs.entry.place in
    let step = (steps-in core stands.follows.reached).doubt k.theirs k.there in
    let settles =
    follows-settled old.tracker core (some-doubt old.tracker.doubt k.here k.is) stands.follows in
    let now : Core = after core events.Settle in
    let seens : Seens = closes.now ∷ closes.tails in
    let leads : (n : ℕ) → length core.log + 2 ≤ n →
    Leads old.ino n place core now core world closes.now closes.tails (Ok tt) asked_old
    asked_new =
    λ n bound. settle-leads old n was core world obeys (Ok tt) asked_old asked_new slots k stands
    closes bound in
    record {
      run = (settles.0, tt);
      world = with_slots_at place seens world;
      moments = λ n bound.
          let give : (remains : Remains) → Recovers old.ino n core remains →
          AnyBetween (λ one. Recovers old.ino n one remains) core (events.Settle ∷ []) =
          λ remains recovers. inl recovers in
          all_weaker give (leads n bound.0).moments;
      stands = replaced old (settled old.tracker) place seens jobs core now world
          (record {
            follows = settles.1;
            shows = (leads (length core.log + 2) (omega arith)).ok;
            cells = refl;
            free = dead-not-out (track core.tracks place).state (step.quiet place (omega arith));
            tracks = λ q apart. refl;
            entries = λ q apart. refl;
            here = λ entry held there has.
                absurd (none-here old place core world entry stands
                (step.since place (omega arith)) there);
            doubt = λ doubt slots is has. (let clash : None ≡ Some doubt = is in cc);
          }) together;
    }

-- it is still in doubt, whatever holds it
still-doubt : {D : Type 0} (mine : Option (InDoubt D)) (theirs : Option CoreDoubt) (slots : D) →
    DoubtStands mine theirs → DoubtStands (with_slots (Some slots) mine) theirs
still-doubt None theirs slots stands = stands
still-doubt (Some mine) None slots stands = stands
still-doubt (Some mine) (Some theirs) slots stands =
    record { place = stands.place; grant = stands.grant; span = stands.span }

follows-unsettled : {S D B : Type 0} (view : TrackerView S D B) (core : Core) (slots : D) →
    Follows view core → Follows (unsettled slots view) core
follows-unsettled view core slots follows = record {
  reached = follows.reached;
  up = follows.up;
  count = follows.count;
  long = follows.long;
  size = follows.size;
  sure = follows.sure;
  entries = follows.entries;
  rise = follows.rise;
  reads_rise = follows.reads_rise;
  syncs = follows.syncs;
  many = follows.many;
  cells = follows.cells;
  lent = follows.lent;
  doubt = still-doubt view.doubt core.doubt slots follows.doubt;
}

doubt-comes : (mine : Option (InDoubt Seens)) (here doubt : InDoubt Seens) (place : ℕ)
    (slots seens kept : Seens) → mine ≡ Some here → place ≡ here.place → slots ≡ seens →
    with_slots (Some slots) mine ≡ Some doubt → doubt.slots ≡ Some kept →
    DoubtGoes mine place seens doubt kept
doubt-comes mine here doubt place slots seens kept is at same there has =
    let it : with_slots (Some slots) mine ≡ Some (record here { slots = Some slots }) =
    ap (λ (o : Option (InDoubt Seens)). with_slots (Some slots) o) is in
    let both : Some doubt ≡ Some (record here { slots = Some slots }) = sym there ∙ it in
    let one : doubt ≡ record here { slots = Some slots } = cc in
    let kept_is : Some kept ≡ Some slots =
    sym has ∙ ap (λ (d : InDoubt Seens). d.slots) one in
    let kept_same : kept ≡ slots = cc in
    comes (ap (λ (d : InDoubt Seens). d.place) one ∙ sym at) (kept_same ∙ same)

pub settle-failed : (old : StateView) (was : Seens) (obeys : Bool)
    (asked_old asked_new : List Asked) (slots : Seens) → slots_in_doubt old ≡ Some was →
    Closes obeys (Err tt) asked_old was asked_new slots →
    CallMakes [] asked_old old asked_new (with_doubt slots old)
settle-failed old was obeys asked_old asked_new slots h closes = λ jobs core world together.
    let stands = together.stands in
    let k = known old was core world h stands in
    let place : ℕ = k.theirs.entry.place in
    let step = (steps-in core stands.follows.reached).doubt k.theirs k.there in
    let seens : Seens = closes.now ∷ closes.tails in
    let leads : (n : ℕ) → length core.log + 2 ≤ n →
    Leads old.ino n place core (after core events.Settle) core world closes.now closes.tails
    (Err tt) asked_old asked_new =
    λ n bound. settle-leads old n was core world obeys (Err tt) asked_old asked_new slots k stands
    closes bound in
    record {
      run = tt;
      world = with_slots_at place seens world;
      moments = λ n bound. (leads n bound).moments;
      stands = replaced old (unsettled slots old.tracker) place seens jobs core core world
          (record {
            follows = follows-unsettled old.tracker core slots stands.follows;
            shows = (leads (length core.log + 2) (omega arith)).err;
            cells = refl;
            free = dead-not-out (track core.tracks place).state (step.quiet place (omega arith));
            tracks = λ q apart. refl;
            entries = λ q apart. refl;
            here = λ entry held there has.
                absurd (none-here old place core world entry stands
                (step.since place (omega arith)) there);
            doubt = λ doubt kept is has.
                doubt-comes old.tracker.doubt k.here doubt place slots seens kept k.is k.same.place
                closes.new_is is has;
          }) together;
    }
