-- A no-op is closed.
use Rattle.std.proofs.Common.{◌≡◌, ◌∙◌, ◌≤◌, ◌+◌, ap, arith, inl, List, [], ◌∷◌, length, Option, None, Some, Ok, Err, refl, subst, sym, true, false, ℕ, Bool}
use Rattle.std.specs.Prelude.{option_map}
use Rattle.cfs_core.specs.declared.doubt.Doubt.{Doubt as CoreDoubt}
use Rattle.cfs_core.specs.declared.event.Event.TheVariants as events
use Rattle.cfs_core.specs.declared.flag.Flag.TheVariants.{Off, Unsure}
use Rattle.cfs_core.specs.declared.inode_core.Core.{Core}
use Rattle.cfs_core.specs.declared.state.State.{State}
use Rattle.cfs_core.specs.declared.state.State.TheVariants as states
use Rattle.cfs_core.specs.Words.{is_out, track}
use Rattle.cfs_core.specs.May.{may}
use Rattle.cfs_core.specs.After.{after, retired}
use Rattle.cfs_core.proofs.Marks.{track_beside}
use Rattle.cfs_pmem.specs.declared.trace.Asked.{Asked}
use Rattle.cfs_pmem.proofs.AllMomentLemmas.{all_weaker}
use Rattle.cfs_medium.specs.Shows.{Recovers, Shows}
use Rattle.cfs_medium.specs.SlotEvents.{Answer, IsBesideDoubt, Leads}
use Rattle.cfs_medium.specs.World.{Remains, World}
use Rattle.cfs_medium.specs.WorldCalls.{with_slots}
use Rattle.cfs_medium.proofs.SlotEvents.{skips-show}
use Rattle.cfs_tracker.specs.declared.doing.Doing.{Doing}
use Rattle.cfs_tracker.specs.declared.doing.Doing.TheVariants as doings
use Rattle.cfs_tracker.specs.declared.in_doubt.InDoubt.{InDoubt}
use Rattle.cfs_tracker.specs.declared.pending.Pending.{Pending}
use Rattle.cfs_tracker.specs.Follows.{DoubtStands, Follows, IsDoing, gate_for, is_dead}
use Rattle.cfs_tracker.specs.Skip.{closing, covered_in, covered_slots, is_closing, skipped, unclosed}
use Rattle.cfs_tracker.specs.View.{TrackerView, doing, entry_at, with_entry}
use Rattle.cfs_tracker.proofs.Entries.{at-with, at-without, here-with, here-without}
use Rattle.cfs_tracker.proofs.Putting.{follows-redo, redo-alike, track-of}
use Rattle.cfs_tracker.proofs.Skips.{follows-closing, follows-skipped}
use Rattle.cfs_tracker.proofs.Tracks.{in-log}
use Rattle.cfs_inode.specs.Heads.{Closes}
use Rattle.cfs_inode.specs.Ends.{noop_at, with_noop, without_noop}
use Rattle.cfs_inode.specs.Makes.{AnyBetween, CallMakes}
use Rattle.cfs_inode.specs.Stands.{Stands, slots_in}
use Rattle.cfs_inode.specs.View.{Held, Seens, StateView}
use Rattle.cfs_inode.proofs.Goods.{good}
use Rattle.cfs_inode.proofs.Replacing.{DoubtGoes, replaced}
use Rattle.cfs_inode.proofs.Replacing.DoubtGoes.{stays}
use Rattle.cfs_inode.proofs.Tells.{without-with}

-- ---- what is known of a no-op

covered-doing : {S : Type 0} (now : Doing S) (slots : S) → covered_in now ≡ Some slots →
    now ≡ doings.Covered slots
covered-doing (doings.Waiting x) slots h = cc
covered-doing doings.Marking slots h = cc
covered-doing (doings.Out first second) slots h = cc
covered-doing (doings.Covered x) slots h = cc
covered-doing doings.Closing slots h = cc

pub covered-there : {S : Type 0} (entry : Option (Pending S)) (slots : S) →
    covered_slots entry ≡ Some slots →
    (e : Pending S) × (entry ≡ Some e) × (e.doing ≡ doings.Covered slots)
covered-there None slots h = cc
covered-there (Some e) slots h = (e, refl, covered-doing e.doing slots h)

-- a no-op as the core has it
pub record IsNoop (core : Core) (place : ℕ) : Type 0 where
  pub state : (track core.tracks place).state ≡ states.Noop
  pub gate : (track core.tracks place).gate ≡ Unsure
  pub some : place ≡ 0 → ⊥

pub noop-is : {S D B : Type 0} (view : TrackerView S D B) (core : Core) (place : ℕ) (slots : S) →
    covered_slots (entry_at view.entries place) ≡ Some slots → Follows view core →
    IsNoop core place
noop-is view core place slots h follows =
    let there = covered-there (entry_at view.entries place) slots h in
    let is = track-of view core place there.0 follows there.1 in
    let state : (track core.tracks place).state ≡ states.Noop =
    subst (λ now. IsDoing now (track core.tracks place).state) there.2 is.doing in
    record {
      state = state;
      gate = is.gate
          ∙ ap (λ now. gate_for (is_dead now) there.0.applied) there.2;
      some = (in-log (λ s. is_noop s) refl core.tracks place (rw state refl)).0;
    }
  where
    is_noop : State → Bool
    is_noop states.Noop = true
    is_noop _ = false

pub beside-doubt : (ino place : ℕ) (core : Core) (world : World) → Shows ino core world →
    (track core.tracks place).gate ≡ Unsure → IsBesideDoubt core place
beside-doubt ino place core world shows gate = λ d is same.
    let off : (track core.tracks place).gate ≡ Off =
    subst (λ p. (track core.tracks p).gate ≡ Off) same (shows.shape.doubt d is).apart in
    cc

-- ---- what the tracker follows

pub taken-closing : {S : Type 0} (es : List (Pending S)) (place : ℕ) (slots : S) →
    covered_slots (entry_at es place) ≡ Some slots →
    is_closing (entry_at (with_entry place (doing doings.Closing) es) place) ≡ true
taken-closing es place slots h =
    let there = covered-there (entry_at es place) slots h in
    rw (here-with es place (doing doings.Closing) (λ e. refl), there.1) refl

pub follows-gone : {S D B : Type 0} (view : TrackerView S D B) (core : Core) (place : ℕ)
    (slots : S) → covered_slots (entry_at view.entries place) ≡ Some slots → Follows view core →
    (may core (events.Skip place) ≡ true)
    × Follows (skipped place view) (after core (events.Skip place))
follows-gone view core place slots h follows =
    let under = follows-closing view core place slots h follows in
    let taken = taken-closing view.entries place slots h in
    let skips = follows-skipped (closing place view) core place taken under in (
      skips.0,
      subst (λ es. Follows (record view { entries = es }) (after core (events.Skip place)))
          (without-with view.entries place doings.Closing) skips.1,
    )

pub follows-back : {S D B : Type 0} (view : TrackerView S D B) (core : Core) (place : ℕ)
    (slots now : S) → covered_slots (entry_at view.entries place) ≡ Some slots →
    Follows view core → Follows (unclosed place now view) core
follows-back view core place slots now h follows =
    let there = covered-there (entry_at view.entries place) slots h in
    follows-redo view core place (doings.Covered now) follows
    (λ e is was.
    let covers : e.doing ≡ doings.Covered slots =
    (let same : Some e ≡ Some there.0 = sym is ∙ there.1 in
    let one : e ≡ there.0 = cc in
    ap (λ (x : Pending _). x.doing) one ∙ there.2) in
    redo-alike (doings.Covered now) e (track core.tracks place)
    (λ s stands. subst (λ d. IsDoing d s) covers stands)
    (ap is_dead covers) was)

-- ---- the devices

-- the gate of the no-op is closed, or that failed: whatever the number n of places that are looked
-- at
skip-leads : (old : StateView) (n place : ℕ) (held : Held) (core : Core) (world : World)
    (obeys : Bool) (result : Answer) (asked_old asked_new : List Asked) (slots : Seens) →
    noop_at old place ≡ Some held → Stands old core world →
    (closes : Closes obeys result asked_old held.slots asked_new slots) →
    length core.log + 2 ≤ n →
    Leads old.ino n place core (after core (events.Skip place)) core world closes.now closes.tails
    result asked_old asked_new
skip-leads old n place held core world obeys result asked_old asked_new slots h stands closes bound =
    let noop = noop-is old.tracker core place held h stands.follows in
    let there = covered-there (entry_at old.tracker.entries place) held h in
    let here = stands.slots place there.0 held there.1 (rw there.2 refl) in
    let skips = follows-gone old.tracker core place held h stands.follows in
    skips-show old.ino n place core world closes.head closes.now closes.tails obeys result
    asked_old asked_new (good core stands.follows.reached) stands.shows skips.0
    (beside-doubt old.ino place core world stands.shows noop.gate) noop.gate bound
    (here.here ∙ closes.old_is) closes.sets

not-out : (core : Core) (place : ℕ) → IsNoop core place →
    is_out (track core.tracks place).state ≡ false
not-out core place noop = rw noop.state refl

pub doubt-apart : (mine : Option (InDoubt Seens)) (theirs : Option CoreDoubt) (place : ℕ)
    (doubt : InDoubt Seens) → mine ≡ Some doubt → DoubtStands mine theirs →
    ((d : CoreDoubt) → theirs ≡ Some d → d.entry.place ≡ place → ⊥) → doubt.place ≡ place → ⊥
doubt-apart None theirs place doubt is stands beside same = cc
doubt-apart (Some mine) None place doubt is stands beside same = absurd stands
doubt-apart (Some mine) (Some d) place doubt is stands beside same =
    let both : Some mine ≡ Some doubt = is in
    let one : mine ≡ doubt = cc in
    beside d refl (stands.place ∙ ap (λ (x : InDoubt Seens). x.place) one ∙ same)

-- no request in doubt has the place
pub doubt-stays : (old : StateView) (place : ℕ) (seens : Seens) (core : Core) (world : World) →
    Stands old core world → IsBesideDoubt core place → (doubt : InDoubt Seens) →
    old.tracker.doubt ≡ Some doubt → (slots : Seens) →
    DoubtGoes old.tracker.doubt place seens doubt slots
doubt-stays old place seens core world stands beside doubt is slots =
    stays (doubt-apart old.tracker.doubt core.doubt place doubt is stands.follows.doubt beside) is

-- ---- the call

pub skip-done : (old : StateView) (place : ℕ) (held : Held) (obeys : Bool)
    (asked_old asked_new : List Asked) (slots : Seens) → noop_at old place ≡ Some held →
    Closes obeys (Ok tt) asked_old held.slots asked_new slots →
    CallMakes (events.Skip place ∷ []) asked_old old asked_new (without_noop place old)
skip-done old place held obeys asked_old asked_new slots h closes = λ jobs core world together.
    let stands = together.stands in
    let noop = noop-is old.tracker core place held h stands.follows in
    let beside = beside-doubt old.ino place core world stands.shows noop.gate in
    let skips = follows-gone old.tracker core place held h stands.follows in
    let now : Core = after core (events.Skip place) in
    let seens : Seens = closes.now ∷ closes.tails in
    let leads : (n : ℕ) → length core.log + 2 ≤ n →
    Leads old.ino n place core now core world closes.now closes.tails (Ok tt) asked_old
    asked_new =
    λ n bound. skip-leads old n place held core world obeys (Ok tt) asked_old asked_new slots h
    stands closes bound in
    record {
      run = (skips.0, tt);
      world = with_slots place seens world;
      moments = λ n bound.
          let give : (remains : Remains) → Recovers old.ino n core remains →
          AnyBetween (λ one. Recovers old.ino n one remains) core (events.Skip place ∷ []) =
          λ remains recovers. inl recovers in
          all_weaker give (leads n bound.0).moments;
      stands = replaced old (skipped place old.tracker) place seens jobs core now world
          (record {
            follows = skips.1;
            shows = (leads (length core.log + 2) (omega arith)).ok;
            cells = refl;
            free = not-out core place noop;
            tracks = λ q apart.
                track_beside core.tracks place q (retired (track core.tracks place)) noop.some apart;
            entries = λ q apart. at-without old.tracker.entries place q apart;
            here = λ entry kept there has.
                (let none : None ≡ Some entry =
                sym (here-without old.tracker.entries place) ∙ there in cc);
            doubt = λ doubt slots is has.
                doubt-stays old place seens core world stands beside doubt is slots;
          }) together;
    }

back-here : (es : List (Pending Held)) (place : ℕ) (held now : Held) (entry : Pending Held)
    (kept : Held) → covered_slots (entry_at es place) ≡ Some held →
    entry_at (with_entry place (doing (doings.Covered now)) es) place ≡ Some entry →
    slots_in entry.doing ≡ Some kept → kept ≡ now
back-here es place held now entry kept h there has =
    let was = covered-there (entry_at es place) held h in
    let is : entry_at (with_entry place (doing (doings.Covered now)) es) place
    ≡ Some (doing (doings.Covered now) was.0) =
    here-with es place (doing (doings.Covered now)) (λ e. refl)
    ∙ ap (λ (o : Option (Pending Held)). option_map (doing (doings.Covered now)) o) was.1 in
    let both : Some entry ≡ Some (doing (doings.Covered now) was.0) = sym there ∙ is in
    let one : entry ≡ doing (doings.Covered now) was.0 = cc in
    let slots : slots_in entry.doing ≡ Some now =
    ap (λ (e : Pending Held). slots_in e.doing) one in
    let same : Some kept ≡ Some now = sym has ∙ slots in
    cc

pub skip-failed : (old : StateView) (place : ℕ) (held : Held) (obeys : Bool)
    (asked_old asked_new : List Asked) (slots : Seens) → noop_at old place ≡ Some held →
    Closes obeys (Err tt) asked_old held.slots asked_new slots →
    CallMakes [] asked_old old asked_new (with_noop place (record held { slots = slots }) old)
skip-failed old place held obeys asked_old asked_new slots h closes = λ jobs core world together.
    let stands = together.stands in
    let noop = noop-is old.tracker core place held h stands.follows in
    let there = covered-there (entry_at old.tracker.entries place) held h in
    let beside = beside-doubt old.ino place core world stands.shows noop.gate in
    let opened : held.place ≡ place =
    (stands.slots place there.0 held there.1 (rw there.2 refl)).opened in
    let seens : Seens = closes.now ∷ closes.tails in
    let back : Held = record held { slots = slots } in
    let leads : (n : ℕ) → length core.log + 2 ≤ n →
    Leads old.ino n place core (after core (events.Skip place)) core world closes.now
    closes.tails (Err tt) asked_old asked_new =
    λ n bound. skip-leads old n place held core world obeys (Err tt) asked_old asked_new slots h
    stands closes bound in
    record {
      run = tt;
      world = with_slots place seens world;
      moments = λ n bound. (leads n bound).moments;
      stands = replaced old (unclosed place back old.tracker) place seens jobs core core world
          (record {
            follows = follows-back old.tracker core place held back h stands.follows;
            shows = (leads (length core.log + 2) (omega arith)).err;
            cells = refl;
            free = not-out core place noop;
            tracks = λ q apart. refl;
            entries = λ q apart.
                at-with old.tracker.entries place q (doing (doings.Covered back)) (λ e. refl) apart;
            here = λ entry kept here has.
                (let same = back-here old.tracker.entries place held back entry kept h here has in (
                  ap (λ (x : Held). x.place) same ∙ opened,
                  ap (λ (x : Held). x.slots) same ∙ closes.new_is,
                ));
            doubt = λ doubt slots is has.
                doubt-stays old place seens core world stands beside doubt is slots;
          }) together;
    }
