-- A waiting change is marked as a no-op.
use Rattle.std.proofs.Common.{◌≡◌, ◌∙◌, ◌≤◌, ◌<◌, ◌+◌, ap, arith, inl, inr, List, [], ◌∷◌, length}
use Rattle.std.proofs.Common.{Option, None, Some, refl, subst, sym, true, false, ℕ, Bool}
use Rattle.std.specs.Prelude.{option_map}
use Rattle.cfs_core.specs.declared.event.Event.TheVariants as events
use Rattle.cfs_core.specs.declared.flag.Flag.TheVariants.{Off}
use Rattle.cfs_core.specs.declared.inode_core.Core.{Core}
use Rattle.cfs_core.specs.declared.state.State.TheVariants as states
use Rattle.cfs_core.specs.Words.{is_waiting, track}
use Rattle.cfs_core.specs.May.{may}
use Rattle.cfs_core.specs.After.{after, marked as marked_track}
use Rattle.cfs_core.proofs.Marks.{track_beside}
use Rattle.cfs_pmem.specs.declared.trace.Asked.{Asked}
use Rattle.cfs_pmem.specs.Images.{Seen, WordStep, words_of}
use Rattle.cfs_pmem.specs.WordOps.{SetsWord}
use Rattle.cfs_pmem.proofs.AllMomentLemmas.{all_weaker}
use Rattle.cfs_medium.specs.Shows.{Recovers, Shows}
use Rattle.cfs_medium.specs.SlotEvents.{IsBesideDoubt, Leads}
use Rattle.cfs_medium.specs.World.{Remains, World}
use Rattle.cfs_medium.specs.WorldCalls.{with_slots}
use Rattle.cfs_medium.proofs.SlotEvents.{marks-show}
use Rattle.cfs_tracker.specs.declared.doing.Doing.{Doing}
use Rattle.cfs_tracker.specs.declared.doing.Doing.TheVariants as doings
use Rattle.cfs_tracker.specs.declared.pending.Pending.{Pending}
use Rattle.cfs_tracker.specs.Dispatch.{waiting_in, waiting_slots}
use Rattle.cfs_tracker.specs.Follows.{Follows, IsDoing}
use Rattle.cfs_tracker.specs.Mark.{is_marking_by, marked, marked_doing, marking}
use Rattle.cfs_tracker.specs.View.{TrackerView, doing, entry_at, with_entry}
use Rattle.cfs_tracker.proofs.Entries.{at-with, here-with}
use Rattle.cfs_tracker.proofs.Marking.{follows-marked, follows-marking}
use Rattle.cfs_tracker.proofs.Putting.{track-of}
use Rattle.cfs_tracker.proofs.Tracks.{in-log}
use Rattle.cfs_inode.specs.Makes.{AnyBetween, CallMakes}
use Rattle.cfs_inode.specs.Marking.{answer_for, may_be_marked, waiting_at, with_marked}
use Rattle.cfs_inode.specs.Stands.{Stands, slots_in}
use Rattle.cfs_inode.specs.View.{Held, Seens, StateView}
use Rattle.cfs_inode.proofs.Goods.{good}
use Rattle.cfs_inode.proofs.Replacing.{replaced}
use Rattle.cfs_inode.proofs.Settlings.{none-here}
use Rattle.cfs_inode.proofs.Skips.{doubt-stays}
use Rattle.cfs_inode.proofs.Tells.{with-with}

-- ---- what is known of a change that waits

waiting-doing : {S : Type 0} (now : Doing S) (slots : S) → waiting_in now ≡ Some slots →
    now ≡ doings.Waiting slots
waiting-doing (doings.Waiting x) slots h = cc
waiting-doing doings.Marking slots h = cc
waiting-doing (doings.Out first second) slots h = cc
waiting-doing (doings.Covered x) slots h = cc
waiting-doing doings.Closing slots h = cc

pub waiting-there : {S : Type 0} (entry : Option (Pending S)) (slots : S) →
    waiting_slots entry ≡ Some slots →
    (e : Pending S) × (entry ≡ Some e) × (e.doing ≡ doings.Waiting slots)
waiting-there None slots h = cc
waiting-there (Some e) slots h = (e, refl, waiting-doing e.doing slots h)

-- a waiting change as the core has it
pub record IsWaiting (core : Core) (place : ℕ) : Type 0 where
  pub state : (track core.tracks place).state ≡ states.Waiting
  pub some : place ≡ 0 → ⊥
  pub beside : IsBesideDoubt core place

pub waiting-is : (old : StateView) (core : Core) (world : World) (place : ℕ) (held : Held) →
    waiting_at old place ≡ Some held → Stands old core world → IsWaiting core place
waiting-is old core world place held h stands =
    let there = waiting-there (entry_at old.tracker.entries place) held h in
    let is = track-of old.tracker core place there.0 stands.follows there.1 in
    let state : (track core.tracks place).state ≡ states.Waiting =
    subst (λ now. IsDoing now (track core.tracks place).state) there.2 is.doing in
    record {
      state = state;
      some = (in-log is_waiting refl core.tracks place (rw state refl)).0;
      beside = λ d is_doubt same.
          none-here old place core world there.0 stands
          (subst (λ p. (track core.tracks p).gate ≡ Off) same
          (stands.shows.shape.doubt d is_doubt).apart) there.1;
    }

-- ---- what the tracker follows

pub follows-mark : {S D B : Type 0} (view : TrackerView S D B) (core : Core) (place by : ℕ)
    (slots now : S) (kept : Bool) → waiting_slots (entry_at view.entries place) ≡ Some slots →
    is_marking_by (marking place view) place by ≡ true → Follows view core →
    (may core (events.Mark place by kept) ≡ true)
    × Follows (marked place now kept view) (after core (events.Mark place by kept))
follows-mark view core place by slots now kept h marks follows =
    let under = follows-marking view core place slots h follows in
    let done = follows-marked (marking place view) core place by now kept marks under in (
      done.0,
      subst (λ es. Follows (record view { entries = es }) (after core (events.Mark place by kept)))
          (with-with view.entries place doings.Marking (marked_doing now kept)) done.1,
    )

-- ---- the devices

mark-leads : (old : StateView) (n place by : ℕ) (held : Held) (kept : Bool) (core : Core)
    (world : World) (obeys : Bool) (asked_old asked_new : List Asked)
    (head now : Seen WordStep) (tails : Seens) → waiting_at old place ≡ Some held →
    may_be_marked old place by ≡ true → held.slots ≡ head ∷ tails → 1 < length (words_of head) →
    SetsWord obeys 1 1 (answer_for kept) asked_old head asked_new now → Stands old core world →
    length core.log + 2 ≤ n →
    Leads old.ino n place (after core (events.Mark place by false))
    (after core (events.Mark place by true)) (after core (events.Mark place by false)) world now
    tails (answer_for kept) asked_old asked_new
mark-leads old n place by held kept core world obeys asked_old asked_new head now tails h marks is
    some sets stands bound =
    let there = waiting-there (entry_at old.tracker.entries place) held h in
    let here = stands.slots place there.0 held there.1 (rw there.2 refl) in
    let waits = waiting-is old core world place held h stands in
    let yes_ = follows-mark old.tracker core place by held held true h marks stands.follows in
    let no_ = follows-mark old.tracker core place by held held false h marks stands.follows in
    marks-show old.ino n place by core world head now tails obeys (answer_for kept) asked_old
    asked_new (good (after core (events.Mark place by false)) no_.1.reached) stands.shows yes_.0
    waits.beside bound (here.here ∙ is) some sets

shown : (ino n place by : ℕ) (kept : Bool) (core : Core) (world : World) (now : Seen WordStep)
    (tails : Seens) (asked_old asked_new : List Asked) →
    Leads ino n place (after core (events.Mark place by false))
    (after core (events.Mark place by true)) (after core (events.Mark place by false)) world now
    tails (answer_for kept) asked_old asked_new →
    Shows ino (after core (events.Mark place by kept)) (with_slots place (now ∷ tails) world)
shown ino n place by true core world now tails asked_old asked_new leads = leads.ok
shown ino n place by false core world now tails asked_old asked_new leads = leads.err

-- ---- the call

marked-slots : (now : Held) (kept : Bool) → slots_in (marked_doing now kept) ≡ Some now
marked-slots now true = refl
marked-slots now false = refl

marked-here : (es : List (Pending Held)) (place : ℕ) (held now : Held) (kept_now : Bool)
    (entry : Pending Held) (kept : Held) → waiting_slots (entry_at es place) ≡ Some held →
    entry_at (with_entry place (doing (marked_doing now kept_now)) es) place ≡ Some entry →
    slots_in entry.doing ≡ Some kept → kept ≡ now
marked-here es place held now kept_now entry kept h there has =
    let was = waiting-there (entry_at es place) held h in
    let change = doing (marked_doing now kept_now) in
    let is : entry_at (with_entry place change es) place ≡ Some (change was.0) =
    here-with es place change (λ e. refl)
    ∙ ap (λ (o : Option (Pending Held)). option_map change o) was.1 in
    let both : Some entry ≡ Some (change was.0) = sym there ∙ is in
    let one : entry ≡ change was.0 = cc in
    let slots : slots_in entry.doing ≡ Some now =
    ap (λ (e : Pending Held). slots_in e.doing) one ∙ marked-slots now kept_now in
    let same : Some kept ≡ Some now = sym has ∙ slots in
    cc

pub mark-made : (old : StateView) (place by : ℕ) (held : Held) (kept : Bool) (obeys : Bool)
    (asked_old asked_new : List Asked) (head now : Seen WordStep) (tails : Seens) →
    waiting_at old place ≡ Some held → held.slots ≡ head ∷ tails → 1 < length (words_of head) →
    SetsWord obeys 1 1 (answer_for kept) asked_old head asked_new now →
    may_be_marked old place by ≡ true →
    CallMakes (events.Mark place by kept ∷ []) asked_old old asked_new
    (with_marked place (record held { slots = now ∷ tails }) kept old)
mark-made old place by held kept obeys asked_old asked_new head now tails h is some sets marks =
    λ jobs core world together.
    let stands = together.stands in
    let waits = waiting-is old core world place held h stands in
    let there = waiting-there (entry_at old.tracker.entries place) held h in
    let opened : held.place ≡ place =
    (stands.slots place there.0 held there.1 (rw there.2 refl)).opened in
    let back : Held = record held { slots = now ∷ tails } in
    let done = follows-mark old.tracker core place by held back kept h marks stands.follows in
    let next : Core = after core (events.Mark place by kept) in
    let leads : (n : ℕ) → length core.log + 2 ≤ n →
    Leads old.ino n place (after core (events.Mark place by false))
    (after core (events.Mark place by true)) (after core (events.Mark place by false)) world now
    tails (answer_for kept) asked_old asked_new =
    λ n bound. mark-leads old n place by held kept core world obeys asked_old asked_new head now
    tails h marks is some sets stands bound in
    record {
      run = (done.0, tt);
      world = with_slots place (now ∷ tails) world;
      moments = λ n bound.
          let give : (remains : Remains) →
          Recovers old.ino n (after core (events.Mark place by false)) remains →
          AnyBetween (λ one. Recovers old.ino n one remains) core
          (events.Mark place by kept ∷ []) =
          λ remains recovers. inr (inl (inl recovers)) in
          all_weaker give (leads n bound.0).moments;
      stands = replaced old (marked place back kept old.tracker) place (now ∷ tails) jobs core next
          world
          (record {
            follows = done.1;
            shows = shown old.ino (length core.log + 2) place by kept core world now tails
                asked_old asked_new (leads (length core.log + 2) (omega arith));
            cells = refl;
            free = rw waits.state refl;
            tracks = λ q apart.
                track_beside core.tracks place q (marked_track (track core.tracks place) kept)
                waits.some apart;
            entries = λ q apart.
                at-with old.tracker.entries place q (doing (marked_doing back kept)) (λ e. refl)
                apart;
            here = λ entry has_ found has.
                (let same = marked-here old.tracker.entries place held back kept entry has_ h found
                has in (
                  ap (λ (x : Held). x.place) same ∙ opened,
                  ap (λ (x : Held). x.slots) same,
                ));
            doubt = λ doubt slots is_doubt has.
                doubt-stays old place (now ∷ tails) core world stands waits.beside doubt is_doubt
                slots;
          }) together;
    }
