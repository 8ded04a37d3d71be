-- No-ops are taken out, put back and closed.
use Rattle.std.proofs.Common.{◌≡◌, ◌∙◌, ap, Option, None, Some, refl, sym, true, ℕ}
use Rattle.cfs_core.specs.declared.event.Event.TheVariants as events
use Rattle.cfs_core.specs.declared.inode_core.Core.{Core}
use Rattle.cfs_core.specs.declared.state.State.{State}
use Rattle.cfs_core.specs.declared.state.State.TheVariants as states
use Rattle.cfs_core.specs.Words.{is_noop, track}
use Rattle.cfs_core.specs.May.{may}
use Rattle.cfs_core.specs.After.{after, retired}
use Rattle.cfs_core_laws.specs.Reached.IsReached.{comes}
use Rattle.cfs_tracker.specs.declared.doing.Doing.{Doing}
use Rattle.cfs_tracker.specs.declared.doing.Doing.TheVariants.{Waiting, Marking, Out, Covered, Closing}
use Rattle.cfs_tracker.specs.declared.pending.Pending.{Pending}
use Rattle.cfs_tracker.specs.View.{TrackerView, entry_at, read_at, without}
use Rattle.cfs_tracker.specs.Follows.{Follows, IsDoing, is_dead}
use Rattle.cfs_tracker.specs.Skip.{closing, covered_in, covered_slots, is_closed_by_caller, is_closing, skipped, unclosed}
use Rattle.cfs_tracker.proofs.Entries.{at-without, here-without, rise-without}
use Rattle.cfs_tracker.proofs.Tracks.{in-log, no-block}
use Rattle.cfs_tracker.proofs.Putting.{follows-put, follows-redo, read-of, redo-alike, stands-by, track-of}

covered-closing : {S : Type 0} (now : Doing S) (slots : S) (s : State) →
    covered_in now ≡ Some slots → IsDoing now s → IsDoing {S = S} Closing s
covered-closing (Waiting x) slots s h is = cc
covered-closing Marking slots s h is = cc
covered-closing (Out first second) slots s h is = cc
covered-closing (Covered x) slots s h is = is
covered-closing Closing slots s h is = is

covered-dead : {S : Type 0} (now : Doing S) (slots : S) → covered_in now ≡ Some slots →
    is_dead now ≡ true
covered-dead (Waiting x) slots h = cc
covered-dead Marking slots h = cc
covered-dead (Out first second) slots h = cc
covered-dead (Covered x) slots h = refl
covered-dead Closing slots h = refl

pub follows-closing : {S D B : Type 0} (view : TrackerView S D B) (core : Core) (place : ℕ)
    (slots : S) → covered_slots (entry_at view.entries place) ≡ Some slots → Follows view core →
    Follows (closing place view) core
follows-closing view core place slots h follows =
    follows-redo view core place Closing follows
    (λ e is was.
    let covers : covered_in e.doing ≡ Some slots = sym (ap covered_slots is) ∙ h in
    redo-alike Closing e (track core.tracks place)
    (λ s. covered-closing e.doing slots s covers) (covered-dead e.doing slots covers) was)

closed-covered : {S : Type 0} (now : Doing S) (slots : S) (s : State) →
    is_closed_by_caller now ≡ true → IsDoing now s → IsDoing (Covered slots) s
closed-covered (Waiting x) slots s h is = cc
closed-covered Marking slots s h is = cc
closed-covered (Out first second) slots s h is = cc
closed-covered (Covered x) slots s h is = is
closed-covered Closing slots s h is = is

closed-dead : {S : Type 0} (now : Doing S) → is_closed_by_caller now ≡ true → is_dead now ≡ true
closed-dead (Waiting x) h = cc
closed-dead Marking h = cc
closed-dead (Out first second) h = cc
closed-dead (Covered x) h = refl
closed-dead Closing h = refl

pub follows-unclosed : {S D B : Type 0} (view : TrackerView S D B) (core : Core) (place : ℕ)
    (slots : S) → is_closing (entry_at view.entries place) ≡ true → Follows view core →
    Follows (unclosed place slots view) core
follows-unclosed view core place slots h follows =
    follows-redo view core place (Covered slots) follows
    (λ e is was.
    let closes : is_closed_by_caller e.doing ≡ true = sym (ap is_closing is) ∙ h in
    redo-alike (Covered slots) e (track core.tracks place)
    (λ s. closed-covered e.doing slots s closes) (closed-dead e.doing closes) was)

closed-noop : {S : Type 0} (now : Doing S) (s : State) →
    is_closed_by_caller now ≡ true → IsDoing now s → is_noop s ≡ true
closed-noop (Waiting x) s h is = cc
closed-noop Marking s h is = cc
closed-noop (Out first second) s h is = cc
closed-noop (Covered x) s h is = rw is refl
closed-noop Closing s h is = rw is refl

closing-there : {S : Type 0} (entry : Option (Pending S)) → is_closing entry ≡ true →
    (e : Pending S) × (entry ≡ Some e)
closing-there None h = cc
closing-there (Some e) h = (e, refl)

pub follows-skipped : {S D B : Type 0} (view : TrackerView S D B) (core : Core) (place : ℕ) →
    is_closing (entry_at view.entries place) ≡ true → Follows view core →
    (may core (events.Skip place) ≡ true)
    × Follows (skipped place view) (after core (events.Skip place))
follows-skipped view core place h follows =
    let e = (closing-there (entry_at view.entries place) h).0 in
    let is = (closing-there (entry_at view.entries place) h).1 in
    let closes : is_closed_by_caller e.doing ≡ true = sym (ap is_closing is) ∙ h in
    let noop : is_noop (track core.tracks place).state ≡ true =
    closed-noop e.doing (track core.tracks place).state closes
    (track-of view core place e follows is).doing in
    let may_be : may core (events.Skip place) ≡ true = rw (follows.up, noop) refl in
    let inside = in-log is_noop refl core.tracks place noop in
    let unread : read_at view.reads place ≡ None = read-of view core place e follows is in (
      may_be,
      follows-put view core place (retired (track core.tracks place))
          (without place view.entries) view.reads view.cells core.size core.sizes view.stored
          view.is_sure follows (comes core (events.Skip place) follows.reached may_be) follows.size
          follows.sure
          (record {
            some = inside.0;
            within = inside.1;
            entries_beside = λ q apart. at-without view.entries place q apart;
            reads_beside = λ q apart. refl;
            here = stands-by (here-without view.entries place) unread refl refl;
            unread = unread;
            rise = rise-without 0 view.entries place follows.rise;
            reads_rise = follows.reads_rise;
            many = follows.many;
            cells_stand = follows.cells;
            lent = λ block has. absurd (no-block states.Closed block refl has);
            lent_beside = λ q block apart has. follows.lent q block has;
          }),
    )
