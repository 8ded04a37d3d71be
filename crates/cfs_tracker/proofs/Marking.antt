-- A waiting change that a later one covers becomes a no-op.
use Rattle.std.proofs.Common.{◌≡◌, ◌∙◌, ap, arith, ◌&&◌, inl, inr, List, not, Option, None, Some, refl, sym, true, false, ℕ, Bool, subst}
use Rattle.std.specs.Prelude.{nat_lt, option_map}
use Rattle.std.specs.List.{list_any}
use Rattle.std.proofs.lemmas.Bool.{cases_Bool}
use Rattle.std.proofs.lemmas.Bool.Decides.{nat_tests}
use Rattle.cfs_file.specs.declared.span.Span.{Span}
use Rattle.cfs_file.specs.Span.{meets, reaches_over}
use Rattle.cfs_core.specs.declared.event.Event.TheVariants as events
use Rattle.cfs_core.specs.declared.inode_core.Core.{Core}
use Rattle.cfs_core.specs.declared.state.State.{State}
use Rattle.cfs_core.specs.declared.state.State.TheVariants as states
use Rattle.cfs_core.specs.declared.track.Track.{Track}
use Rattle.cfs_core.specs.Words.{has_block, is_live, is_unserved, is_waiting, track}
use Rattle.cfs_core.specs.May.{may, needed_between}
use Rattle.cfs_core.specs.After.{after, marked as marked_track}
use Rattle.cfs_core.proofs.Apart.{not_true}
use Rattle.cfs_core.proofs.Legal.{both}
use Rattle.cfs_core_laws.specs.Reached.IsReached.{comes}
use Rattle.cfs_tracker.specs.declared.doing.Doing.{Doing}
use Rattle.cfs_tracker.specs.declared.doing.Doing.TheVariants as doings
use Rattle.cfs_tracker.specs.declared.pending.Pending.{Pending}
use Rattle.cfs_tracker.specs.declared.reading.Reading.{Reading}
use Rattle.cfs_tracker.specs.View.{TrackerView, doing, entry_at, is_read_at, read_at, with_entry}
use Rattle.cfs_tracker.specs.Dispatch.{waiting_in, waiting_slots}
use Rattle.cfs_tracker.specs.Follows.{Follows, IsDoing, IsTrack, gate_for, is_dead}
use Rattle.cfs_tracker.specs.Mark.{is_marking_by, is_marking_doing, is_read_between, marked, marked_doing, marking, may_cover, may_mark_both}
use Rattle.cfs_tracker.specs.Reads.{is_live_doing}
use Rattle.cfs_tracker.proofs.Earlier.{between-none, live-yes, read-entry}
use Rattle.cfs_tracker.proofs.Entries.{at-with, found-not, found-place, here-with, none-any, rise-with}
use Rattle.cfs_tracker.proofs.Putting.{follows-put, follows-redo, read-of, redo-alike, stands-by, track-of}
use Rattle.cfs_tracker.proofs.Readings.{read-place}
use Rattle.cfs_tracker.proofs.Tracks.{in-log}

-- ---- its slots are taken out

waiting-marks : {S : Type 0} (now : Doing S) (slots : S) (s : State) →
    waiting_in now ≡ Some slots → IsDoing now s → IsDoing {S = S} doings.Marking s
waiting-marks (doings.Waiting x) slots s h is = is
waiting-marks doings.Marking slots s h is = cc
waiting-marks (doings.Out first second) slots s h is = cc
waiting-marks (doings.Covered x) slots s h is = cc
waiting-marks doings.Closing slots s h is = cc

waiting-alive : {S : Type 0} (now : Doing S) (slots : S) → waiting_in now ≡ Some slots →
    is_dead now ≡ false
waiting-alive (doings.Waiting x) slots h = refl
waiting-alive doings.Marking slots h = cc
waiting-alive (doings.Out first second) slots h = cc
waiting-alive (doings.Covered x) slots h = cc
waiting-alive doings.Closing slots h = cc

pub follows-marking : {S D B : Type 0} (view : TrackerView S D B) (core : Core) (place : ℕ)
    (slots : S) → waiting_slots (entry_at view.entries place) ≡ Some slots → Follows view core →
    Follows (marking place view) core
follows-marking view core place slots h follows =
    follows-redo view core place doings.Marking follows (λ e is was.
    let waits : waiting_in e.doing ≡ Some slots = sym (ap waiting_slots is) ∙ h in
    redo-alike doings.Marking e (track core.tracks place)
    (λ s. waiting-marks e.doing slots s waits) (waiting-alive e.doing slots waits) was)

-- ---- it may be marked

pub record IsMarking {S D B : Type 0} (view : TrackerView S D B) (place by : ℕ) : Type 0 where
  pub later : Pending S
  pub entry : Pending S
  pub there : entry_at view.entries by ≡ Some later
  pub here : entry_at view.entries place ≡ Some entry
  pub marks : is_marking_doing entry.doing ≡ true
  pub before : nat_lt entry.place later.place ≡ true
  pub live : is_live_doing later.doing ≡ true
  pub covers : reaches_over later.span entry.span ≡ true
  pub unread : list_any (is_read_between entry.place later.place entry.span) view.reads ≡ false

both-there : {S : Type 0} (reads : List Reading) (later entry : Option (Pending S)) →
    may_mark_both reads later entry ≡ true →
    (l : Pending S) × (e : Pending S) × (later ≡ Some l) × (entry ≡ Some e)
    × ((is_marking_doing e.doing && may_cover reads l e) ≡ true)
both-there reads None entry h = cc
both-there reads (Some l) None h = cc
both-there reads (Some l) (Some e) h = (l, e, refl, refl, h)

pub marking-parts : {S D B : Type 0} (view : TrackerView S D B) (place by : ℕ) →
    is_marking_by view place by ≡ true → IsMarking view place by
marking-parts view place by h =
    let two = both-there view.reads (entry_at view.entries by) (entry_at view.entries place) h in
    let l = two.0 in
    let e = two.1 in
    let one = both (is_marking_doing e.doing) (may_cover view.reads l e) two.4 in
    let unread = list_any (is_read_between e.place l.place e.span) view.reads in
    let next = both (nat_lt e.place l.place) (is_live_doing l.doing
    && (reaches_over l.span e.span && not unread)) one.1 in
    let last = both (is_live_doing l.doing) (reaches_over l.span e.span && not unread) next.1 in
    let end = both (reaches_over l.span e.span) (not unread) last.1 in
    record {
      later = l;
      entry = e;
      there = two.2;
      here = two.3;
      marks = one.0;
      before = next.0;
      live = last.0;
      covers = end.0;
      unread = not_true unread end.1;
    }

marks-in : {S : Type 0} (now : Doing S) (s : State) → is_marking_doing now ≡ true →
    IsDoing now s → s ≡ states.Waiting
marks-in (doings.Waiting slots) s h is = cc
marks-in doings.Marking s h is = is
marks-in (doings.Out first second) s h is = cc
marks-in (doings.Covered slots) s h is = cc
marks-in doings.Closing s h is = cc

marks-alive : {S : Type 0} (now : Doing S) → is_marking_doing now ≡ true → is_dead now ≡ false
marks-alive (doings.Waiting slots) h = cc
marks-alive doings.Marking h = refl
marks-alive (doings.Out first second) h = cc
marks-alive (doings.Covered slots) h = cc
marks-alive doings.Closing h = cc

unneeded : {S D B : Type 0} (view : TrackerView S D B) (core : Core) (place by : ℕ)
    (span : Span) → Follows view core →
    list_any (is_read_between place by span) view.reads ≡ false →
    needed_between core.tracks place by span ≡ false
unneeded view core place by span follows none =
    between-none (λ t. is_unserved t.state && meets t.span span) core.tracks place by
    (λ q low high.
    elim (cases_Bool (is_unserved (track core.tracks q).state)) [
      | inl unserved ↦
          let r = read-entry (entry_at view.entries q) (read_at view.reads q)
          (track core.tracks q) (follows.entries q) unserved in
          let at : r.own.place ≡ q = read-place view.reads q r.own r.there in
          let one : nat_lt place r.own.place ≡ true = grind (arith, nat_tests) in
          let two : nat_lt r.own.place by ≡ true = grind (arith, nat_tests) in
          let passed = found-not (is_read_between place by span) (is_read_at q) view.reads r.own
          (none-any (is_read_between place by span) view.reads none) r.there in
          let last = third (nat_lt place r.own.place) (nat_lt r.own.place by)
          (meets r.own.span span) one two passed in
          rw (unserved, r.span) last
      | inr served ↦ rw served refl
    ])
  where
    third : (a b c : Bool) → a ≡ true → b ≡ true → (a && (b && c)) ≡ false → c ≡ false
    third true true c one two h = h
    third true false c one two h = cc
    third false b c one two h = cc

may-mark : {S D B : Type 0} (view : TrackerView S D B) (core : Core) (place by : ℕ)
    (kept : Bool) → IsMarking view place by → Follows view core →
    may core (events.Mark place by kept) ≡ true
may-mark view core place by kept is follows =
    let own = track-of view core place is.entry follows is.here in
    let other = track-of view core by is.later follows is.there in
    let at : is.entry.place ≡ place = found-place view.entries place is.entry is.here in
    let at_by : is.later.place ≡ by = found-place view.entries by is.later is.there in
    let waits : is_waiting (track core.tracks place).state ≡ true =
    ap (λ (s : State). is_waiting s)
    (marks-in is.entry.doing (track core.tracks place).state is.marks own.doing) in
    let less : nat_lt place by ≡ true = subst (λ (n : ℕ). nat_lt n by ≡ true) at
    (subst (λ (n : ℕ). nat_lt is.entry.place n ≡ true) at_by is.before) in
    let live : is_live (track core.tracks by).state ≡ true =
    live-yes is.later.doing (track core.tracks by).state other.doing is.live in
    let unread : list_any (is_read_between place by is.entry.span) view.reads ≡ false =
    subst (λ (n : ℕ). list_any (is_read_between n by is.entry.span) view.reads ≡ false) at
    (subst (λ (n : ℕ). list_any (is_read_between is.entry.place n is.entry.span) view.reads ≡ false)
    at_by is.unread) in
    let needs : needed_between core.tracks place by (track core.tracks place).span ≡ false =
    rw own.span (unneeded view core place by is.entry.span follows unread) in
    let covers : reaches_over (track core.tracks by).span (track core.tracks place).span ≡ true =
    rw (own.span, other.span) is.covers in
    rw (follows.up, waits, less, live, covers, needs) refl

-- ---- it is marked

marked-stands : {S : Type 0} (entry : Pending S) (t : Track) (slots : S) (kept : Bool) →
    is_marking_doing entry.doing ≡ true → IsTrack entry t →
    IsTrack (doing (marked_doing slots kept) entry) (marked_track t kept)
marked-stands entry t slots true marks is = record {
  grant = is.grant;
  span = is.span;
  applied = is.applied;
  done = is.done;
  doing = refl;
  gate = refl;
  idle = λ applied block. refl;
}
marked-stands entry t slots false marks is = record {
  grant = is.grant;
  span = is.span;
  applied = is.applied;
  done = is.done;
  doing = marks-in entry.doing t.state marks is.doing;
  gate = is.gate
      ∙ ap (λ (dead : Bool). gate_for dead entry.applied) (marks-alive entry.doing marks);
  idle = is.idle;
}

marked-free : (t : Track) (kept : Bool) (block : ℕ) → t.state ≡ states.Waiting →
    has_block (marked_track t kept).state block ≡ true → ⊥
marked-free t true block waits has =
    (let none : has_block states.Noop block ≡ false = refl in cc)
marked-free t false block waits has =
    (let none : has_block t.state block ≡ false = rw waits refl in cc)

pub follows-marked : {S D B : Type 0} (view : TrackerView S D B) (core : Core) (place by : ℕ)
    (slots : S) (kept : Bool) → is_marking_by view place by ≡ true → Follows view core →
    (may core (events.Mark place by kept) ≡ true)
    × Follows (marked place slots kept view) (after core (events.Mark place by kept))
follows-marked {S} view core place by slots kept h follows =
    let is = marking-parts view place by h in
    let may_be = may-mark view core place by kept is follows in
    let t = track core.tracks place in
    let own = track-of view core place is.entry follows is.here in
    let waits : t.state ≡ states.Waiting =
    marks-in is.entry.doing t.state is.marks own.doing in
    let inside = in-log is_waiting refl core.tracks place
    (ap (λ (s : State). is_waiting s) waits) in
    let now : Doing S = marked_doing slots kept in
    let unread : read_at view.reads place ≡ None = read-of view core place is.entry follows is.here
    in
    let there : entry_at (with_entry place (doing now) view.entries) place
    ≡ Some (doing now is.entry) =
    here-with view.entries place (doing now) (λ e. refl) ∙ ap (option_map (doing now)) is.here in (
      may_be,
      follows-put view core place (marked_track t kept)
          (with_entry place (doing now) view.entries) view.reads view.cells core.size core.sizes
          view.stored view.is_sure follows
          (comes core (events.Mark place by kept) follows.reached may_be) follows.size follows.sure
          (record {
            some = inside.0;
            within = inside.1;
            entries_beside = λ q apart. at-with view.entries place q (doing now) (λ e. refl) apart;
            reads_beside = λ q apart. refl;
            here = stands-by there unread refl (marked-stands is.entry t slots kept is.marks own);
            unread = unread;
            rise = rise-with 0 view.entries place (doing now) (λ e. refl) follows.rise;
            reads_rise = follows.reads_rise;
            many = follows.many;
            cells_stand = follows.cells;
            lent = λ block has. absurd (marked-free t kept block waits has);
            lent_beside = λ q block apart has. follows.lent q block has;
          }),
    )
