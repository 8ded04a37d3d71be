-- Calls that ask for no step of a device.
use Rattle.std.proofs.Common.{◌≡◌, ◌∙◌, ◌≤◌, ◌+◌, ap, arith, inr, List, [], ◌∷◌, length, None, refl}
use Rattle.std.proofs.Common.{subst, sym, true, false, ℕ}
use Rattle.std.specs.Prelude.{is_some}
use Rattle.cfs_file.specs.declared.request.Request.{Request}
use Rattle.cfs_core.specs.declared.event.Event.{Event}
use Rattle.cfs_core.specs.declared.event.Event.TheVariants as events
use Rattle.cfs_core.specs.declared.inode_core.Core.{Core}
use Rattle.cfs_core.specs.declared.state.State.{State}
use Rattle.cfs_core.specs.declared.state.State.TheVariants as states
use Rattle.cfs_core.specs.declared.track.Track.{Track}
use Rattle.cfs_core.specs.Words.{is_out, is_unserved, track}
use Rattle.cfs_core.specs.May.{is_query, may, span_now}
use Rattle.cfs_core.specs.After.{after, query_track}
use Rattle.cfs_core.proofs.Marks.{track_beside}
use Rattle.cfs_job.specs.Views.{JobView}
use Rattle.cfs_pmem.specs.declared.trace.Asked.{Asked}
use Rattle.cfs_pmem.specs.Images.{Seen}
use Rattle.cfs_pmem.proofs.AllMomentLemmas.{all_begun}
use Rattle.cfs_block.specs.BlockImages.{BlockStep}
use Rattle.cfs_medium.specs.Shows.{Recovers, Shows}
use Rattle.cfs_medium.specs.World.{MayRemain, Remains, World}
use Rattle.cfs_medium.proofs.LiveLeft.{shown-recovers}
use Rattle.cfs_medium.proofs.QuietEvents.{quiet-events-show}
use Rattle.cfs_medium.proofs.ReadEvents.{reads-may-come}
use Rattle.cfs_tracker.specs.Follows.{Follows}
use Rattle.cfs_tracker.specs.Reads.{read_admitted, read_ended}
use Rattle.cfs_tracker.specs.Cells.{cell_at, held_in}
use Rattle.cfs_tracker.specs.View.{TrackerView, entry_at, read_at}
use Rattle.cfs_tracker.proofs.Pushing.{track-beside}
use Rattle.cfs_tracker.proofs.Readings.{follows-dropped, follows-read, read-is, some-read}
use Rattle.cfs_tracker.proofs.Tracks.{in-log}
use Rattle.cfs_inode.specs.Makes.{AnyBetween, Made}
use Rattle.cfs_inode.specs.Reads.{QuietlyMakes, ReadMakes, with_read, without_read}
use Rattle.cfs_inode.specs.Stands.{IsAtRest, JobStands, Together}
use Rattle.cfs_inode.specs.View.{Held, Seens, StateView}
use Rattle.cfs_inode.proofs.Goods.{good}
use Rattle.cfs_inode.proofs.Openings.{past-blank}
use Rattle.cfs_inode.proofs.Replacing.{all-go}

-- What is to be shown of such an event: the devices show the core behind it as they are, the state
-- has the same slots and blocks, and no track of a job is another one.
pub record Stays (old : StateView) (tracker : TrackerView Held Seens (Seen BlockStep))
    (event : Event) (core : Core) (world : World) : Type 0 where
  pub come : may core event ≡ true
  pub follows : Follows tracker (after core event)
  pub shows : Shows old.ino (after core event) world
  pub entries : tracker.entries ≡ old.tracker.entries
  pub cells : tracker.cells ≡ old.tracker.cells
  pub doubt : tracker.doubt ≡ old.tracker.doubt
  pub tracks : (q : ℕ) → is_out (track core.tracks q).state ≡ true →
      track (after core event).tracks q ≡ track core.tracks q

job-stays : (old : StateView) (tracker : TrackerView Held Seens (Seen BlockStep)) (event : Event)
    (core : Core) (world : World) → Stays old tracker event core world → (job : JobView) →
    JobStands old.ino job core world → JobStands old.ino job (after core event) world
job-stays old tracker event core world stays job stands =
    let out : is_out (track core.tracks job.place).state ≡ true = rw stands.state refl in
    let same = stays.tracks job.place out in
    record {
      ino_is = stands.ino_is;
      state = ap (λ (t : Track). t.state) same ∙ stands.state;
      span = ap (λ (t : Track). t.span) same ∙ stands.span;
      slots = stands.slots;
      first = stands.first;
      second = stands.second;
    }

pub stayed : (old : StateView) (tracker : TrackerView Held Seens (Seen BlockStep)) (event : Event)
    (asked : List Asked) (jobs : List JobView) (core : Core) (world : World) →
    Stays old tracker event core world → Together old jobs core world →
    Made old.ino (event ∷ []) (Together (record old { tracker = tracker }) jobs) core asked world
    asked
stayed old tracker event asked jobs core world stays together =
    let stands = together.stands in
    let now : Core = after core event in
    let give : (n : ℕ) → length now.log + 2 ≤ n → (remains : Remains) → MayRemain world remains →
    AnyBetween (λ one. Recovers old.ino n one remains) core (event ∷ []) =
    λ n bound remains may_be. inr (inr (shown-recovers old.ino n now world
    (good now stays.follows.reached) stays.shows bound remains may_be)) in
    record {
      run = (stays.come, tt);
      world = world;
      moments = λ n bound. all_begun asked world tt (give n bound.1);
      stands = record {
        stands = record {
          follows = stays.follows;
          shows = stays.shows;
          size = stands.size;
          slots = λ place entry held there has.
              stands.slots place entry held
              (ap (λ es. entry_at es place) (sym stays.entries) ∙ there) has;
          doubt = λ doubt slots is has. stands.doubt doubt slots (sym stays.doubt ∙ is) has;
          blocks = λ block seen less has.
              stands.blocks block seen less
              (ap (λ cells. held_in (cell_at cells block)) (sym stays.cells) ∙ has);
          rest = λ block less.
              subst (λ cells. IsAtRest old.ino block (cell_at cells block)) (sym stays.cells)
              (stands.rest block less);
        };
        out = all-go old.ino jobs core now world world
            (job-stays old tracker event core world stays) together.out;
        once = together.once;
      };
    }

-- ---- a read or a sync comes

blank-out : (tracks : List Track) (q : ℕ) → is_out (track tracks q).state ≡ true →
    q ≡ length tracks + 1 → ⊥
blank-out tracks q out same =
    let none : is_out (track tracks q).state ≡ false =
    ap (λ (t : Track). is_out t.state) (past-blank tracks q (omega (arith, same))) in
    cc

pub read-made : (old : StateView) (request : Request) → is_query request ≡ true →
    ReadMakes request old (with_read request old)
read-made old request query = λ entry next asked jobs core world together.
    let stands = together.stands in
    let reads = follows-read old.tracker core request entry query stands.follows next.place_is
    next.request_is in
    stayed old (read_admitted request old.tracker) (events.AdmitRead entry) asked jobs core world
    (record {
      come = reads.0;
      follows = reads.1;
      shows = reads-may-come old.ino core entry world stands.shows reads.0;
      entries = refl;
      cells = refl;
      doubt = refl;
      tracks = λ q out.
          track-beside core.tracks (query_track (span_now core entry.request)) q
          (blank-out core.tracks q out);
    }) together

-- ---- one is dropped

unserved-out : (s : State) → s ≡ states.Unserved → is_out s ≡ true → ⊥
unserved-out s unserved out = (let none : is_out s ≡ false = rw unserved refl in cc)

pub drop-made : (old : StateView) (place : ℕ) → is_some (read_at old.tracker.reads place) ≡ true →
    QuietlyMakes (events.Serve place None ∷ []) old (without_read place old)
drop-made old place there = λ asked jobs core world together.
    let stands = together.stands in
    let drops = follows-dropped old.tracker core place there stands.follows in
    let read = some-read (read_at old.tracker.reads place) there in
    let is = read-is old.tracker core place read.0 stands.follows read.1 in
    let unserved : is_unserved (track core.tracks place).state ≡ true = rw is.unserved.state refl in
    let some = (in-log is_unserved refl core.tracks place unserved).0 in
    stayed old (read_ended place old.tracker) (events.Serve place None) asked jobs core world
    (record {
      come = drops.0;
      follows = drops.1;
      shows = quiet-events-show old.ino core (events.Serve place None) world stands.shows refl drops.0;
      entries = refl;
      cells = refl;
      doubt = refl;
      tracks = λ q out.
          track_beside core.tracks place q
          (record (track core.tracks place) { state = states.Closed }) some
          (λ same. unserved-out (track core.tracks q).state
          (ap (λ p. (track core.tracks p).state) same ∙ is.unserved.state) out);
    }) together
