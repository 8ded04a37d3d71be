-- A job is given out.
use Rattle.std.proofs.Common.{◌≡◌, ◌∙◌, ◌≤◌, ◌<◌, ◌+◌, ap, arith, inl, inr, List, [], ◌∷◌, length, Option, None, Some, refl, subst, sym, true, false, ℕ, Bool}
use Rattle.cfs_file.specs.declared.sizes.TheConstants.{FILE_BLOCKS}
use Rattle.cfs_core.specs.declared.event.Event.TheVariants as events
use Rattle.cfs_core.specs.declared.inode_core.Core.{Core}
use Rattle.std.specs.Prelude.{option_map}
use Rattle.cfs_core.specs.declared.state.Job.{Job}
use Rattle.cfs_core.specs.declared.state.Lease.{Lease}
use Rattle.cfs_core.specs.declared.state.State.{State}
use Rattle.cfs_core.specs.declared.state.State.TheVariants as states
use Rattle.cfs_core.specs.declared.track.Track.{Track}
use Rattle.cfs_core.specs.Jobs.{lease_of, next_job}
use Rattle.cfs_core.specs.Words.{is_waiting, track}
use Rattle.cfs_core.specs.After.{after}
use Rattle.cfs_core.proofs.Marks.{track_beside}
use Rattle.cfs_core.proofs.Order.{same_or_not}
use Rattle.cfs_job.specs.Steps.{core_job, lease_in}
use Rattle.cfs_job.specs.Views.{JobView, TileView}
use Rattle.cfs_pmem.specs.declared.trace.Asked.{Asked}
use Rattle.cfs_pmem.specs.Images.{Seen}
use Rattle.cfs_pmem.proofs.AllMomentLemmas.{all_begun}
use Rattle.cfs_block.specs.BlockImages.{BlockStep}
use Rattle.cfs_medium.specs.Shows.{Recovers}
use Rattle.cfs_medium.specs.World.{MayRemain, Remains, World}
use Rattle.cfs_medium.proofs.LiveLeft.{shown-recovers}
use Rattle.cfs_medium.proofs.QuietEvents.{quiet-events-show}
use Rattle.cfs_tracker.specs.declared.cell.Cell.{Cell}
use Rattle.cfs_tracker.specs.declared.cell.Cell.TheVariants as kinds
use Rattle.cfs_tracker.specs.declared.doing.Doing.{Doing}
use Rattle.cfs_tracker.specs.declared.doing.Doing.TheVariants as doings
use Rattle.cfs_tracker.specs.declared.pending.Pending.{Pending}
use Rattle.cfs_tracker.specs.Cells.{cell_at, held_in}
use Rattle.cfs_tracker.specs.Dispatch.{first_cell, lend, second_cell, sent, waiting_in}
use Rattle.cfs_tracker.specs.Dispatch.{waiting_slots}
use Rattle.cfs_tracker.specs.Admit.{is_mapped}
use Rattle.cfs_tracker.specs.Follows.{IsDoing}
use Rattle.cfs_tracker.proofs.Admissions.{mapped-less}
use Rattle.cfs_tracker.specs.View.{entry_at, with_entry}
use Rattle.cfs_tracker.proofs.Entries.{at-with, here-with}
use Rattle.cfs_tracker.proofs.Dispatching.{AreBlocks, IsTaking, follows-dispatched, job-is, job_with, lend-beside, lend-here, lend-length}
use Rattle.cfs_tracker.proofs.Putting.{track-of}
use Rattle.cfs_tracker.proofs.Tracks.{in-log, track-here}
use Rattle.cfs_inode.specs.Jobs.{AreTile, IsGiven, with_dispatched}
use Rattle.cfs_inode.specs.Makes.{AnyBetween, Makes}
use Rattle.cfs_inode.specs.Stands.{AllStand, IsAtRest, IsBeside, IsHeld, JobStands, Stands}
use Rattle.cfs_inode.specs.Stands.{Together, slots_in}
use Rattle.cfs_inode.specs.View.{Held, StateView}
use Rattle.cfs_inode.proofs.Goods.{good}
use Rattle.cfs_inode.proofs.Replacing.{all-go}

-- ---- the job's blocks

lease-is : (cells : List (Cell (Seen BlockStep))) (block : Option ℕ) (tile : Option TileView) →
    AreTile cells block tile → lease_of block ≡ lease_in tile
lease-is cells None None are = refl
lease-is cells None (Some tile) are = absurd are
lease-is cells (Some block) None are = absurd are
lease-is cells (Some block) (Some tile) are =
    ap (λ (n : ℕ). Some (record { block = n; written = false; flushed = false })) (sym are.at)
    ∙ (ap (λ (b : Bool). Some (record { block = tile.at; written = b; flushed = false }))
    (sym are.written)
    ∙ ap (λ (b : Bool). Some (record { block = tile.at; written = tile.written; flushed = b }))
    (sym are.flushed))

held-tile : (state : StateView) (core : Core) (world : World) (block : Option ℕ)
    (tile : Option TileView) → Stands state core world →
    ((n : ℕ) → block ≡ Some n → n < FILE_BLOCKS) → AreTile state.tracker.cells block tile →
    IsHeld tile world.blocks
held-tile state core world None None stands less are = tt
held-tile state core world None (Some tile) stands less are = absurd are
held-tile state core world (Some block) None stands less are = absurd are
held-tile state core world (Some block) (Some tile) stands less are =
    ap (λ n. world.blocks n) are.at
    ∙ stands.blocks block tile.seen (less block refl) (rw are.home refl)

-- ---- the blocks that stay

lent-or-kept : (cells : List (Cell (Seen BlockStep))) (place : ℕ) (held : Option ℕ) (block : ℕ)
    (seen : Seen BlockStep) → block < length cells →
    held_in (cell_at (lend place held cells) block) ≡ Some seen →
    held_in (cell_at cells block) ≡ Some seen
lent-or-kept cells place None block seen less has = has
lent-or-kept cells place (Some own) block seen less has = elim (same_or_not block own) [
  | inl same ↦
      let lent : cell_at (lend place (Some own) cells) block ≡ kinds.Lent place =
      lend-here cells place (Some own) block (ap Some (sym same)) less in
      let none : held_in (cell_at (lend place (Some own) cells) block) ≡ None =
      ap held_in lent in
      let clash : None ≡ Some seen = sym none ∙ has in
      cc
  | inr apart ↦
      ap held_in (sym (lend-beside cells place (Some own) block
      (λ same. apart (let it : Some own ≡ Some block = same in cc)))) ∙ has
]

rest-lent : (ino : ℕ) (cells : List (Cell (Seen BlockStep))) (place : ℕ) (held : Option ℕ)
    (block : ℕ) → block < length cells → IsAtRest ino block (cell_at cells block) →
    IsAtRest ino block (cell_at (lend place held cells) block)
rest-lent ino cells place None block less rest = rest
rest-lent ino cells place (Some own) block less rest = elim (same_or_not block own) [
  | inl same ↦
      subst (λ (c : Cell (Seen BlockStep)). IsAtRest ino block c)
      (sym (lend-here cells place (Some own) block (ap Some (sym same)) less)) tt
  | inr apart ↦
      subst (λ (c : Cell (Seen BlockStep)). IsAtRest ino block c)
      (sym (lend-beside cells place (Some own) block
      (λ same. apart (let it : Some own ≡ Some block = same in cc)))) rest
]

-- ---- the state

out-slots : (first second : Option ℕ) (e entry : Pending Held) (held : Held) →
    Some (sent first second e) ≡ Some entry → slots_in entry.doing ≡ Some held → ⊥
out-slots first second e entry held both has =
    let one : sent first second e ≡ entry = cc in
    let none : slots_in entry.doing ≡ None =
    ap (λ (x : Pending Held). slots_in x.doing) (sym one) in
    let clash : None ≡ Some held = sym none ∙ has in
    cc

pub waiting-slots : (now : Doing Held) (held : Held) → waiting_in now ≡ Some held →
    slots_in now ≡ Some held
waiting-slots (doings.Waiting x) held h = h
waiting-slots doings.Marking held h = cc
waiting-slots (doings.Out first second) held h = cc
waiting-slots (doings.Covered x) held h = cc
waiting-slots doings.Closing held h = cc

not-there : (ino place : ℕ) (jobs : List JobView) (core : Core) (world : World) →
    ((job : JobView) → JobStands ino job core world → job.place ≡ place → ⊥) →
    AllStand ino jobs core world → IsBeside place jobs
not-there ino place [] core world apart all = tt
not-there ino place (job ∷ jobs) core world apart all =
    (apart job all.0, not-there ino place jobs core world apart all.1)

out-waits : (s : State) (job : JobView) → s ≡ states.Out (core_job job) → is_waiting s ≡ true → ⊥
out-waits s job out waits = (let none : is_waiting s ≡ false = rw out refl in cc)

pub waits-state : (now : Doing Held) (held : Held) (s : State) → waiting_in now ≡ Some held →
    IsDoing now s → s ≡ states.Waiting
waits-state (doings.Waiting x) held s h is = is
waits-state doings.Marking held s h is = cc
waits-state (doings.Out first second) held s h is = cc
waits-state (doings.Covered x) held s h is = cc
waits-state doings.Closing held s h is = cc

job-given : (old : StateView) (place : ℕ) (first second : Option ℕ) (job : JobView)
    (is : IsTaking old.tracker place first second) → IsGiven old place first second is.entry job →
    (core : Core) (world : World) → Stands old core world →
    next_job core.tags (track core.tracks place) ≡ core_job job
job-given old place first second job is given core world stands =
    let cells = old.tracker.cells in
    let entry = is.entry in
    let own = track-of old.tracker core place entry stands.follows is.there in
    let two : second_cell cells entry.span (first_cell cells entry) ≡ second =
    ap (λ (o : Option ℕ). second_cell cells entry.span o) is.first_is ∙ is.second_is in
    job-is old.tracker core entry (track core.tracks place) stands.follows own
    ∙ (ap (λ (o : Option ℕ). job_with o (second_cell cells entry.span (first_cell cells entry)))
    is.first_is
    ∙ (ap (λ (o : Option ℕ). job_with first o) two
    ∙ (ap (λ (l : Option Lease). let j : Job = record { first = l; second = lease_of second } in j)
    (lease-is cells first job.first given.first_is)
    ∙ ap (λ (l : Option Lease).
    let j : Job = record { first = lease_in job.first; second = l } in j)
    (lease-is cells second job.second given.second_is))))

pub dispatch-made : (old : StateView) (place : ℕ) (first second : Option ℕ) (job : JobView)
    (is : IsTaking old.tracker place first second) → AreBlocks old.tracker first second →
    IsGiven old place first second is.entry job → (asked : List Asked) (jobs : List JobView) →
    Makes old.ino (Together old jobs) (events.Dispatch place ∷ []) asked asked
    (Together (with_dispatched place first second old) (job ∷ jobs))
dispatch-made old place first second job is are given asked jobs = λ core world together.
    let stands = together.stands in
    let follows = stands.follows in
    let cells = old.tracker.cells in
    let t = track core.tracks place in
    let now : Core = after core (events.Dispatch place) in
    let own = track-of old.tracker core place is.entry follows is.there in
    let waiting : waiting_in is.entry.doing ≡ Some given.held =
    sym (ap waiting_slots is.there) ∙ given.slots in
    let state : t.state ≡ states.Waiting =
    waits-state is.entry.doing given.held t.state waiting own.doing in
    let waits : is_waiting t.state ≡ true = rw state refl in
    let inside = in-log is_waiting refl core.tracks place waits in
    let takes = follows-dispatched old.tracker core place first second is are follows in
    let shows =
    quiet-events-show old.ino core (events.Dispatch place) world stands.shows refl takes.0 in
    let changed : Track = record t { state = states.Out (next_job core.tags t) } in
    let here : track now.tracks place ≡ changed =
    track-here core.tracks place changed inside.0 inside.1 in
    let next = job-given old place first second job is given core world stands in
    let apart : (other : JobView) → JobStands old.ino other core world → other.place ≡ place → ⊥ =
    λ other stand same. out-waits t.state other
    (ap (λ p. (track core.tracks p).state) (sym same) ∙ stand.state) waits in
    let held = stands.slots place is.entry given.held is.there
    (waiting-slots is.entry.doing given.held waiting) in
    let less : (n : ℕ) → is_mapped (cell_at cells n) ≡ true → n < FILE_BLOCKS =
    λ n mapped. omega (arith, mapped-less cells n mapped, follows.many) in
    let give : (n : ℕ) → length now.log + 2 ≤ n → (remains : Remains) → MayRemain world remains →
    AnyBetween (λ one. Recovers old.ino n one remains) core (events.Dispatch place ∷ []) =
    λ n bound remains may_be. inr (inr (shown-recovers old.ino n now world
    (good now takes.1.reached) shows bound remains may_be)) in
    record {
      run = (takes.0, tt);
      world = world;
      moments = λ n bound. all_begun asked world tt (give n bound.1);
      stands = record {
        stands = record {
          follows = takes.1;
          shows = shows;
          size = stands.size;
          slots = λ q entry kept there has. elim (same_or_not q place) [
            | inl same ↦
                let change = sent first second in
                let at : entry_at (with_entry place change old.tracker.entries) place ≡ Some entry =
                ap (λ p. entry_at (with_entry place change old.tracker.entries) p) (sym same)
                ∙ there in
                let it : entry_at (with_entry place change old.tracker.entries) place
                ≡ Some (change is.entry) =
                here-with old.tracker.entries place change (λ e. refl)
                ∙ ap (λ (o : Option (Pending Held)). option_map change o) is.there in
                absurd (out-slots first second is.entry entry kept (sym it ∙ at) has)
            | inr beside ↦
                stands.slots q entry kept
                (sym (at-with old.tracker.entries place q (sent first second) (λ e. refl) beside)
                ∙ there) has
          ];
          doubt = stands.doubt;
          blocks = λ block seen within has.
              let one = lent-or-kept (lend place first cells) place second block seen
              (omega (arith, within, follows.many, lend-length cells place first)) has in
              stands.blocks block seen within
              (lent-or-kept cells place first block seen (omega (arith, within, follows.many)) one);
          rest = λ block within.
              rest-lent old.ino (lend place first cells) place second block
              (omega (arith, within, follows.many, lend-length cells place first))
              (rest-lent old.ino cells place first block (omega (arith, within, follows.many))
              (stands.rest block within));
        };
        out = (
          record {
            ino_is = given.ino_is;
            state =
                ap (λ p. (track now.tracks p).state) given.place_is
                ∙ (ap (λ (u : Track). u.state) here ∙ ap (λ j. states.Out j) next);
            span =
                ap (λ p. (track now.tracks p).span) given.place_is
                ∙ (ap (λ (u : Track). u.span) here ∙ (own.span ∙ sym given.span_is));
            slots = ap (λ p. world.slots p) given.place_is ∙ (held.here ∙ sym given.slots_are);
            first = held-tile old core world first job.first stands
                (λ n own_is. less n (are.first_mapped n own_is)) given.first_is;
            second = held-tile old core world second job.second stands
                (λ n own_is. less n (are.second_mapped n own_is)) given.second_is;
          },
          all-go old.ino jobs core now world world
              (λ other stand.
              let same : track now.tracks other.place ≡ track core.tracks other.place =
              track_beside core.tracks place other.place changed inside.0 (apart other stand) in
              record {
                ino_is = stand.ino_is;
                state = ap (λ (u : Track). u.state) same ∙ stand.state;
                span = ap (λ (u : Track). u.span) same ∙ stand.span;
                slots = stand.slots;
                first = stand.first;
                second = stand.second;
              }) together.out,
        );
        once = (
          subst (λ p. IsBeside p jobs) (sym given.place_is)
              (not-there old.ino place jobs core world apart together.out),
          together.once,
        );
      };
    }
