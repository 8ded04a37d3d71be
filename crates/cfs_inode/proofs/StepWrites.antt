-- A job writes into a block, or fails to.
use Rattle.std.proofs.Common.{◌≡◌, ◌∙◌, ◌+◌, ◌-◌, ◌*◌, ◌≤◌, ◌==◌, ap, arith, eq-eqb, inl, inr}
use Rattle.std.proofs.Common.{length, List, [], ◌∷◌, Option, None, Some, refl, set, subst, sym}
use Rattle.std.proofs.Common.{true, false, not, ℕ, Bool}
use Rattle.std.specs.Prelude.{is_none, nat_lt}
use Rattle.std.specs.List.{flat_map}
use Rattle.cfs_file.specs.declared.sizes.TheConstants.{BLOCK_LEN, FILE_BLOCKS}
use Rattle.cfs_core.specs.declared.event.Event.{Event}
use Rattle.cfs_core.specs.declared.event.Event.TheVariants as events
use Rattle.cfs_core.specs.declared.inode_core.Core.{Core}
use Rattle.cfs_core.specs.declared.state.Job.{Job}
use Rattle.cfs_core.specs.declared.state.State.TheVariants as states
use Rattle.cfs_core.specs.declared.track.Track.{Track}
use Rattle.cfs_core.specs.After.{after}
use Rattle.cfs_core.specs.Jobs.{job_written, state_written}
use Rattle.cfs_core.specs.May.{may, may_flush, may_write}
use Rattle.cfs_core.specs.Words.{block_span, end_in, has_block, payload_at, piece_in}
use Rattle.cfs_core.specs.Words.{start_in, track}
use Rattle.cfs_core.proofs.Legal.{and_all, both}
use Rattle.cfs_core.proofs.Marks.{track_beside}
use Rattle.cfs_core_laws.specs.Reached.IsReached.{comes}
use Rattle.cfs_file.specs.Span.{meets}
use Rattle.cfs_pmem.specs.declared.trace.Asked.{Asked}
use Rattle.cfs_pmem.specs.Images.{Seen, devices_of}
use Rattle.cfs_pmem.specs.Moments.{Moments}
use Rattle.cfs_pmem.proofs.AllMomentLemmas.{all_after, all_weaker}
use Rattle.cfs_block.specs.BlockImages.{BlockStep, IsBlockImage, IsRangedFrom, content_of}
use Rattle.cfs_block.specs.BlockImages.{with_bytes}
use Rattle.cfs_slot.specs.Payload.{AsksOnly}
use Rattle.cfs_job.specs.Ops.{count_in, place_in}
use Rattle.cfs_job.specs.Steps.{core_job}
use Rattle.cfs_job.specs.Views.{JobView, payload_seen}
use Rattle.cfs_job.proofs.EventLemmas.{IsPlaced, placed_in}
use Rattle.cfs_medium.specs.BlockEvents.{IsPiece, left_or}
use Rattle.cfs_medium.specs.Shows.{Recovers}
use Rattle.cfs_medium.specs.World.{Remains, World}
use Rattle.cfs_medium.specs.WorldCalls.{with_block}
use Rattle.cfs_medium.proofs.LiveLeft.{shown-recovers}
use Rattle.cfs_medium.proofs.WriteEvents.{writes-show}
use Rattle.cfs_tracker.proofs.JobSteps.{follows-write}
use Rattle.cfs_tracker.proofs.Tracks.{track-here}
use Rattle.cfs_inode.specs.Makes.{AnyBetween, Made}
use Rattle.cfs_inode.specs.Stands.{Together}
use Rattle.cfs_inode.specs.View.{StateView}
use Rattle.cfs_inode.proofs.Blocks.{block-put}
use Rattle.cfs_inode.proofs.Goods.{good}
use Rattle.cfs_inode.proofs.Running.{IsRunning}
use Rattle.cfs_inode.proofs.StepAsks.{reads-moments}
use Rattle.cfs_inode.proofs.Stepping.{IsStepped, stepped-together}

-- what recovers the file before or behind an event is a moment of it

pub before-event : (ino n : ℕ) (core : Core) (event : Event) (remains : Remains) →
    Recovers ino n core remains →
    AnyBetween (λ one. Recovers ino n one remains) core (event ∷ [])
before-event ino n core event remains recovers = inl recovers

pub behind-event : (ino n : ℕ) (core : Core) (event : Event) (remains : Remains) →
    Recovers ino n (after core event) remains →
    AnyBetween (λ one. Recovers ino n one remains) core (event ∷ [])
behind-event ino n core event remains recovers = inr (inr recovers)

-- ---- the core

pub may-flush : (job : JobView) (k : ℕ) (core : Core) → IsRunning job k core →
    may_flush core job.place k ≡ true
may-flush job k core is =
    and_all (nat_lt k FILE_BLOCKS) (has_block (track core.tracks job.place).state k)
    (both (nat_lt k FILE_BLOCKS) (meets job.span (block_span k)) is.touched).0 is.has

may-write : (job : JobView) (k : ℕ) (left : Option (List ℕ)) (bytes piece : List ℕ)
    (core : Core) → IsRunning job k core → (track core.tracks job.place).span ≡ job.span →
    length bytes ≡ count_in job.span k → bytes ≡ left_or left piece → core.crashed ≡ false →
    may core (events.BlockWrite job.place k left) ≡ true
may-write job k None bytes piece core is span long same up =
    and_all (not core.crashed) (may_write core job.place k None) (ap not up)
    (may-flush job k core is)
may-write job k (Some left) bytes piece core is span long same up =
    let t = track core.tracks job.place in
    let own : length left ≡ end_in t.span k - start_in t.span k =
    ap (λ (xs : List ℕ). length xs) (sym same) ∙ (long
    ∙ ap (λ s. end_in s k - start_in s k) (sym span)) in
    and_all (not core.crashed) (may_write core job.place k (Some left)) (ap not up)
    (and_all (may_flush core job.place k)
    (length left == end_in t.span k - start_in t.span k) (may-flush job k core is)
    (eq-eqb (length left) (end_in t.span k - start_in t.span k) own))

abbrev track_written : Core → ℕ → ℕ → Bool → Track
track_written core place k ok =
    record (track core.tracks place) {
      state = state_written k ok (track core.tracks place).state;
    }

written-tracks : (core : Core) (place k : ℕ) (left : Option (List ℕ)) →
    (after core (events.BlockWrite place k left)).tracks
    ≡ set core.tracks (place - 1) (track_written core place k (is_none left))
written-tracks core place k None = refl
written-tracks core place k (Some left) = refl

-- ---- the whole

-- a write that was made, or failed
pub record IsWrite (old new : JobView) (k : ℕ) (was now : Seen BlockStep)
    (left : Option (List ℕ)) (bytes : List ℕ) (asked_old asked_new : List Asked) : Type 0 where
  pub stepped : IsStepped old new k was now
  pub full : length (content_of was).bytes ≡ BLOCK_LEN
  pub long : length bytes ≡ count_in old.span k
  pub bytes_are : bytes ≡ left_or left (piece_in (payload_seen old.slots) old.span k)
  pub is : content_of now ≡ with_bytes (place_in old.span k) bytes (content_of was)
  pub noted : core_job new ≡ job_written k (is_none left) (core_job old)
  pub between : List Asked
  pub reads : AsksOnly (flat_map devices_of old.slots) asked_old between
  pub moments : Moments IsBlockImage (IsRangedFrom was (place_in old.span k) (count_in old.span k))
      between was asked_new now

its-piece : (old new : JobView) (k : ℕ) (was now : Seen BlockStep) (left : Option (List ℕ))
    (bytes : List ℕ) (asked_old asked_new : List Asked) (core : Core) →
    IsWrite old new k was now left bytes asked_old asked_new → IsRunning old k core →
    (track core.tracks old.place).span ≡ old.span →
    IsPiece core old.place k (place_in old.span k) left bytes
its-piece old new k was now left bytes asked_old asked_new core writes is span =
    let p : IsPlaced old.span k = placed_in old.span k is.touched in
    let long = writes.long in
    record {
      starts = ap (λ s. start_in s k) span ∙ p.starts;
      ends = ap (λ s. end_in s k) span ∙ (p.ends
          ∙ ap (λ n. BLOCK_LEN * k + place_in old.span k + n) (sym long));
      within = subst (λ n. place_in old.span k + n ≤ BLOCK_LEN) (sym long) p.fits;
      is = writes.bytes_are
          ∙ ap (left_or left) (sym is.piece
          ∙ ap (λ s. piece_in (payload_at core.log old.place) s k) (sym span));
    }

pub write-made : (state : StateView) (old new : JobView) (jobs : List JobView) (k : ℕ)
    (was now : Seen BlockStep) (left : Option (List ℕ)) (bytes : List ℕ)
    (asked_old asked_new : List Asked) (core : Core) (world : World) →
    Together state (old ∷ jobs) core world → IsRunning old k core →
    IsWrite old new k was now left bytes asked_old asked_new →
    Made state.ino (events.BlockWrite old.place k left ∷ []) (Together state (new ∷ jobs)) core
    asked_old world asked_new
write-made state old new jobs k was now left bytes asked_old asked_new core world together is
    writes =
    let stands = together.stands in
    let stand = together.out.0 in
    let place = old.place in
    let reached = stands.follows.reached in
    let event = events.BlockWrite place k left in
    let next : Core = after core event in
    let from = place_in old.span k in
    let here : world.blocks k ≡ Some was =
    writes.stepped.held world.blocks stand.first stand.second in
    let allowed = may-write old k left bytes (piece_in (payload_seen old.slots) old.span k) core is
    stand.span writes.long writes.bytes_are stands.follows.up in
    let piece = its-piece old new k was now left bytes asked_old asked_new core writes is
    stand.span in
    let law = (λ (n : ℕ) (bound : length core.log + 2 ≤ n).
    writes-show state.ino n place k from left bytes core world was now writes.between asked_new
    (good next (comes core event reached allowed)) stands.shows allowed bound here piece
    writes.full writes.is
    (subst (λ (m : ℕ). Moments IsBlockImage (IsRangedFrom was from m) writes.between was asked_new
    now) (sym writes.long) writes.moments)) in
    let tracks = written-tracks core place k left in
    let t = track_written core place k (is_none left) in
    record {
      run = (allowed, tt);
      world = with_block k (Some now) world;
      moments = λ n bound.
          all_after
          (all_weaker (before-event state.ino n core event)
          (reads-moments (Recovers state.ino n core) place old.slots world asked_old writes.between
          (shown-recovers state.ino n core world (good core reached) stands.shows bound.0)
          stand.slots writes.reads))
          (all_weaker (behind-event state.ino n core event) (law n bound.0).0);
      stands = stepped-together state old new jobs k was now core next world
          (with_block k (Some now) world)
          (record {
            stepped = writes.stepped;
            has = block-put k (Some now) world;
            follows = follows-write state.tracker core place k left stands.follows allowed;
            shows = (law (length core.log + 2) (omega arith)).1;
            tracks = λ q apart.
                ap (λ ts. track ts q) tracks ∙ track_beside core.tracks place q t is.some apart;
            state_is = ap (λ ts. (track ts place).state) tracks
                ∙ (ap (λ (u : Track). u.state) (track-here core.tracks place t is.some is.within_)
                ∙ (ap (state_written k (is_none left)) stand.state
                ∙ ap (λ (j : Job). states.Out j) (sym writes.noted)));
            span_is = ap (λ ts. (track ts place).span) tracks
                ∙ ap (λ (u : Track). u.span) (track-here core.tracks place t is.some is.within_);
          }) together;
    }
