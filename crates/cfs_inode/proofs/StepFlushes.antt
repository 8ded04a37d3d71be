-- A job flushes a block, or fails to.
use Rattle.std.proofs.Common.{◌≡◌, ◌∙◌, ◌+◌, ◌-◌, ◌≤◌, ap, arith, length, List, [], ◌∷◌}
use Rattle.std.proofs.Common.{Err, Ok, Some, refl, sym, true, false, not, ℕ, Bool}
use Rattle.std.specs.Prelude.{OnErr, OnOk}
use Rattle.cfs_file.specs.declared.sizes.TheConstants.{BLOCK_LEN}
use Rattle.cfs_core.specs.declared.event.Event.TheVariants as events
use Rattle.cfs_core.specs.declared.inode_core.Core.{Core}
use Rattle.cfs_core.specs.declared.state.Job.{Job}
use Rattle.cfs_core.specs.declared.state.State.TheVariants as states
use Rattle.cfs_core.specs.declared.track.Track.{Track}
use Rattle.cfs_core.specs.After.{after}
use Rattle.cfs_core.specs.Jobs.{job_flushed, state_flushed}
use Rattle.cfs_core.specs.May.{may, may_flush}
use Rattle.cfs_core.specs.Words.{track}
use Rattle.cfs_core.proofs.Legal.{and_all}
use Rattle.cfs_core.proofs.Marks.{track_beside}
use Rattle.cfs_core_laws.proofs.Whole.{whole}
use Rattle.cfs_pmem.specs.declared.trace.Asked.{Asked}
use Rattle.cfs_pmem.specs.Images.{Seen}
use Rattle.cfs_pmem.specs.Moments.{Moments}
use Rattle.cfs_pmem.proofs.AllMomentLemmas.{all_weaker}
use Rattle.cfs_block.specs.BlockImages.{BlockStep, IsBlockImage, content_of, kept, unflushed}
use Rattle.cfs_job.specs.Steps.{core_job}
use Rattle.cfs_job.specs.Views.{JobView}
use Rattle.cfs_medium.specs.BlockEvents.{BlockLeads, Flushes, StayInBlocks}
use Rattle.cfs_medium.specs.SlotEvents.{Answer}
use Rattle.cfs_medium.specs.World.{World}
use Rattle.cfs_medium.specs.WorldCalls.{with_block}
use Rattle.cfs_medium.proofs.FlushEvents.{flushes-show}
use Rattle.cfs_tracker.proofs.JobSteps.{follows-flush}
use Rattle.cfs_tracker.proofs.Tracks.{track-here}
use Rattle.cfs_inode.specs.Makes.{Made}
use Rattle.cfs_inode.specs.Stands.{Together}
use Rattle.cfs_inode.specs.View.{StateView}
use Rattle.cfs_inode.proofs.Blocks.{block-put}
use Rattle.cfs_inode.proofs.Goods.{good}
use Rattle.cfs_inode.proofs.Running.{IsRunning}
use Rattle.cfs_inode.proofs.StepWrites.{before-event, may-flush}
use Rattle.cfs_inode.proofs.Stepping.{IsStepped, stepped-together}

-- a flush that was made, or failed
pub record IsFlush (old new : JobView) (k : ℕ) (was now : Seen BlockStep)
    (asked_old asked_new : List Asked) : Type 0 where
  pub stepped : IsStepped old new k was now
  pub full : length (content_of was).bytes ≡ BLOCK_LEN
  pub moments : Moments IsBlockImage (IsBlockImage was.history) asked_old was asked_new now

-- how it left the block
abbrev Came : Answer → Seen BlockStep → Seen BlockStep → Type 0
Came result was now = OnOk result (now ≡ kept was) × OnErr result (now ≡ unflushed was)

may-end : (job : JobView) (k : ℕ) (ok : Bool) (core : Core) → IsRunning job k core →
    core.crashed ≡ false → may core (events.Flush job.place k ok) ≡ true
may-end job k ok core is up =
    and_all (not core.crashed) (may_flush core job.place k) (ap not up) (may-flush job k core is)

flush-flushes : (old new : JobView) (k : ℕ) (was now : Seen BlockStep) (result : Answer)
    (asked_old asked_new : List Asked) → IsFlush old new k was now asked_old asked_new →
    Came result was now → Flushes result asked_old was asked_new now
flush-flushes old new k was now result asked_old asked_new flushes came = record {
  full = omega (arith, flushes.full);
  ok = came.0;
  err = came.1;
  moments = flushes.moments;
}

leads : (state : StateView) (old new : JobView) (jobs : List JobView) (k : ℕ)
    (was now : Seen BlockStep) (result : Answer) (asked_old asked_new : List Asked) (core : Core)
    (world : World) → Together state (old ∷ jobs) core world → IsRunning old k core →
    IsFlush old new k was now asked_old asked_new → Came result was now →
    (n : ℕ) → length core.log + 2 ≤ n →
    BlockLeads state.ino n k core (after core (events.Flush old.place k true)) core world now
    result asked_old asked_new
leads state old new jobs k was now result asked_old asked_new core world together is flushes came
    n bound =
    let stands = together.stands in
    let stand = together.out.0 in
    let reached = stands.follows.reached in
    let short : StayInBlocks core.loose = (whole reached).kept.stored_.short in
    flushes-show state.ino n old.place k core world was now result asked_old asked_new
    (good core reached) stands.shows short (may-end old k true core is stands.follows.up) bound
    (flushes.stepped.held world.blocks stand.first stand.second)
    (flush-flushes old new k was now result asked_old asked_new flushes came)

pub flush-made : (state : StateView) (old new : JobView) (jobs : List JobView) (k : ℕ)
    (was now : Seen BlockStep) (asked_old asked_new : List Asked) (core : Core) (world : World) →
    Together state (old ∷ jobs) core world → IsRunning old k core →
    IsFlush old new k was now asked_old asked_new → now ≡ kept was →
    core_job new ≡ job_flushed k (core_job old) →
    Made state.ino (events.Flush old.place k true ∷ []) (Together state (new ∷ jobs)) core
    asked_old world asked_new
flush-made state old new jobs k was now asked_old asked_new core world together is flushes went
    noted =
    let stands = together.stands in
    let stand = together.out.0 in
    let place = old.place in
    let event = events.Flush place k true in
    let next : Core = after core event in
    let allowed = may-end old k true core is stands.follows.up in
    let law = (λ (n : ℕ) (bound : length core.log + 2 ≤ n).
    leads state old new jobs k was now (Ok tt) asked_old asked_new core world together is flushes
    (went, tt) n bound) in
    let t : Track = record (track core.tracks place) {
      state = state_flushed k (track core.tracks place).state;
    } in
    record {
      run = (allowed, tt);
      world = with_block k (Some now) world;
      moments = λ n bound.
          all_weaker (before-event state.ino n core event) (law n bound.0).moments;
      stands = stepped-together state old new jobs k was now core next world
          (with_block k (Some now) world)
          (record {
            stepped = flushes.stepped;
            has = block-put k (Some now) world;
            follows = follows-flush state.tracker core place k true stands.follows allowed;
            shows = (law (length core.log + 2) (omega arith)).ok;
            tracks = λ q apart. track_beside core.tracks place q t is.some apart;
            state_is = ap (λ (u : Track). u.state)
                (track-here core.tracks place t is.some is.within_)
                ∙ (ap (state_flushed k) stand.state
                ∙ ap (λ (j : Job). states.Out j) (sym noted));
            span_is = ap (λ (u : Track). u.span)
                (track-here core.tracks place t is.some is.within_);
          }) together;
    }

pub stalled-made : (state : StateView) (old new : JobView) (jobs : List JobView) (k : ℕ)
    (was now : Seen BlockStep) (asked_old asked_new : List Asked) (core : Core) (world : World) →
    Together state (old ∷ jobs) core world → IsRunning old k core →
    IsFlush old new k was now asked_old asked_new → now ≡ unflushed was →
    core_job new ≡ core_job old →
    Made state.ino (events.Flush old.place k false ∷ []) (Together state (new ∷ jobs)) core
    asked_old world asked_new
stalled-made state old new jobs k was now asked_old asked_new core world together is flushes went
    noted =
    let stands = together.stands in
    let stand = together.out.0 in
    let place = old.place in
    let event = events.Flush place k false in
    let law = (λ (n : ℕ) (bound : length core.log + 2 ≤ n).
    leads state old new jobs k was now (Err tt) asked_old asked_new core world together is flushes
    (tt, went) n bound) in
    record {
      run = (may-end old k false core is stands.follows.up, tt);
      world = with_block k (Some now) world;
      moments = λ n bound.
          all_weaker (before-event state.ino n core event) (law n bound.0).moments;
      stands = stepped-together state old new jobs k was now core core world
          (with_block k (Some now) world)
          (record {
            stepped = flushes.stepped;
            has = block-put k (Some now) world;
            follows = stands.follows;
            shows = (law (length core.log + 2) (omega arith)).err;
            tracks = λ q apart. refl;
            state_is = stand.state ∙ ap (λ (j : Job). states.Out j) (sym noted);
            span_is = refl;
          }) together;
    }
