-- A device step of a job that is out is one event of the core.
use Rattle.std.proofs.Common.{◌≡◌, ◌∙◌, ap, length, List, [], ◌∷◌, Option, None, Some, Result}
use Rattle.std.proofs.Common.{Ok, Err, is_ok, refl, subst, sym, true, ℕ, Bool, drop, take}
use Rattle.std.proofs.Common.{if◌then◌else◌}
use Rattle.cfs_file.specs.declared.sizes.TheConstants.{BLOCK_LEN}
use Rattle.cfs_core.specs.declared.event.Event.{Event}
use Rattle.cfs_core.specs.declared.event.Event.TheVariants as events
use Rattle.cfs_core.specs.declared.state.Job.{Job}
use Rattle.cfs_core.specs.Jobs.{job_flushed, job_written}
use Rattle.cfs_core.specs.Words.{piece_in}
use Rattle.cfs_core_laws.specs.Order.{ascends}
use Rattle.cfs_pmem.specs.declared.fault.DeviceFault.{DeviceFault}
use Rattle.cfs_pmem.specs.declared.trace.Asked.{Asked}
use Rattle.cfs_pmem.proofs.AllMomentLemmas.{all_begun}
use Rattle.cfs_block.specs.BlockImages.{content_of}
use Rattle.cfs_job.specs.declared.turn.Turn.TheVariants as turns
use Rattle.cfs_job.specs.Ops.{count_in, place_in}
use Rattle.cfs_job.specs.Stands.{IsFull}
use Rattle.cfs_job.specs.Steps.{Flushes, Writes, at_of, core_job, lease_in}
use Rattle.cfs_job.specs.Views.{JobView, TileView, payload_seen}
use Rattle.cfs_job.proofs.EventLemmas.{flush_kept, flush_moments, flush_stalled, wrote_piece}
use Rattle.cfs_job.proofs.KeepLemmas.{piece_size}
use Rattle.cfs_medium.specs.Shows.{Recovers}
use Rattle.cfs_medium.specs.WorldCalls.{WorldMoments}
use Rattle.cfs_medium.proofs.LiveLeft.{shown-recovers}
use Rattle.cfs_inode.specs.JobSteps.{JobStepsAreEvents, StepMakes, left_by, turn_events}
use Rattle.cfs_inode.specs.Stands.{Together}
use Rattle.cfs_inode.proofs.Goods.{good}
use Rattle.cfs_inode.proofs.Running.{ascending, running}
use Rattle.cfs_inode.proofs.StepFlushes.{flush-made, stalled-made}
use Rattle.cfs_inode.proofs.StepPieces.{failed-left}
use Rattle.cfs_inode.proofs.StepWrites.{write-made}
use Rattle.cfs_inode.proofs.Stepping.{IsStepped, first-stepped, second-stepped}

-- the job with another block in the place of one that it has
abbrev Steps : JobView → JobView → TileView → TileView → Type 0
Steps old new was now =
    ascends (lease_in old.first) (lease_in old.second) ≡ true →
    IsStepped old new was.at was.seen now.seen

-- ---- a write

write-step : (obeys_slots obeys_block keeps : Bool) (result : Result (Unit {0}) DeviceFault)
    (asked_old asked_new : List Asked) (old new : JobView) (was now : TileView) →
    Steps old new was now → length (content_of was.seen).bytes ≡ BLOCK_LEN →
    Writes obeys_slots obeys_block keeps old.slots old.span result asked_old was asked_new now →
    core_job new ≡ job_written was.at (is_ok result) (core_job old) →
    StepMakes (events.BlockWrite old.place was.at
    (left_by (is_ok result) old.span (Some (record now { at = was.at }))) ∷ [])
    asked_old old asked_new new
write-step obeys_slots obeys_block keeps (Ok done) asked_old asked_new old new was now steps full
    writes noted =
    λ state jobs core world together.
    let up = ascending state old core world together.stands together.out.0 in
    let stepped = steps up in
    let is = running state old jobs was.at core world together stepped.has in
    let piece = piece_in (payload_seen old.slots) old.span was.at in
    write-made state old new jobs was.at was.seen now.seen None piece asked_old asked_new core
    world together is
    (record {
      stepped = stepped;
      full = full;
      long = piece_size old.slots old.span was.at is.spans is.touched;
      bytes_are = refl;
      is = wrote_piece done writes;
      noted = noted;
      between = writes.works.between;
      reads = writes.works.reads;
      moments = writes.works.moments;
    })
write-step obeys_slots obeys_block keeps (Err fault) asked_old asked_new old new was now steps full
    writes noted =
    λ state jobs core world together.
    let up = ascending state old core world together.stands together.out.0 in
    let stepped = steps up in
    let is = running state old jobs was.at core world together stepped.has in
    let left = take (count_in old.span was.at)
    (drop (place_in old.span was.at) (content_of now.seen).bytes) in
    let torn = failed-left fault is.spans is.touched full writes in
    write-made state old new jobs was.at was.seen now.seen (Some left) left asked_old asked_new
    core world together is
    (record {
      stepped = stepped;
      full = full;
      long = torn.size;
      bytes_are = refl;
      is = torn.is;
      noted = noted;
      between = writes.works.between;
      reads = writes.works.reads;
      moments = writes.works.moments;
    })

-- ---- a flush

-- the core's job behind a flush
abbrev noted_flush : ℕ → Bool → JobView → Job
noted_flush at ok job = if ok then job_flushed at (core_job job) else core_job job

flush-step : (obeys_block keeps : Bool) (result : Result (Unit {0}) DeviceFault)
    (asked_old asked_new : List Asked) (old new : JobView) (was now : TileView) →
    Steps old new was now → length (content_of was.seen).bytes ≡ BLOCK_LEN →
    Flushes obeys_block keeps result asked_old was asked_new now →
    core_job new ≡ noted_flush was.at (is_ok result) old →
    StepMakes (events.Flush old.place was.at (is_ok result) ∷ []) asked_old old asked_new new
flush-step obeys_block keeps (Ok done) asked_old asked_new old new was now steps full flushes
    noted =
    λ state jobs core world together.
    let up = ascending state old core world together.stands together.out.0 in
    let stepped = steps up in
    flush-made state old new jobs was.at was.seen now.seen asked_old asked_new core world together
    (running state old jobs was.at core world together stepped.has)
    (record {
      stepped = stepped;
      full = full;
      moments = flush_moments (Ok done) flushes;
    }) (flush_kept done flushes) noted
flush-step obeys_block keeps (Err fault) asked_old asked_new old new was now steps full flushes
    noted =
    λ state jobs core world together.
    let up = ascending state old core world together.stands together.out.0 in
    let stepped = steps up in
    stalled-made state old new jobs was.at was.seen now.seen asked_old asked_new core world together
    (running state old jobs was.at core world together stepped.has)
    (record {
      stepped = stepped;
      full = full;
      moments = flush_moments (Err fault) flushes;
    }) (flush_stalled fault flushes) noted

-- ---- no step is left

still : (asked_old asked_new : List Asked) (old new : JobView) → asked_new ≡ asked_old →
    new ≡ old → StepMakes [] asked_old old asked_new new
still asked_old asked_new old new asks same =
    λ state jobs core world together.
    let stands = together.stands in
    record {
      run = tt;
      world = world;
      moments = λ n bound.
          subst (λ asked. WorldMoments (λ remains. Recovers state.ino n core remains) asked_old
          world asked world) (sym asks)
          (all_begun asked_old world tt
          (shown-recovers state.ino n core world (good core stands.follows.reached) stands.shows
          bound));
      stands = subst (λ (j : JobView). Together state (j ∷ jobs) core world) (sym same) together;
    }

-- ---- by turn

full-at : (tile : Option TileView) (was : TileView) → tile ≡ Some was → IsFull tile →
    length (content_of was.seen).bytes ≡ BLOCK_LEN
full-at tile was is full = subst (λ (o : Option TileView). IsFull o) is full

at-is : (tile : Option TileView) (was : TileView) → tile ≡ Some was → at_of tile ≡ was.at
at-is tile was is = ap at_of is

first-by : (old new : JobView) (was now : TileView) → old.first ≡ Some was → now.at ≡ was.at →
    new ≡ record old { first = Some now } → Steps old new was now
first-by old new was now here same is up =
    subst (λ (j : JobView). IsStepped old j was.at was.seen now.seen) (sym is)
    (first-stepped old was now here same up)

second-by : (old new : JobView) (was now : TileView) → old.second ≡ Some was → now.at ≡ was.at →
    new ≡ record old { second = Some now } → Steps old new was now
second-by old new was now here same is up =
    subst (λ (j : JobView). IsStepped old j was.at was.seen now.seen) (sym is)
    (second-stepped old was now here same up)

-- the tile is that of the new job
same-left : (ok : Bool) (old : JobView) (was now : TileView) (tile : Option TileView) →
    now.at ≡ was.at → tile ≡ Some now →
    left_by ok old.span (Some (record now { at = was.at })) ≡ left_by ok old.span tile
same-left ok old was now tile same is =
    ap (λ n. left_by ok old.span (Some (record now { at = n }))) (sym same)
    ∙ ap (λ (o : Option TileView). left_by ok old.span o) (sym is)

pub job-steps : JobStepsAreEvents
job-steps obeys_slots obeys_block keeps turns.WriteFirst result asked_old asked_new old new first
    second makes noted =
    let was = makes.was in
    let now = makes.now in
    let same : now.at ≡ was.at = ap (λ (t : TileView). t.at) makes.step.noted in
    let at : at_of old.first ≡ was.at = at-is old.first was makes.here in
    let behind : new.first ≡ Some now = ap (λ (j : JobView). j.first) makes.is in
    let event : List Event = events.BlockWrite old.place was.at
    (left_by (is_ok result) old.span (Some (record now { at = was.at }))) ∷ [] in
    let is : event ≡ turn_events turns.WriteFirst (is_ok result) old new =
    ap (λ left. events.BlockWrite old.place was.at left ∷ [])
    (same-left (is_ok result) old was now new.first same behind)
    ∙ ap (λ n. events.BlockWrite old.place n (left_by (is_ok result) old.span new.first) ∷ [])
    (sym at) in
    subst (λ list. StepMakes list asked_old old asked_new new) is
    (write-step obeys_slots obeys_block keeps result asked_old asked_new old new was now
    (first-by old new was now makes.here same makes.is)
    (full-at old.first was makes.here first) makes.step
    (noted ∙ ap (λ n. job_written n (is_ok result) (core_job old)) at))
job-steps obeys_slots obeys_block keeps turns.WriteSecond result asked_old asked_new old new first
    second makes noted =
    let was = makes.was in
    let now = makes.now in
    let same : now.at ≡ was.at = ap (λ (t : TileView). t.at) makes.step.noted in
    let at : at_of old.second ≡ was.at = at-is old.second was makes.here in
    let behind : new.second ≡ Some now = ap (λ (j : JobView). j.second) makes.is in
    let event : List Event = events.BlockWrite old.place was.at
    (left_by (is_ok result) old.span (Some (record now { at = was.at }))) ∷ [] in
    let is : event ≡ turn_events turns.WriteSecond (is_ok result) old new =
    ap (λ left. events.BlockWrite old.place was.at left ∷ [])
    (same-left (is_ok result) old was now new.second same behind)
    ∙ ap (λ n. events.BlockWrite old.place n (left_by (is_ok result) old.span new.second) ∷ [])
    (sym at) in
    subst (λ list. StepMakes list asked_old old asked_new new) is
    (write-step obeys_slots obeys_block keeps result asked_old asked_new old new was now
    (second-by old new was now makes.here same makes.is)
    (full-at old.second was makes.here second) makes.step
    (noted ∙ ap (λ n. job_written n (is_ok result) (core_job old)) at))
job-steps obeys_slots obeys_block keeps turns.FlushFirst result asked_old asked_new old new first
    second makes noted =
    let was = makes.was in
    let now = makes.now in
    let same : now.at ≡ was.at = ap (λ (t : TileView). t.at) makes.step.noted in
    let at : at_of old.first ≡ was.at = at-is old.first was makes.here in
    subst (λ n. StepMakes (events.Flush old.place n (is_ok result) ∷ []) asked_old old asked_new
    new) (sym at)
    (flush-step obeys_block keeps result asked_old asked_new old new was now
    (first-by old new was now makes.here same makes.is)
    (full-at old.first was makes.here first) makes.step
    (noted ∙ ap (λ n. noted_flush n (is_ok result) old) at))
job-steps obeys_slots obeys_block keeps turns.FlushSecond result asked_old asked_new old new first
    second makes noted =
    let was = makes.was in
    let now = makes.now in
    let same : now.at ≡ was.at = ap (λ (t : TileView). t.at) makes.step.noted in
    let at : at_of old.second ≡ was.at = at-is old.second was makes.here in
    subst (λ n. StepMakes (events.Flush old.place n (is_ok result) ∷ []) asked_old old asked_new
    new) (sym at)
    (flush-step obeys_block keeps result asked_old asked_new old new was now
    (second-by old new was now makes.here same makes.is)
    (full-at old.second was makes.here second) makes.step
    (noted ∙ ap (λ n. noted_flush n (is_ok result) old) at))
job-steps obeys_slots obeys_block keeps turns.Nothing result asked_old asked_new old new first
    second makes noted = still asked_old asked_new old new makes.1 makes.2
