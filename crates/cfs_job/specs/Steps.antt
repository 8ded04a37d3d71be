-- The steps of a job: which come, and what each does.
use Rattle.std.specs.Prelude.{ℕ, ◌+◌, ◌≡◌, Bool, true, false, not, if◌then◌else◌, Option, Some, None, List, [], Result, is_ok}
use Rattle.std.specs.List.{flat_map}
use Rattle.cfs_core.specs.declared.state.Job.{Job}
use Rattle.cfs_core.specs.declared.state.Lease.{Lease}
use Rattle.cfs_core.specs.Jobs.{job_flushed, job_written}
use Rattle.cfs_pmem.specs.declared.trace.Asked.{Asked}
use Rattle.cfs_pmem.specs.Images.{Seen, WordStep, devices_of}
use Rattle.cfs_file.specs.declared.span.Span.{Span}
use Rattle.cfs_block.specs.BlockImages.{IsBlockImage, IsRangedFrom}
use Rattle.cfs_job.specs.declared.turn.Turn.{Turn}
use Rattle.cfs_job.specs.declared.turn.Turn.TheVariants as turns
use Rattle.cfs_job.specs.Ops.{WorksOn, count_in, flush_ops, place_in, write_ops}
use Rattle.cfs_job.specs.Views.{JobView, TileView}

abbrev pub is_unwritten : Option TileView → Bool
is_unwritten None = false
is_unwritten (Some tile) = not tile.written

abbrev pub is_unflushed : Option TileView → Bool
is_unflushed None = false
is_unflushed (Some tile) = not tile.flushed

-- Each block is written, the first one first, and then each is flushed.
abbrev pub next_turn : JobView → Turn
next_turn job =
    if is_unwritten job.first then turns.WriteFirst
    else (if is_unwritten job.second then turns.WriteSecond
    else (if is_unflushed job.first then turns.FlushFirst
    else (if is_unflushed job.second then turns.FlushSecond else turns.Nothing)))

abbrev pub one_if : Bool → ℕ
one_if test = if test then 1 else 0

-- how many steps are left
abbrev pub steps_left : JobView → ℕ
steps_left job =
    one_if (is_unwritten job.first) + one_if (is_unwritten job.second)
    + (one_if (is_unflushed job.first) + one_if (is_unflushed job.second))

-- A block's part of the request is written: the block is noted as written where that went well.
pub record Writes {T E : Type 0} (obeys_slots obeys_block keeps_refused : Bool)
    (slots : List (Seen WordStep)) (span : Span) (result : Result T E)
    (asked_old : List Asked) (old : TileView) (asked_new : List Asked) (new : TileView)
    : Type 0 where
  pub noted : new ≡ record old { seen = new.seen; written = is_ok result; flushed = false }
  pub works : WorksOn obeys_slots obeys_block keeps_refused
      (IsRangedFrom old.seen (place_in span old.at) (count_in span old.at))
      (flat_map devices_of slots) (write_ops slots span old.at) result
      asked_old old.seen asked_new new.seen

-- A block is flushed, and noted as flushed where that went well. No slot is read.
pub record Flushes {T E : Type 0} (obeys_block keeps_refused : Bool) (result : Result T E)
    (asked_old : List Asked) (old : TileView) (asked_new : List Asked) (new : TileView)
    : Type 0 where
  pub noted : new ≡ record old { seen = new.seen; flushed = is_ok result }
  pub works : WorksOn true obeys_block keeps_refused (IsBlockImage old.seen.history) []
      flush_ops result asked_old old.seen asked_new new.seen

-- `Step` was made on a block, and all else is as it was.
pub record IsStepOn {A : Type 0} (Step : TileView → TileView → Type 0) (tile : Option TileView)
    (with_tile : TileView → A) (new : A) : Type 0 where
  pub was : TileView
  pub now : TileView
  pub here : tile ≡ Some was
  pub is : new ≡ with_tile now
  pub step : Step was now

-- What a call of a job does, by its turn.
abbrev pub MakesTurn : {T E : Type 0} → (obeys_slots obeys_block keeps_refused : Bool) → Turn
    → Result T E → List Asked → JobView → List Asked → JobView → Type 0
MakesTurn obeys_slots obeys_block keeps turns.WriteFirst result asked_old old asked_new new =
    IsStepOn (λ was now. Writes obeys_slots obeys_block keeps old.slots old.span result
    asked_old was asked_new now)
    old.first (λ now. record old { first = Some now }) new
MakesTurn obeys_slots obeys_block keeps turns.WriteSecond result asked_old old asked_new new =
    IsStepOn (λ was now. Writes obeys_slots obeys_block keeps old.slots old.span result
    asked_old was asked_new now)
    old.second (λ now. record old { second = Some now }) new
MakesTurn obeys_slots obeys_block keeps turns.FlushFirst result asked_old old asked_new new =
    IsStepOn (λ was now. Flushes obeys_block keeps result asked_old was asked_new now)
    old.first (λ now. record old { first = Some now }) new
MakesTurn obeys_slots obeys_block keeps turns.FlushSecond result asked_old old asked_new new =
    IsStepOn (λ was now. Flushes obeys_block keeps result asked_old was asked_new now)
    old.second (λ now. record old { second = Some now }) new
MakesTurn obeys_slots obeys_block keeps turns.Nothing result asked_old old asked_new new =
    (is_ok result ≡ true) × (asked_new ≡ asked_old) × (new ≡ old)

-- ---- what the core notes of a job

abbrev pub lease_in : Option TileView → Option Lease
lease_in None = None
lease_in (Some tile) =
    Some (record { block = tile.at; written = tile.written; flushed = tile.flushed })

-- the job as the core has it
abbrev pub core_job : JobView → Job
core_job job = record { first = lease_in job.first; second = lease_in job.second }

abbrev pub at_of : Option TileView → ℕ
at_of None = 0
at_of (Some tile) = tile.at

-- That job behind the core's event of a turn: a write that went well or failed, or a flush, of
-- which one that failed changes nothing.
abbrev pub noted : Turn → Bool → JobView → Job
noted turns.WriteFirst ok job = job_written (at_of job.first) ok (core_job job)
noted turns.WriteSecond ok job = job_written (at_of job.second) ok (core_job job)
noted turns.FlushFirst ok job =
    if ok then job_flushed (at_of job.first) (core_job job) else core_job job
noted turns.FlushSecond ok job =
    if ok then job_flushed (at_of job.second) (core_job job) else core_job job
noted turns.Nothing ok job = core_job job
