-- The job of an entry: which blocks it takes, and what its steps note.
use Rattle.std.specs.Prelude.{ℕ, ◌==◌, Bool, true, false, ◌&&◌, if◌then◌else◌, Option, Some, None, List, length, get_or, nat_lt, find}
use Rattle.std.specs.List.{range_with_len}
use Rattle.cfs_file.specs.Span.{meets}
use Rattle.cfs_file.specs.declared.sizes.TheConstants.{FILE_BLOCKS}
use Rattle.cfs_core.specs.declared.flag.Flag.{Flag}
use Rattle.cfs_core.specs.declared.flag.Flag.TheVariants.{Off}
use Rattle.cfs_core.specs.declared.state.Lease.{Lease}
use Rattle.cfs_core.specs.declared.state.Job.{Job}
use Rattle.cfs_core.specs.declared.state.State.{State}
use Rattle.cfs_core.specs.declared.state.State.TheVariants.{Out}
use Rattle.cfs_core.specs.declared.track.Track.{Track}
use Rattle.cfs_core.specs.Words.{block_span, is_lent, is_on}

-- behind the blocks that are done
abbrev pub is_above : Option ℕ → ℕ → Bool
is_above None block = true
is_above (Some last) block = nat_lt last block

-- the block is mapped, holds a position of the entry, and stands behind those that are done
abbrev pub is_wanted : List Flag → Track → Option ℕ → ℕ → Bool
is_wanted tags t done block =
    nat_lt block FILE_BLOCKS
    && (is_above done block
    && (is_on (get_or tags block Off) && meets t.span (block_span block)))

abbrev pub next_block : List Flag → Track → Option ℕ → Option ℕ
next_block tags t done = find (is_wanted tags t done) (range_with_len 0 (length tags))

abbrev pub lease_of : Option ℕ → Option Lease
lease_of None = None
lease_of (Some block) = Some (record { block = block; written = false; flushed = false })

abbrev pub job_from : List Flag → Track → Option ℕ → Job
job_from tags t None = record { first = None; second = None }
job_from tags t (Some block) =
    record { first = lease_of (Some block); second = lease_of (next_block tags t (Some block)) }

-- The blocks that the next job takes: the next two that are wanted, and none where the entry is
-- applied.
abbrev pub next_job : List Flag → Track → Job
next_job tags t =
    if t.applied then record { first = None; second = None }
    else job_from tags t (next_block tags t t.done)

-- a job has one of the blocks
abbrev pub is_taken : List Track → Option Lease → Bool
is_taken tracks None = false
is_taken tracks (Some lease) = is_lent tracks lease.block

-- what a job notes of a write: a write that failed left what it left
abbrev pub lease_written : ℕ → Bool → Lease → Lease
lease_written block ok lease =
    if lease.block == block then record { block = lease.block; written = ok; flushed = false }
    else lease

abbrev pub note_write : ℕ → Bool → Option Lease → Option Lease
note_write block ok None = None
note_write block ok (Some lease) = Some (lease_written block ok lease)

-- what a job notes of a flush
abbrev pub lease_flushed : ℕ → Lease → Lease
lease_flushed block lease =
    if lease.block == block
    then record { block = lease.block; written = lease.written; flushed = lease.written }
    else lease

abbrev pub note_flush : ℕ → Option Lease → Option Lease
note_flush block None = None
note_flush block (Some lease) = Some (lease_flushed block lease)

abbrev pub job_written : ℕ → Bool → Job → Job
job_written block ok job =
    record { first = note_write block ok job.first; second = note_write block ok job.second }

abbrev pub job_flushed : ℕ → Job → Job
job_flushed block job =
    record { first = note_flush block job.first; second = note_flush block job.second }

abbrev pub state_written : ℕ → Bool → State → State
state_written block ok (Out job) = Out (job_written block ok job)
state_written block ok state = state

abbrev pub state_flushed : ℕ → State → State
state_flushed block (Out job) = Out (job_flushed block job)
state_flushed block state = state

-- the last block that is done once a job's blocks are done too; the second stands behind the first
abbrev pub last_of : Option ℕ → Option Lease → Option Lease → Option ℕ
last_of last None None = last
last_of last (Some lease) None = Some lease.block
last_of last first (Some lease) = Some lease.block

abbrev pub done_after : Option ℕ → State → Option ℕ
done_after done (Out job) = last_of done job.first job.second
done_after done _ = done
