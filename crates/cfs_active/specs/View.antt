-- The state of one inode and its jobs, as plain data.
use Rattle.std.specs.Prelude.{ℕ, ◌-◌, List, map, vec_capacity, vec_len}
use Rattle.cfs_block.specs.MemoryBlocks.{number_of, seen_of}
use Rattle.cfs_job.specs.Jobs.{job_view}
use Rattle.cfs_job.specs.Views.{JobView}
use Rattle.cfs_tracker.specs.View.{entry_room, read_room}
use Rattle.cfs_inode.specs.View.{StateView, state_view}
use Rattle.cfs_active.specs.Memory.{words_seen}
use Rattle.cfs_active.specs.declared.active.ActiveInode.{ActiveInode}

-- the state, and the jobs that are out
pub record ActiveView : Type 0 where
  pub state : StateView
  pub jobs : List JobView

abbrev pub active_view : ActiveInode → ActiveView
active_view active = record {
  state = state_view words_seen seen_of active.state;
  jobs = map (job_view words_seen seen_of number_of) active.jobs.items;
}

-- the state changed so, and the jobs as they were
abbrev pub with_state : (StateView → StateView) → ActiveView → ActiveView
with_state change view = record view { state = change view.state }

-- ---- room

-- for so many changes, reads and jobs there is room yet
abbrev pub change_room : ActiveInode → ℕ
change_room active = entry_room active.state.tracker

abbrev pub query_room : ActiveInode → ℕ
query_room active = read_room active.state.tracker

abbrev pub job_room : ActiveInode → ℕ
job_room active = vec_capacity active.jobs - vec_len active.jobs
