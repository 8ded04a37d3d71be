-- The state of a record as plain data.
use Rattle.std.specs.Prelude.{ℕ, ◌-◌, ◌≡◌, Bool, true, false, List, vec_capacity, vec_len}
use Rattle.cfs_block.specs.MemoryBlocks.{seen_of}
use Rattle.cfs_pmem.specs.Images.{Seen, WordStep}
use Rattle.cfs_inode.specs.View.{StateView, state_view}
use Rattle.cfs_active.specs.Memory.{words_seen}
use Rattle.cfs_active.specs.View.{ActiveView, active_view}
use Rattle.cfs_active.specs.View as active
use Rattle.cfs_granted.specs.declared.file_state.FileState.{FileState}
use Rattle.cfs_granted.specs.declared.file_state.FileState.TheVariants as states
use Rattle.cfs_granted.specs.declared.life.Life.{Life}
use Rattle.cfs_granted.specs.declared.reader.Reader.{Reader}
use Rattle.cfs_granted.specs.Rows.{Rows}

-- ---- a file with its grants

-- the state with its jobs that are out, the grants by queue, and whose reads are pending
pub record LifeView : Type 0 where
  pub active : ActiveView
  pub grants : Rows
  pub readers : List Reader

abbrev pub life_view : Life → LifeView
life_view life = record {
  active = active_view life.active;
  grants = life.grants;
  readers = life.readers.items;
}

-- for so many changes, reads and jobs there is room yet
abbrev pub change_room : Life → ℕ
change_room life = active.change_room life.active

abbrev pub query_room : Life → ℕ
query_room life = active.query_room life.active

abbrev pub reader_room : Life → ℕ
reader_room life = vec_capacity life.readers - vec_len life.readers

abbrev pub job_room : Life → ℕ
job_room life = active.job_room life.active

-- ---- a record

-- Free, with the greatest inode number that it has had and the region of its size word; a file with
-- its grants; a file that is being emptied; or in the hands of a call.
pub data FileView : Type 0 where
  free : (latest : ℕ) (size : Seen WordStep) → FileView
  life : (view : LifeView) → FileView
  ending : (state : StateView) → FileView
  moving : FileView

abbrev pub file_view : FileState → FileView
file_view (states.Free it) = free it.latest (words_seen it.size)
file_view (states.Life it) = life (life_view it)
file_view (states.Ending it) = ending (state_view words_seen seen_of it.state)
file_view states.Moving = moving

-- it is not in the hands of a call
abbrev pub is_here : FileView → Bool
is_here (free latest size) = true
is_here (life view) = true
is_here (ending state) = true
is_here moving = false

-- the inode number of the file that it has, else 0
abbrev pub ino_in : FileView → ℕ
ino_in (free latest size) = 0
ino_in (life view) = view.active.state.ino
ino_in (ending state) = state.ino
ino_in moving = 0

-- ---- what stays

-- the grants, and whose reads are pending
pub record KeepsGrants (old new : LifeView) : Type 0 where
  pub grants : new.grants ≡ old.grants
  pub readers : new.readers ≡ old.readers
