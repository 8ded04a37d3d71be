-- What a tracker and a core of its inode have to do with each other.
use Rattle.std.specs.Prelude.{◌≡◌, ℕ, ◌<◌, Bool, true, false, Option, Some, None, List, [], ◌∷◌, length, get_or}
use Rattle.cfs_file.specs.declared.sizes.TheConstants.{FILE_BLOCKS}
use Rattle.cfs_core.specs.declared.doubt.Doubt.{Doubt}
use Rattle.cfs_core.specs.declared.flag.Flag.{Flag}
use Rattle.cfs_core.specs.declared.flag.Flag.TheVariants as flags
use Rattle.cfs_core.specs.declared.inode_core.Core.{Core}
use Rattle.cfs_core.specs.declared.state.Job.{Job}
use Rattle.cfs_core.specs.declared.state.Lease.{Lease}
use Rattle.cfs_core.specs.declared.state.State.{State}
use Rattle.cfs_core.specs.declared.state.State.TheVariants as states
use Rattle.cfs_core.specs.declared.track.Track.{Track}
use Rattle.cfs_core.specs.Words.{has_block, track}
use Rattle.cfs_core.specs.Medium.{file}
use Rattle.cfs_core.specs.May.{is_sync_at}
use Rattle.cfs_core_laws.specs.Reached.{IsReached}
use Rattle.cfs_tracker.specs.declared.cell.Cell.{Cell}
use Rattle.cfs_tracker.specs.declared.cell.Cell.TheVariants as kinds
use Rattle.cfs_tracker.specs.declared.doing.Doing.{Doing}
use Rattle.cfs_tracker.specs.declared.doing.Doing.TheVariants as doings
use Rattle.cfs_tracker.specs.declared.in_doubt.InDoubt.{InDoubt}
use Rattle.cfs_tracker.specs.declared.pending.Pending.{Pending}
use Rattle.cfs_tracker.specs.declared.reading.Reading.{Reading}
use Rattle.cfs_tracker.specs.Cells.{cell_at}
use Rattle.cfs_tracker.specs.View.{TrackerView, entry_at, entry_place, read_at, reading_place}

abbrev pub block_of : Option Lease → Option ℕ
block_of None = None
block_of (Some lease) = Some lease.block

-- the job has these blocks, however far it has come
pub record HasJob (state : State) (first second : Option ℕ) : Type 0 where
  pub job : Job
  pub out : state ≡ states.Out job
  pub first_is : block_of job.first ≡ first
  pub second_is : block_of job.second ≡ second

abbrev pub IsDoing : {S : Type 0} → Doing S → State → Type 0
IsDoing (doings.Waiting slots) state = state ≡ states.Waiting
IsDoing doings.Marking state = state ≡ states.Waiting
IsDoing (doings.Out first second) state = HasJob state first second
IsDoing (doings.Covered slots) state = state ≡ states.Noop
IsDoing doings.Closing state = state ≡ states.Noop

abbrev pub is_dead : {S : Type 0} → Doing S → Bool
is_dead (doings.Covered slots) = true
is_dead doings.Closing = true
is_dead _ = false

-- the gate of a no-op may be closed, and so may that of an applied entry
abbrev pub gate_for : Bool → Bool → Flag
gate_for true applied = flags.Unsure
gate_for false true = flags.Unsure
gate_for false false = flags.On

pub record IsTrack {S : Type 0} (entry : Pending S) (t : Track) : Type 0 where
  pub grant : t.grant ≡ entry.grant
  pub span : t.span ≡ entry.span
  pub applied : t.applied ≡ entry.applied
  pub done : t.done ≡ entry.done
  pub doing : IsDoing entry.doing t.state
  pub gate : t.gate ≡ gate_for (is_dead entry.doing) entry.applied
  -- an applied entry needs no block any more
  pub idle : entry.applied ≡ true → (block : ℕ) → has_block t.state block ≡ false

pub record IsUnserved (read : Reading) (t : Track) : Type 0 where
  pub state : t.state ≡ states.Unserved
  pub span : t.span ≡ read.span

-- what is logged at a place: a pending entry, a pending read, or what is closed
abbrev pub StandsAt : {S : Type 0} → Option (Pending S) → Option Reading → Track → Type 0
StandsAt None None t = t.state ≡ states.Closed
StandsAt None (Some read) t = IsUnserved read t
StandsAt (Some entry) None t = IsTrack entry t
StandsAt (Some entry) (Some read) t = ⊥

abbrev pub flag_if : Bool → Flag
flag_if true = flags.On
flag_if false = flags.Unsure

-- the tag of a block of the file
abbrev pub CellStands : {B : Type 0} → Cell B → Flag → Type 0
CellStands kinds.Hole tag = tag ≡ flags.Off
CellStands (kinds.Home block) tag = tag ≡ flags.On
CellStands (kinds.Unsure block) tag = tag ≡ flags.Unsure
CellStands (kinds.Lent place) tag = tag ≡ flags.On
CellStands (kinds.Moving is_sure) tag = tag ≡ flag_if is_sure

pub record IsDoubt {D : Type 0} (mine : InDoubt D) (doubt : Doubt) : Type 0 where
  pub place : doubt.entry.place ≡ mine.place
  pub grant : doubt.grant ≡ mine.grant
  pub span : doubt.span ≡ mine.span

abbrev pub DoubtStands : {D : Type 0} → Option (InDoubt D) → Option Doubt → Type 0
DoubtStands None None = Unit {0}
DoubtStands (Some mine) (Some doubt) = IsDoubt mine doubt
DoubtStands None (Some doubt) = ⊥
DoubtStands (Some mine) None = ⊥

-- each has a greater place than the one before
abbrev pub Rise : {X : Type 0} → (X → ℕ) → ℕ → List X → Type 0
Rise at low [] = Unit {0}
Rise at low (x ∷ xs) = (low < at x) × Rise at (at x) xs

pub record Follows {S D B : Type 0} (view : TrackerView S D B) (core : Core) : Type 0 where
  pub reached : IsReached core
  pub up : core.crashed ≡ false
  pub count : length core.log ≡ view.count
  pub long : length (file core) ≡ view.long
  pub size : core.size ≡ view.stored
  pub sure : view.is_sure ≡ true → core.sizes ≡ []
  pub entries : (place : ℕ) →
      StandsAt (entry_at view.entries place) (read_at view.reads place) (track core.tracks place)
  pub rise : Rise entry_place 0 view.entries
  pub reads_rise : Rise reading_place 0 view.reads
  pub syncs : (place : ℕ) (read : Reading) → read_at view.reads place ≡ Some read →
      read.is_sync ≡ is_sync_at core.log place
  pub many : length view.cells ≡ FILE_BLOCKS
  pub cells : (block : ℕ) → block < FILE_BLOCKS →
      CellStands (cell_at view.cells block) (get_or core.tags block flags.Off)
  -- a block that a job has is lent to it
  pub lent : (place block : ℕ) → has_block (track core.tracks place).state block ≡ true →
      cell_at view.cells block ≡ kinds.Lent place
  pub doubt : DoubtStands view.doubt core.doubt
