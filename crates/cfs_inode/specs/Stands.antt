-- What the state of an inode, and jobs that are out, have to do with a core and its devices.
use Rattle.std.specs.Prelude.{ℕ, ◌≡◌, ◌≢◌, ◌<◌, Option, Some, None, List, [], ◌∷◌}
use Rattle.cfs_file.specs.declared.sizes.TheConstants.{FILE_BLOCKS}
use Rattle.cfs_pmem.specs.Images.{Seen}
use Rattle.cfs_block.specs.BlockImages.{AllBlockImages, BlockStep}
use Rattle.cfs_core.specs.declared.inode_core.Core.{Core}
use Rattle.cfs_core.specs.declared.state.State.TheVariants as states
use Rattle.cfs_core.specs.Words.{track}
use Rattle.cfs_job.specs.Steps.{core_job}
use Rattle.cfs_job.specs.Views.{JobView, TileView}
use Rattle.cfs_medium.specs.BlockEvents.{IsBlank}
use Rattle.cfs_medium.specs.Shows.{Shows}
use Rattle.cfs_medium.specs.Store.{tag_of}
use Rattle.cfs_medium.specs.World.{World}
use Rattle.cfs_tracker.specs.declared.cell.Cell.{Cell}
use Rattle.cfs_tracker.specs.declared.cell.Cell.TheVariants as kinds
use Rattle.cfs_tracker.specs.declared.doing.Doing.{Doing}
use Rattle.cfs_tracker.specs.declared.doing.Doing.TheVariants as doings
use Rattle.cfs_tracker.specs.declared.in_doubt.InDoubt.{InDoubt}
use Rattle.cfs_tracker.specs.declared.pending.Pending.{Pending}
use Rattle.cfs_tracker.specs.Cells.{cell_at, held_in}
use Rattle.cfs_tracker.specs.Follows.{Follows}
use Rattle.cfs_tracker.specs.View.{entry_at}
use Rattle.cfs_inode.specs.View.{Held, Seens, StateView}

-- ---- the state

-- the slots that are kept with an entry
abbrev pub slots_in : {S : Type 0} → Doing S → Option S
slots_in (doings.Waiting slots) = Some slots
slots_in doings.Marking = None
slots_in (doings.Out first second) = None
slots_in (doings.Covered slots) = Some slots
slots_in doings.Closing = None

-- The slots of an entry stand at its place, and were opened with it.
pub record AreHeld (place : ℕ) (held : Held) (world : World) : Type 0 where
  pub opened : held.place ≡ place
  pub here : world.slots place ≡ held.slots

-- Between calls no block is in a caller's hands, and one whose tag is unsure holds zeros in every
-- image, so that it may be tagged again.
abbrev pub IsAtRest : ℕ → ℕ → Cell (Seen BlockStep) → Type 0
IsAtRest ino block kinds.Hole = Unit {0}
IsAtRest ino block (kinds.Home seen) = Unit {0}
IsAtRest ino block (kinds.Unsure seen) = AllBlockImages seen (IsBlank (tag_of ino block))
IsAtRest ino block (kinds.Lent place) = Unit {0}
IsAtRest ino block (kinds.Moving is_sure) = ⊥

-- What the run time knows follows the core, and the devices show the same core. The state has the
-- region of the size word, the slots of what is pending and in doubt, and the blocks that no job
-- has. At the number in doubt stand the slots in doubt.
pub record Stands (state : StateView) (core : Core) (world : World) : Type 0 where
  pub follows : Follows state.tracker core
  pub shows : Shows state.ino core world
  pub size : world.size ≡ state.size
  pub slots : (place : ℕ) (entry : Pending Held) (held : Held) →
      entry_at state.tracker.entries place ≡ Some entry → slots_in entry.doing ≡ Some held →
      AreHeld place held world
  pub doubt : (doubt : InDoubt Seens) (slots : Seens) → state.tracker.doubt ≡ Some doubt →
      doubt.slots ≡ Some slots → world.slots doubt.place ≡ slots
  pub blocks : (block : ℕ) (seen : Seen BlockStep) → block < FILE_BLOCKS →
      held_in (cell_at state.tracker.cells block) ≡ Some seen → world.blocks block ≡ Some seen
  pub rest : (block : ℕ) → block < FILE_BLOCKS →
      IsAtRest state.ino block (cell_at state.tracker.cells block)

-- ---- jobs that are out

-- a job's block stands at its number in the file
abbrev pub IsHeld : Option TileView → (ℕ → Option (Seen BlockStep)) → Type 0
IsHeld None blocks = Unit {0}
IsHeld (Some tile) blocks = blocks tile.at ≡ Some tile.seen

-- The core has the job out, as far as it has come, and its slots and blocks stand where they are.
pub record JobStands (ino : ℕ) (job : JobView) (core : Core) (world : World) : Type 0 where
  pub ino_is : job.ino ≡ ino
  pub state : (track core.tracks job.place).state ≡ states.Out (core_job job)
  pub span : (track core.tracks job.place).span ≡ job.span
  pub slots : world.slots job.place ≡ job.slots
  pub first : IsHeld job.first world.blocks
  pub second : IsHeld job.second world.blocks

abbrev pub AllStand : ℕ → List JobView → Core → World → Type 0
AllStand ino [] core world = Unit {0}
AllStand ino (job ∷ jobs) core world = JobStands ino job core world × AllStand ino jobs core world

-- none of the jobs has this place
abbrev pub IsBeside : ℕ → List JobView → Type 0
IsBeside place [] = Unit {0}
IsBeside place (job ∷ jobs) = (job.place ≢ place) × IsBeside place jobs

-- no two of the jobs have one place
abbrev pub AreOnce : List JobView → Type 0
AreOnce [] = Unit {0}
AreOnce (job ∷ jobs) = IsBeside job.place jobs × AreOnce jobs

-- the state and these of its jobs
pub record Together (state : StateView) (jobs : List JobView) (core : Core)
    (world : World) : Type 0 where
  pub stands : Stands state core world
  pub out : AllStand state.ino jobs core world
  pub once : AreOnce jobs
