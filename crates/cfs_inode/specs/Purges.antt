-- The state of a file that is no longer in the tree is emptied.
use Rattle.std.specs.Prelude.{ℕ, ◌≡◌, Bool, true, false, Some, None, Ok, Err, List, [], get_or}
use Rattle.cfs_pmem.specs.declared.trace.Asked.{Asked}
use Rattle.cfs_pmem.specs.Images.{AllImages, Seen, WordStep}
use Rattle.cfs_block.specs.BlockImages.{BlockStep}
use Rattle.cfs_block.specs.BlockOps.{SetsTag}
use Rattle.cfs_core.specs.declared.inode_core.Core.{Core}
use Rattle.cfs_core.specs.Fresh.{IsEmpty}
use Rattle.cfs_medium.specs.SlotEvents.{Answer}
use Rattle.cfs_medium.specs.World.{World}
use Rattle.cfs_tracker.specs.declared.cell.Cell.TheVariants as kinds
use Rattle.cfs_tracker.specs.Purge.{is_in_use, next_kept, zero_unsure}
use Rattle.cfs_inode.specs.declared.purge_answer.PurgeAnswer.{PurgeAnswer}
use Rattle.cfs_inode.specs.declared.purge_answer.PurgeAnswer.TheVariants as answers
use Rattle.cfs_inode.specs.declared.size_answer.SizeAnswer.{SizeAnswer}
use Rattle.cfs_inode.specs.declared.size_answer.SizeAnswer.TheVariants as went
use Rattle.cfs_inode.specs.Finishing.{SetsSize, is_right}
use Rattle.cfs_inode.specs.New.{stored_state, stored_world}
use Rattle.cfs_inode.specs.Stands.{Stands, Together}
use Rattle.cfs_inode.specs.Trims.{block_at, with_block_cell}
use Rattle.cfs_inode.specs.View.{StateView}

-- the answer as plain data
pub data PurgeEnd : Type 0 where
  freed : (block : Seen BlockStep) → PurgeEnd
  done : PurgeEnd
  in_use : PurgeEnd
  failed : PurgeEnd

abbrev pub purge_end : {B : Type 0} {g : _} → (B → Seen BlockStep) → PurgeAnswer B g → PurgeEnd
purge_end seen (answers.Freed free) = freed (seen free.block)
purge_end seen answers.Done = done
purge_end seen answers.InUse = in_use
purge_end seen answers.Failed = failed

-- Nothing uses the state. The tag of the lowest block that is kept is taken away, or that failed.
pub record Untags (obeys keeps : Bool) (answer : Answer) (block : ℕ) (asked_old : List Asked)
    (old : StateView) (asked_new : List Asked) (now : Seen BlockStep) : Type 0 where
  pub unused : is_in_use old.tracker ≡ false
  pub lowest : next_kept old.tracker ≡ Some block
  pub was : Seen BlockStep
  pub here : block_at old block ≡ Some was
  pub sets : SetsTag obeys keeps 0 answer asked_old was asked_new now

-- Nothing uses the state, and no block is kept. The size word is set to 0, or that failed.
pub record Zeroes (obeys : Bool) (answer : SizeAnswer) (asked_old : List Asked) (old : StateView)
    (asked_new : List Asked) (size : Seen WordStep) : Type 0 where
  pub unused : is_in_use old.tracker ≡ false
  pub bare : next_kept old.tracker ≡ None
  pub sets : SetsSize obeys (is_right old.tracker.stored old.tracker.is_sure 0) 0 answer asked_old
      old.size asked_new size

-- where a call failed: at a tag, or at the write or the persist of the size word
pub data PurgeFailing : Type 0 where
  untagging : PurgeFailing
  writing : PurgeFailing
  keeping : PurgeFailing

-- It failed there: the block is kept with a tag that is unsure, or the size word is as it was, or
-- unsure.
abbrev pub PurgeFails : Bool → Bool → Bool → PurgeFailing → List Asked → StateView → List Asked →
    StateView → Type 0
PurgeFails words tags keeps untagging asked_old old asked_new new =
    (block : ℕ) × (now : Seen BlockStep)
    × Untags tags keeps (Err tt) block asked_old old asked_new now
    × (new ≡ with_block_cell block (kinds.Unsure now) old)
PurgeFails words tags keeps writing asked_old old asked_new new =
    (size : Seen WordStep) × Zeroes words went.Unwritten asked_old old asked_new size
    × (new ≡ record old { size = size })
PurgeFails words tags keeps keeping asked_old old asked_new new =
    (size : Seen WordStep) × Zeroes words went.Unkept asked_old old asked_new size
    × (new ≡ record old { size = size; tracker = zero_unsure old.tracker })

-- What `purge` leaves, by its answer. Whether words and tags obey the power, and whether a block
-- keeps what was refused, are the devices'.
abbrev pub Purges : Bool → Bool → Bool → PurgeEnd → List Asked → StateView → List Asked →
    StateView → Type 0
Purges words tags keeps (freed now) asked_old old asked_new new =
    (block : ℕ) × Untags tags keeps (Ok tt) block asked_old old asked_new now
    × (new ≡ with_block_cell block kinds.Hole old)
Purges words tags keeps done asked_old old asked_new new =
    (size : Seen WordStep) × Zeroes words went.Set asked_old old asked_new size
    × (new ≡ stored_state old.ino size 0 [])
Purges words tags keeps in_use asked_old old asked_new new =
    (is_in_use old.tracker ≡ true) × (asked_new ≡ asked_old) × (new ≡ old)
Purges words tags keeps failed asked_old old asked_new new =
    (at : PurgeFailing) × PurgeFails words tags keeps at asked_old old asked_new new

-- ---- the size word

-- it is 0 in every image
abbrev pub IsZero : Seen WordStep → Type 0
IsZero size = AllImages size (λ image. get_or image 0 0 ≡ 0)

-- where the state says so, it is
abbrev pub TellsZero : StateView → Type 0
TellsZero state =
    is_right state.tracker.stored state.tracker.is_sure 0 ≡ true → IsZero state.size

-- and so it is of each state that stands
abbrev pub StandingTellZero : Type 0
StandingTellZero =
    (state : StateView) (core : Core) (world : World) → Stands state core world → TellsZero state

-- ---- an empty file

-- a state of an empty file without blocks, with its inode number and its size word
abbrev pub IsEmptyState : StateView → Type 0
IsEmptyState state = state ≡ stored_state state.ino state.size 0 []

-- it stands, with no job beside it, for every core of an empty file
abbrev pub StandsEmpty : StateView → Type 0
StandsEmpty state =
    (core : Core) → IsEmpty core → Together state [] core (stored_world state.size [])

-- Once all is done, the state stands for every core of an empty file, where it told the size word
-- right before.
abbrev pub PurgeStands : PurgeEnd → StateView → StateView → Type 0
PurgeStands (freed now) old new = Unit {0}
PurgeStands done old new = TellsZero old → StandsEmpty new
PurgeStands in_use old new = Unit {0}
PurgeStands failed old new = Unit {0}
