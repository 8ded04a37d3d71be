-- A record is emptied, whose file is no longer in the tree. That file has no core any more: what is
-- said is what each step does to its devices, and that no other device is touched. So at each moment
-- each of its blocks has its tag or none, and the size word is as it was until no block has one.
use Rattle.std.specs.Prelude.{ℕ, ◌≡◌, true, Option, Some, None, List, []}
use Rattle.cfs_pmem.specs.declared.trace.Asked.{Asked}
use Rattle.cfs_pmem.specs.Images.{Seen}
use Rattle.cfs_block.specs.BlockImages.{BlockStep}
use Rattle.cfs_block.specs.MemoryBlocks.{seen_of}
use Rattle.cfs_inode.specs.declared.size_answer.SizeAnswer.TheVariants as went
use Rattle.cfs_inode.specs.Purges as inode
use Rattle.cfs_inode.specs.View.{StateView}
use Rattle.cfs_granted.specs.declared.purge_answer.PurgeAnswer.{PurgeAnswer}
use Rattle.cfs_granted.specs.declared.purge_answer.PurgeAnswer.TheVariants as answers
use Rattle.cfs_granted.specs.Rows.{first_number}
use Rattle.cfs_granted.specs.View.{FileView, LifeView, ending, free, life, moving}

-- the answer as plain data
pub data PurgeEnd : Type 0 where
  freed : (block : Seen BlockStep) → PurgeEnd
  done : PurgeEnd
  in_use : (number : ℕ) → PurgeEnd
  failed : PurgeEnd

abbrev pub purge_end : PurgeAnswer → PurgeEnd
purge_end (answers.Freed one) = freed (seen_of one.block)
purge_end answers.Done = done
purge_end (answers.InUse number) = in_use number
purge_end answers.Failed = failed

-- One step of a state without a grant: the lowest block is free; or none is left, the size word is 0
-- and the record is free, with the inode number as its last; or that failed.
abbrev pub Empties : PurgeEnd → List Asked → StateView → List Asked → FileView → Type 0
Empties (freed block) asked_old old asked_new (ending new) =
    inode.Purges true true true (inode.freed block) asked_old old asked_new new
Empties failed asked_old old asked_new (ending new) =
    inode.Purges true true true inode.failed asked_old old asked_new new
Empties done asked_old old asked_new (free latest size) =
    (latest ≡ old.ino) × inode.Zeroes true went.Set asked_old old asked_new size
Empties _ asked_old old asked_new _ = ⊥

-- the same of a file with its grants, by the first of them
abbrev pub PurgesLife : Option ℕ → PurgeEnd → List Asked → LifeView → List Asked → FileView →
    Type 0
PurgesLife (Some number) end asked_old old asked_new new =
    (end ≡ in_use number) × (asked_new ≡ asked_old) × (new ≡ life old)
PurgesLife None end asked_old old asked_new new =
    (old.active.jobs ≡ []) × Empties end asked_old old.active.state asked_new new

-- What `purge` answers and leaves.
abbrev pub PurgesFile : PurgeEnd → List Asked → FileView → List Asked → FileView → Type 0
PurgesFile end asked_old (free latest size) asked_new new =
    (end ≡ done) × (asked_new ≡ asked_old) × (new ≡ free latest size)
PurgesFile end asked_old (life old) asked_new new =
    PurgesLife (first_number old.grants) end asked_old old asked_new new
PurgesFile end asked_old (ending old) asked_new new = Empties end asked_old old asked_new new
PurgesFile end asked_old moving asked_new new = ⊥
