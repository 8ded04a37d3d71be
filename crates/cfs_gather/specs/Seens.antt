-- The regions and the blocks that parts of a store hold, as they are seen, in the order in which
-- they are gathered.
use Rattle.std.specs.Prelude.{List, [], ◌∷◌, ◌++◌, Option, Some, None, map}
use Rattle.std.specs.List.{flat_map}
use Rattle.cfs_pmem.specs.Images.{Seen, WordStep}
use Rattle.cfs_block.specs.BlockImages.{BlockStep}
use Rattle.cfs_block.specs.declared.free_block.FreeBlock.{FreeBlock}
use Rattle.cfs_job.specs.Views.{JobView, TileView}
use Rattle.cfs_tracker.specs.declared.cell.Cell.{Cell}
use Rattle.cfs_tracker.specs.declared.cell.Cell.TheVariants as kinds
use Rattle.cfs_tracker.specs.declared.doing.Doing.{Doing}
use Rattle.cfs_tracker.specs.declared.doing.Doing.TheVariants as doings
use Rattle.cfs_tracker.specs.declared.in_doubt.InDoubt.{InDoubt}
use Rattle.cfs_tracker.specs.declared.pending.Pending.{Pending}
use Rattle.cfs_inode.specs.View.{Held, Seens, StateView}
use Rattle.cfs_active.specs.View.{ActiveView}
use Rattle.cfs_names.specs.declared.stored_tree.StoredTree.{StoredTree}
use Rattle.cfs_names.specs.StoredTrees.{records_in, tables_in}
use Rattle.cfs_queue.specs.Queue.{Slots, free_slots}
use Rattle.cfs_slot.specs.declared.staged.Staged.{Staged}
use Rattle.cfs_slot.specs.Regions.{of_staged, tails_of_staged}
use Rattle.cfs_kernel.specs.declared.ns_state.NsState.{NsState}
use Rattle.cfs_kernel.specs.States.{kernel_of, stored_of}

-- the slots of what is pending, where no job has them

abbrev pub slots_of_doing : Doing Held → Seens
slots_of_doing (doings.Waiting held) = held.slots
slots_of_doing doings.Marking = []
slots_of_doing (doings.Out first second) = []
slots_of_doing (doings.Covered held) = held.slots
slots_of_doing doings.Closing = []

abbrev pub slots_of_entry : Pending Held → Seens
slots_of_entry entry = slots_of_doing entry.doing

-- the slots of the request in doubt

abbrev pub slots_or_none : Option Seens → Seens
slots_or_none None = []
slots_or_none (Some slots) = slots

abbrev pub slots_in_doubt : Option (InDoubt Seens) → Seens
slots_in_doubt None = []
slots_in_doubt (Some doubt) = slots_or_none doubt.slots

-- the block that stands for a block of the file, where no job has it

abbrev pub block_of_cell : Cell (Seen BlockStep) → List (Seen BlockStep)
block_of_cell kinds.Hole = []
block_of_cell (kinds.Home block) = block ∷ []
block_of_cell (kinds.Unsure block) = block ∷ []
block_of_cell (kinds.Lent place) = []
block_of_cell (kinds.Moving is_sure) = []

-- those of an inode: of its size word, of what is pending and in doubt, and of its cells

abbrev pub seens_in_state : StateView → Seens
seens_in_state state =
    state.size ∷ (flat_map slots_of_entry state.tracker.entries
    ++ slots_in_doubt state.tracker.doubt)

abbrev pub blocks_in_state : StateView → List (Seen BlockStep)
blocks_in_state state = flat_map block_of_cell state.tracker.cells

-- those of a job that is out

abbrev pub block_of_tile : Option TileView → List (Seen BlockStep)
block_of_tile None = []
block_of_tile (Some tile) = tile.seen ∷ []

abbrev pub blocks_in_job : JobView → List (Seen BlockStep)
blocks_in_job job = block_of_tile job.first ++ block_of_tile job.second

-- those of the kernel's part: of its tree's checkpoint and journal, and the free slots of the queues
-- that are home

abbrev pub free_at : {X : Type 0} → (X → Seen WordStep) → Option (Slots X) → Seens
free_at see None = []
free_at see (Some queue) = map see (free_slots queue)

abbrev pub seens_in_tree : {R : Type 0} {g : _} → (R → Seen WordStep) → StoredTree R g → Seens
seens_in_tree see stored = tables_in see stored ++ records_in see stored

abbrev pub seens_in_kernel : {R : Type 0} {g : _} → (R → Seen WordStep) → NsState R g → Seens
seens_in_kernel see state =
    seens_in_tree see (stored_of state) ++ flat_map (free_at see) (kernel_of state).home

-- those of an inode with its jobs

abbrev pub seens_in_active : ActiveView → Seens
seens_in_active view =
    seens_in_state view.state ++ flat_map (λ job. job.slots) view.jobs

abbrev pub blocks_in_active : ActiveView → List (Seen BlockStep)
blocks_in_active view = blocks_in_state view.state ++ flat_map blocks_in_job view.jobs

-- of staged requests

abbrev pub seens_in_staged : {R : Type 0} {g : _} → (R → Seen WordStep) → Staged R g → Seens
seens_in_staged see staged = map see (of_staged staged ∷ tails_of_staged staged)

-- those of all parts: of the kernel's part, of the size words that no file has, of the staged requests
-- and of the inodes in use; and of the blocks that are free and of the inodes

abbrev pub seens_in_parts : {R : Type 0} {g : _} → (R → Seen WordStep) → NsState R g → List R
    → List (Staged R g) → List ActiveView → Seens
seens_in_parts see kernel sizes requests inodes =
    seens_in_kernel see kernel ++ (map see sizes
    ++ (flat_map (λ staged. seens_in_staged see staged) requests
    ++ flat_map seens_in_active inodes))

abbrev pub blocks_in_parts : {B : Type 0} {g : _} → (B → Seen BlockStep) → List (FreeBlock B g)
    → List ActiveView → List (Seen BlockStep)
blocks_in_parts see free inodes =
    map (λ one. see one.block) free ++ flat_map blocks_in_active inodes
