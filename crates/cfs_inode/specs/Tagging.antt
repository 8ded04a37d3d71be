-- Blocks are tagged.
use Rattle.std.specs.Prelude.{ℕ, ◌≡◌, Bool, Option, Some, None, List, [], ◌∷◌, ◌++◌, map}
use Rattle.cfs_core.specs.declared.event.Event.TheVariants as events
use Rattle.cfs_pmem.specs.declared.trace.Asked.{Asked}
use Rattle.cfs_pmem.specs.Images.{Seen}
use Rattle.cfs_block.specs.BlockImages.{BlockStep}
use Rattle.cfs_block.specs.BlockOps.{SetsTag}
use Rattle.cfs_block.specs.declared.free_block.ZeroBlock.{ZeroBlock}
use Rattle.cfs_vec.specs.declared.fixed_vec.FixedVec.{FixedVec}
use Rattle.cfs_vec.specs.Items.{items_of}
use Rattle.cfs_medium.specs.Store.{tag_of}
use Rattle.cfs_slot.specs.declared.doubt.Doubt.{Doubt}
use Rattle.cfs_slot.specs.declared.live.Live.{Live}
use Rattle.cfs_tracker.specs.Cells.{tagged_cell, with_cell}
use Rattle.cfs_tracker.specs.View.{view_of}
use Rattle.cfs_inode.specs.declared.state.State.{State}
use Rattle.cfs_inode.specs.Makes.{CallMakes}
use Rattle.cfs_inode.specs.Marking.{answer_for}
use Rattle.cfs_inode.specs.Trims.{block_at, with_block_cell}
use Rattle.cfs_inode.specs.View.{StateView}

-- blocks, as they are seen
abbrev pub Blocks : Type 0
Blocks = List (Seen BlockStep)

-- a stock of blocks of zeros
abbrev pub stock_of : {B : Type 0} {g : _} {N : ℕ} → (B → Seen BlockStep) →
    FixedVec (ZeroBlock B g) N → Blocks
stock_of {B} {g} seen stock = map (λ (z : ZeroBlock B g). seen z.block) (items_of stock)

-- The block that is kept for the block of the file, since its last tag failed; else the last of the
-- stock.
abbrev pub IsTaken : Option (Seen BlockStep) → Seen BlockStep → Blocks → Blocks → Type 0
IsTaken (Some kept) home stock_old stock_new = (home ≡ kept) × (stock_new ≡ stock_old)
IsTaken None home stock_old stock_new = stock_old ≡ stock_new ++ home ∷ []

-- What `tag` leaves: the block is tagged for a block of the file and mapped there, or, where that
-- was not kept, its tag is unsure.
pub record Tags (obeys keeps : Bool) (block : ℕ) (kept : Bool) (asked_old : List Asked)
    (stock_old : Blocks) (old : StateView) (asked_new : List Asked) (stock_new : Blocks)
    (new : StateView) : Type 0 where
  pub home : Seen BlockStep
  pub now : Seen BlockStep
  pub taken : IsTaken (block_at old block) home stock_old stock_new
  pub sets : SetsTag {T = Unit {0}} {E = Unit {0}} obeys keeps (tag_of old.ino block)
      (answer_for kept) asked_old home asked_new now
  pub new_is : new ≡ with_block_cell block (tagged_cell now kept) old

-- the call is the tagging of the block
abbrev pub TagMakes : ℕ → Bool → List Asked → StateView → List Asked → StateView → Type 0
TagMakes block kept asked_old old asked_new new =
    CallMakes (events.Tag block kept ∷ []) asked_old old asked_new new

-- the same where the block is in the caller's hands
pub record TagsHome {R B : Type 0} {g : _} (seen : B → Seen BlockStep) (obeys keeps : Bool)
    (block : ℕ) (home : B) (kept : Bool) (asked_old : List Asked)
    (old : State R B (Live R g) (Doubt R g)) (asked_new : List Asked)
    (new : State R B (Live R g) (Doubt R g)) : Type 0 where
  pub now : B
  pub sets : SetsTag {T = Unit {0}} {E = Unit {0}} obeys keeps (tag_of old.ino block)
      (answer_for kept) asked_old (seen home) asked_new (seen now)
  pub tracker : view_of new.tracker ≡ with_cell block (tagged_cell now kept) (view_of old.tracker)
  pub ino : new.ino ≡ old.ino
  pub size : new.size ≡ old.size
