-- Operations on a block.
use Rattle.std.specs.Prelude.{ℕ, ◌≡◌, ◌⊎◌, Bool, true, false, IsTrue, List, [], ◌∷◌, length, Result, OnOk, OnErr}
use Rattle.cfs_pmem.specs.declared.trace.Asked.{Asked}
use Rattle.cfs_pmem.specs.Images.{Seen}
use Rattle.cfs_pmem.specs.Moments.{Moments}
use Rattle.cfs_pmem.specs.Operations.{Ask, Does}
use Rattle.cfs_block.specs.BlockImages.{BlockStep, wrote, retagged, kept, unflushed, WriteFails, TagFails, IsBlockImage, IsSureBlock, IsTaggedFrom, IsUntagged, zeros}

pub data BlockOp : Type 0 where
  -- a read of bytes, and of the tag
  get_bytes : BlockOp
  get_tag : BlockOp
  -- a write of bytes from a place on
  put_bytes : ℕ → List ℕ → BlockOp
  put_tag : ℕ → BlockOp
  flush : BlockOp

abbrev pub block_writes : BlockOp → Bool
block_writes get_bytes = false
block_writes get_tag = false
block_writes (put_bytes from bytes) = true
block_writes (put_tag tag) = true
block_writes flush = true

abbrev pub block_asks : ℕ → BlockOp → Ask
block_asks device op = record { device = device; writing = block_writes op }

-- the block after an operation
abbrev pub block_done : BlockOp → Seen BlockStep → Seen BlockStep
block_done get_bytes seen = seen
block_done get_tag seen = seen
block_done (put_bytes from bytes) seen = wrote from bytes seen
block_done (put_tag tag) seen = retagged tag seen
block_done flush seen = kept seen

-- and after one that failed
abbrev pub BlockFails : Bool → BlockOp → Seen BlockStep → Seen BlockStep → Type 0
BlockFails keeps_refused get_bytes old new = new ≡ old
BlockFails keeps_refused get_tag old new = new ≡ old
BlockFails keeps_refused (put_bytes from bytes) old new =
    WriteFails keeps_refused from (length bytes) old new
BlockFails keeps_refused (put_tag tag) old new = TagFails keeps_refused tag old new
BlockFails keeps_refused flush old new = new ≡ unflushed old

-- a call does these operations on a block
abbrev pub DoesBlock : {T E : Type 0} → Bool → List BlockOp → Result T E → List Asked
    → Seen BlockStep → List Asked → Seen BlockStep → Type 0
DoesBlock keeps_refused ops result asked_old old asked_new new =
    Does (block_asks old.device) block_done (BlockFails keeps_refused) ops result
    asked_old old asked_new new

-- a tag is set and flushed
abbrev pub retag_ops : ℕ → List BlockOp
retag_ops tag = flush ∷ put_tag tag ∷ []

-- zeros are written over all bytes and flushed
abbrev pub zero_ops : List BlockOp
zero_ops = flush ∷ put_bytes 0 zeros ∷ []

-- A call sets the tag and flushes it.
pub record SetsTag {T E : Type 0} (obeys_power keeps_refused : Bool) (tag : ℕ) (result : Result T E)
    (asked_old : List Asked) (old : Seen BlockStep) (asked_new : List Asked)
    (new : Seen BlockStep) : Type 0 where
  pub ok : OnOk result (new ≡ kept (retagged tag old))
  pub sure : OnOk result (IsSureBlock new)
  -- it stopped at the tag, or at the flush
  pub err : OnErr result (TagFails keeps_refused tag old new ⊎ (new ≡ unflushed (retagged tag old)))
  pub does : IsTrue obeys_power → DoesBlock keeps_refused (retag_ops tag) result
      asked_old old asked_new new
  -- at each moment an image is one from before the call, or that with this tag
  pub moments : Moments IsBlockImage (IsTaggedFrom old tag) asked_old old asked_new new

-- A call writes zeros over all bytes of an untagged block and flushes them.
pub record Clears {T E : Type 0} (obeys_power keeps_refused : Bool) (result : Result T E)
    (asked_old : List Asked) (old : Seen BlockStep) (asked_new : List Asked)
    (new : Seen BlockStep) : Type 0 where
  pub ok : OnOk result (new ≡ kept (wrote 0 zeros old))
  -- it stopped at the write, or at the flush
  pub err : OnErr result
      (WriteFails keeps_refused 0 4096 old new ⊎ (new ≡ unflushed (wrote 0 zeros old)))
  pub does : IsTrue obeys_power → DoesBlock keeps_refused zero_ops result
      asked_old old asked_new new
  -- at each moment it is untagged in every image
  pub moments : Moments IsBlockImage IsUntagged asked_old old asked_new new
