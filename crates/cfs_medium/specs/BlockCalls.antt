-- Calls on one block of an inode, and cores that differ there.
use Rattle.std.specs.Prelude.{ℕ, ◌/◌, ◌≡◌, ◌≢◌, get_or}
use Rattle.cfs_file.specs.declared.sizes.TheConstants.{BLOCK_LEN}
use Rattle.cfs_core.specs.declared.flag.Flag.TheVariants.{Off}
use Rattle.cfs_core.specs.declared.inode_core.Core.{Core}
use Rattle.cfs_core.specs.Medium.{is_loose}
use Rattle.cfs_pmem.specs.Images.{Seen}
use Rattle.cfs_block.specs.BlockImages.{BlockStep, Content, IsBlockImage, IsRangedFrom, IsTaggedFrom}
use Rattle.cfs_medium.specs.Shows.{holding}

-- the tag is set, bytes are written from a place on, or the block is flushed
pub data BlockCall : Type 0 where
  tagging : (tag : ℕ) → BlockCall
  writing : (from : ℕ) → (len : ℕ) → BlockCall
  flushing : BlockCall

-- what an image may be at a moment of such a call
abbrev pub MayBe : BlockCall → Seen BlockStep → Content → Type 0
MayBe (tagging tag) seen content = IsTaggedFrom seen tag content
MayBe (writing from len) seen content = IsRangedFrom seen from len content
MayBe flushing seen content = IsBlockImage seen.history content

-- the two know the same of every device but that block
pub record DiffersIn (block : ℕ) (core other : Core) : Type 0 where
  pub size : other.size ≡ core.size
  pub sizes : other.sizes ≡ core.sizes
  pub held : (place : ℕ) → holding other other.doubt place ≡ holding core core.doubt place
  pub tags : (at : ℕ) → at ≢ block → get_or other.tags at Off ≡ get_or core.tags at Off
  pub loose : (position : ℕ) → position / BLOCK_LEN ≢ block →
      is_loose other.loose position ≡ is_loose core.loose position
  pub bytes : (position : ℕ) → position / BLOCK_LEN ≢ block →
      get_or other.bytes position 0 ≡ get_or core.bytes position 0
