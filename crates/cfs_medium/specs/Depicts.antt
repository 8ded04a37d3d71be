-- When the words and bytes of a store are an image of a core.
use Rattle.std.specs.Prelude.{◌≡◌, ℕ, ◌+◌, ◌*◌, ◌<◌, true, false, Some, List, [], length, map, get_or}
use Rattle.std.specs.List.{Contains}
use Rattle.cfs_file.specs.declared.request.Request.{Request}
use Rattle.cfs_file.specs.declared.sizes.TheConstants.{BLOCK_LEN, FILE_BLOCKS}
use Rattle.cfs_core.specs.declared.image.Image.{Image}
use Rattle.cfs_core.specs.declared.inode_core.Core.{Core}
use Rattle.cfs_core.specs.Medium.{live_entries}
use Rattle.cfs_block.specs.BlockImages.{Content}
use Rattle.cfs_medium.specs.Store.{Store, entry_at, tag_of}

-- the block at a place in device order; where there is none, an empty one that is tagged for nobody
abbrev pub content_at : List Content → ℕ → Content
content_at blocks at = get_or blocks at (record { tag = 0; bytes = [] })

-- the block at that place is tagged for a file block of the inode
abbrev pub IsFor : ℕ → ℕ → List Content → ℕ → Type 0
IsFor ino block blocks at = (content_at blocks at).tag ≡ tag_of ino block

-- the gate and the request of each live entry of an image, in order
abbrev pub entries_of : Core → Image → List (ℕ × Request)
entries_of core image = map (λ e. (e.place, e.request)) (live_entries core image)

-- What the store has of the inode is this image of the core.
pub record Depicts (ino : ℕ) (store : Store) (core : Core) (image : Image) : Type 0 where
  pub size_is : store.size ≡ image.size
  -- the image has one tag for each file block
  pub tags_are : length image.tags ≡ FILE_BLOCKS
  -- where a tag of the image is set, a block is tagged for that file block, and where it is not,
  -- none is
  pub tagged : (block : ℕ) → block < FILE_BLOCKS → get_or image.tags block false ≡ true →
      (at : ℕ) × IsFor ino block store.blocks at
  pub is_set : (at block : ℕ) → block < FILE_BLOCKS → IsFor ino block store.blocks at →
      get_or image.tags block false ≡ true
  -- no second block is tagged for it
  pub alone : (first second block : ℕ) → block < FILE_BLOCKS → IsFor ino block store.blocks first →
      IsFor ino block store.blocks second →
      first ≡ second
  -- its bytes are those of the image at its positions
  pub bytes_are : (at block k : ℕ) → block < FILE_BLOCKS → IsFor ino block store.blocks at →
      k < BLOCK_LEN →
      get_or (content_at store.blocks at).bytes k 0 ≡ get_or image.bytes (BLOCK_LEN * block + k) 0
  -- each live slot holds a live entry of the image
  pub live : (at : ℕ) (entry : ℕ × Request) → entry_at ino store.slots at ≡ Some entry →
      Contains (entries_of core image) entry
  -- each live entry of the image stands in a slot, and in no second one
  pub held : (entry : ℕ × Request) → Contains (entries_of core image) entry →
      (at : ℕ) × (entry_at ino store.slots at ≡ Some entry)
  pub once : (first second : ℕ) (entry : ℕ × Request) →
      entry_at ino store.slots first ≡ Some entry → entry_at ino store.slots second ≡ Some entry →
      first ≡ second
