-- Regions and blocks together, and calls on one of them.
use Rattle.std.specs.Prelude.{ℕ, ◌≡◌, ◌⊎◌, Bool, true, List, [], ◌∷◌, ◌++◌, Result, is_err, OnOk, OnErr}
use Rattle.cfs_pmem.specs.declared.trace.Asked.{Asked}
use Rattle.cfs_pmem.specs.Images.{Seen, WordStep, IsImage, IsSetFrom}
use Rattle.cfs_pmem.specs.WordOps.{SetsWord}
use Rattle.cfs_pmem.specs.AllMoments.{AllMoments}
use Rattle.cfs_pmem.specs.Objects.{all_devices, IsCallOn, IsEachImage, IsImageBut}
use Rattle.cfs_block.specs.BlockImages.{BlockStep, Content, content_of, with_tag, IsBlockImage, IsTaggedFrom}
use Rattle.cfs_block.specs.BlockOps.{SetsTag}

-- the regions and the blocks, each list in an order of its own
pub record Devices : Type 0 where
  pub regions : List (Seen WordStep)
  pub blocks : List (Seen BlockStep)

abbrev pub numbers_of : Devices → List (List ℕ)
numbers_of devices = all_devices devices.regions ++ all_devices devices.blocks

-- what a crash leaves of them
pub record DeviceImages : Type 0 where
  pub words : List (List ℕ)
  pub contents : List Content

-- one image of each, in the devices' order
pub record AreImagesOf (devices : Devices) (images : DeviceImages) : Type 0 where
  pub words : IsEachImage IsImage devices.regions images.words
  pub contents : IsEachImage IsBlockImage devices.blocks images.contents

-- one call on one of the regions, or on one of the blocks
abbrev pub IsDeviceCall : List Asked → Devices → Devices → Type 0
IsDeviceCall asked old new =
    (IsCallOn asked old.regions new.regions × (new.blocks ≡ old.blocks)) ⊎
    (IsCallOn asked old.blocks new.blocks × (new.regions ≡ old.regions))

-- the moments of a call on these devices
abbrev pub DeviceMoments : (DeviceImages → Type 0) → List Asked → Devices → List Asked → Devices
    → Type 0
DeviceMoments P asked_old old asked_new new =
    AllMoments numbers_of AreImagesOf IsDeviceCall P asked_old old asked_new new

-- the region at one place has an image with P, and each other device an image of its own
pub record AreImagesButRegion (P : List ℕ → Type 0) (place : ℕ) (devices : Devices)
    (images : DeviceImages) : Type 0 where
  pub words : IsImageBut IsImage P place devices.regions images.words
  pub contents : IsEachImage IsBlockImage devices.blocks images.contents

-- and the block at one place
pub record AreImagesButBlock (P : Content → Type 0) (place : ℕ) (devices : Devices)
    (images : DeviceImages) : Type 0 where
  pub words : IsEachImage IsImage devices.regions images.words
  pub contents : IsImageBut IsBlockImage P place devices.blocks images.contents

-- one region and one block
abbrev pub pair_of : Seen WordStep → Seen BlockStep → Devices
pair_of region block = record { regions = region ∷ []; blocks = block ∷ [] }

-- images of a region and a block, of which first the tag is set and then a word
pub record IsTagThenWord (region : Seen WordStep) (block : Seen BlockStep) (tag at word : ℕ)
    (images : DeviceImages) : Type 0 where
  pub words : List ℕ
  pub content : Content
  pub is : images ≡ record { words = words ∷ []; contents = content ∷ [] }
  -- the word is as before as long as the tag is unsure
  pub order : (IsImage region.history words × IsTaggedFrom block tag content)
      ⊎ (IsSetFrom region at word words × (content ≡ with_tag tag (content_of block)))

-- A call sets the tag of a block and then, where that went well, a word of a region.
pub record TagsThenSets {T E : Type 0} (obeys_block keeps_refused obeys_region : Bool)
    (tag at word : ℕ) (result : Result T E)
    (asked_old : List Asked) (block_old : Seen BlockStep) (region_old : Seen WordStep)
    (asked_new : List Asked) (block_new : Seen BlockStep) (region_new : Seen WordStep)
    : Type 0 where
  -- what the first of the two answered, and the power's history between them
  pub tagged : Result T E
  pub between : List Asked
  pub first : SetsTag obeys_block keeps_refused tag tagged asked_old block_old between block_new
  pub second : OnOk tagged
      (SetsWord obeys_region at word result between region_old asked_new region_new)
  pub stopped : OnErr tagged
      ((is_err result ≡ true) × (asked_new ≡ between) × (region_new ≡ region_old))
