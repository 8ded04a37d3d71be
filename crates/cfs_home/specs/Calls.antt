-- The disk that a crash leaves of a store's devices, and calls of a mount on one of them.
use Rattle.std.specs.Prelude.{ℕ, ◌+◌, ◌*◌, ◌<◌, ◌≤◌, ◌≡◌, ◌==◌, if◌then◌else◌, List, [], drop, take}
use Rattle.std.specs.Prelude.{get_or, nat_lt}
use Rattle.cfs_file.specs.declared.request.Request.{Request}
use Rattle.cfs_file.specs.declared.sizes.TheConstants.{BLOCK_LEN, FILE_BLOCKS}
use Rattle.cfs_file.specs.Span.{Touches}
use Rattle.cfs_pmem.specs.declared.trace.Asked.{Asked}
use Rattle.cfs_pmem.specs.Images.{Seen, WordStep, IsImage, IsSetFrom}
use Rattle.cfs_pmem.specs.Objects.{IsEachImage, IsImageBut, MomentsOf, seen_at}
use Rattle.cfs_block.specs.BlockImages.{BlockStep, Content, IsBlockImage, IsTaggedFrom}
use Rattle.cfs_block.specs.Devices.{DeviceImages, DeviceMoments, Devices}
use Rattle.cfs_medium.specs.Depicts.{IsFor}
use Rattle.cfs_home.specs.Disks.{AllStay, Disk, File}

-- Regions by device number: below 67 the front, from 67 on the size words of 256 records, from 323
-- on the slots.

abbrev pub size_in : List (List ℕ) → ℕ → ℕ
size_in words node = if nat_lt node 256 then get_or (get_or words (67 + node) []) 0 0 else 0

abbrev pub disk_of : DeviceImages → Disk
disk_of images = record {
  front = take 67 images.words;
  sizes = size_in images.words;
  slots = drop 323 images.words;
  blocks = images.contents;
}

-- at each moment of these calls a crash leaves a disk on which a mount finds the files of `start`
abbrev pub MountMoments : List File → Disk → List Asked → Devices → List Asked → Devices → Type 0
MountMoments files start asked_old old asked_new new =
    DeviceMoments (λ images. AllStay files start (disk_of images)) asked_old old asked_new new

-- ---- what a crash leaves before a call

-- these are the words of that disk
pub record AreWordsOf (disk : Disk) (words : List (List ℕ)) : Type 0 where
  pub front : take 67 words ≡ disk.front
  pub sizes : (node : ℕ) → size_in words node ≡ disk.sizes node
  pub slots : drop 323 words ≡ disk.slots

-- a crash leaves no other words, and no other blocks
abbrev pub HaveWordsOf : Disk → List (Seen WordStep) → Type 0
HaveWordsOf disk regions =
    (words : List (List ℕ)) → IsEachImage IsImage regions words → AreWordsOf disk words

abbrev pub HaveBlocksOf : Disk → List (Seen BlockStep) → Type 0
HaveBlocksOf disk blocks =
    (contents : List Content) → IsEachImage IsBlockImage blocks contents → contents ≡ disk.blocks

-- the disk with another size
abbrev pub with_size : ℕ → ℕ → Disk → Disk
with_size node size disk =
    record disk { sizes = λ other. if other == node then size else disk.sizes other }

-- ---- calls

-- The range of a block with this number is touched by the request: the block is tagged for a block
-- of the file.
pub record IsPiece (ino : ℕ) (request : Request) (blocks : List Content)
    (at from len : ℕ) : Type 0 where
  pub block : ℕ
  pub within : block < FILE_BLOCKS
  pub tag : IsFor ino block blocks at
  pub fits : from + len ≤ BLOCK_LEN
  pub touched : (k : ℕ) → from ≤ k → k < from + len → Touches request 0 (BLOCK_LEN * block + k)

-- the moments of a call that sets the first word of a region
abbrev pub SetsFirst : ℕ → ℕ → List Asked → List (Seen WordStep) → List Asked →
    List (Seen WordStep) → Type 0
SetsFirst place word asked_old old asked_new new =
    MomentsOf IsImage (IsImageBut IsImage (IsSetFrom (seen_at old place) 0 word) place old)
    asked_old old asked_new new

-- and of one that sets the tag of a block
abbrev pub SetsTagAt : ℕ → ℕ → List Asked → List (Seen BlockStep) → List Asked →
    List (Seen BlockStep) → Type 0
SetsTagAt place tag asked_old old asked_new new =
    MomentsOf IsBlockImage
    (IsImageBut IsBlockImage (IsTaggedFrom (seen_at old place) tag) place old)
    asked_old old asked_new new
