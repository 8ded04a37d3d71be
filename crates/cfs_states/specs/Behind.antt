-- Behind a mount's work on the devices all files are stored.
use Rattle.std.specs.Prelude.{ℕ, ◌+◌, ◌<◌, ◌≤◌, ◌≡◌, None, List, drop, get_or, length, take}
use Rattle.std.specs.List.{Contains}
use Rattle.cfs_pmem.specs.Images.{Seen, WordStep}
use Rattle.cfs_block.specs.BlockImages.{BlockStep}
use Rattle.cfs_dir.specs.declared.node.Node.{Node}
use Rattle.cfs_dir.specs.Tree.{IsTree}
use Rattle.cfs_home.specs.Disks.{Disk, File, recovered_in}
use Rattle.cfs_image.specs.Checks.{damage_of}
use Rattle.cfs_medium.specs.Depicts.{content_at}
use Rattle.cfs_plan.specs.Files.{files_of}
use Rattle.cfs_recover.specs.Held.{AreFull}
use Rattle.cfs_replay.specs.Plans.{IsBroughtHome}
use Rattle.cfs_replay.specs.Reading.{words_at}
use Rattle.cfs_survey.specs.Tags.{tags_checks}
use Rattle.cfs_states.specs.Stored.{AreStored, bytes_in}

-- the size regions among all regions
abbrev pub sizes_in : List (Seen WordStep) → List (Seen WordStep)
sizes_in regions = take 256 (drop 67 regions)

-- The devices are there, each size region with one word and each block with all its bytes.
pub record HaveSizes (regions : List (Seen WordStep)) (blocks : List (Seen BlockStep)) :
    Type 0 where
  pub many : 323 ≤ length regions
  pub words : (node : ℕ) → node < 256 → length (words_at regions (67 + node)) ≡ 1
  pub full : AreFull blocks

-- A survey found this tree, and had nothing to say of the tags, which were those of that disk.
pub record FoundTags (nodes : List Node) (next offset : ℕ) (tags : List ℕ) (first : Disk) :
    Type 0 where
  pub tree : IsTree nodes next
  pub sound : damage_of (tags_checks offset nodes tags) ≡ None
  pub read : (at : ℕ) → (content_at first.blocks at).tag ≡ get_or tags at 0

-- Where a mount that began there has brought all home, its files are stored, and have the bytes that
-- were to be found at the start.
abbrev pub BroughtHomeAreStored : Type 0
BroughtHomeAreStored =
    (nodes : List Node) (next offset : ℕ) (tags : List ℕ) (start first : Disk)
    (regions : List (Seen WordStep)) (blocks : List (Seen BlockStep)) →
    FoundTags nodes next offset tags first → HaveSizes regions blocks →
    IsBroughtHome (files_of nodes) start first regions blocks →
    AreStored (files_of nodes) (sizes_in regions) blocks
    × ((file : File) → Contains (files_of nodes) file →
    bytes_in file (sizes_in regions) blocks ≡ recovered_in file start)
