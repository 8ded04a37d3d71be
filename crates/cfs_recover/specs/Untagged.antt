-- What stands once blocks that are tagged for no file are untagged.
use Rattle.std.specs.Prelude.{ℕ, ◌<◌, List, [], ◌∷◌, length, get_or, set}
use Rattle.cfs_pmem.specs.Images.{Seen}
use Rattle.cfs_pmem.specs.Objects.{seen_at}
use Rattle.cfs_block.specs.BlockImages.{BlockStep, kept, retagged, with_tag}
use Rattle.cfs_medium.specs.Depicts.{content_at}
use Rattle.cfs_home.specs.Disks.{Disk, File, IsNoTag}

abbrev pub AreNoTags : List File → Disk → List ℕ → Type 0
AreNoTags files disk places =
    (k : ℕ) → k < length places → IsNoTag files (content_at disk.blocks (get_or places k 0)).tag

abbrev pub with_untagged_at : ℕ → List (Seen BlockStep) → List (Seen BlockStep)
with_untagged_at at blocks = set blocks at (kept (retagged 0 (seen_at blocks at)))

-- they are untagged and flushed, in their order
abbrev pub with_untagged : List ℕ → List (Seen BlockStep) → List (Seen BlockStep)
with_untagged [] blocks = blocks
with_untagged (at ∷ places) blocks = with_untagged places (with_untagged_at at blocks)

abbrev pub untagged_at : ℕ → Disk → Disk
untagged_at at disk =
    record disk { blocks = set disk.blocks at (with_tag 0 (content_at disk.blocks at)) }

abbrev pub all_untagged : List ℕ → Disk → Disk
all_untagged [] disk = disk
all_untagged (at ∷ places) disk = all_untagged places (untagged_at at disk)
