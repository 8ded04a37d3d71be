-- What stands once slots, size words and blocks of no file are swept.
use Rattle.std.specs.Prelude.{ℕ, ◌+◌, ◌<◌, List, [], ◌∷◌, length, get_or}
use Rattle.cfs_pmem.specs.Images.{Seen, WordStep}
use Rattle.cfs_home.specs.Calls.{with_size}
use Rattle.cfs_home.specs.Disks.{Disk, File, IsDead, IsNoNode, shut}
use Rattle.cfs_recover.specs.Words.{with_first}

-- ---- slots that are no live entry

abbrev pub AreDead : List File → Disk → List ℕ → Type 0
AreDead files disk places =
    (k : ℕ) → k < length places → IsDead files (get_or disk.slots (get_or places k 0) [])

-- their gates are closed and persisted, in their order
abbrev pub with_shut : List ℕ → List (Seen WordStep) → List (Seen WordStep)
with_shut [] regions = regions
with_shut (at ∷ places) regions = with_shut places (with_first (323 + at) 0 regions)

abbrev pub all_shut : List ℕ → Disk → Disk
all_shut [] disk = disk
all_shut (at ∷ places) disk = all_shut places (record disk { slots = shut at disk.slots })

-- ---- size words of no file

abbrev pub AreNoNodes : List File → List ℕ → Type 0
AreNoNodes files nodes = (k : ℕ) → k < length nodes → IsNoNode files (get_or nodes k 0)

-- they are set to 0 and persisted
abbrev pub with_no_sizes : List ℕ → List (Seen WordStep) → List (Seen WordStep)
with_no_sizes [] regions = regions
with_no_sizes (node ∷ nodes) regions = with_no_sizes nodes (with_first (67 + node) 0 regions)

abbrev pub all_empty : List ℕ → Disk → Disk
all_empty [] disk = disk
all_empty (node ∷ nodes) disk = all_empty nodes (with_size node 0 disk)
