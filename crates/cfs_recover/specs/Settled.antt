-- What stands once a live entry is home.
use Rattle.std.specs.Prelude.{ℕ, ◌+◌, ◌≡◌, ◌≢◌, ◌==◌, if◌then◌else◌, List}
use Rattle.cfs_file.specs.declared.request.Request.{Request}
use Rattle.cfs_pmem.specs.Images.{Seen, WordStep}
use Rattle.cfs_medium.specs.Store.{by_gate, live_in}
use Rattle.cfs_home.specs.Calls.{with_size}
use Rattle.cfs_home.specs.Disks.{AreReady, Disk, File, IsLowest, shut}
use Rattle.std.specs.List.{Contains}
use Rattle.cfs_recover.specs.declared.entry.Entry.{Entry}
use Rattle.cfs_recover.specs.Words.{with_first}

-- the size word is set and persisted where it changes
abbrev pub with_size_word : Entry → List (Seen WordStep) → List (Seen WordStep)
with_size_word entry regions =
    if entry.size == entry.size_after then regions
    else with_first (67 + entry.node) entry.size_after regions

-- and then the gate is closed
abbrev pub with_entry_home : Entry → List (Seen WordStep) → List (Seen WordStep)
with_entry_home entry regions = with_first (323 + entry.slot) 0 (with_size_word entry regions)

-- the disk with the entry's size and without its gate
abbrev pub settled : Entry → Disk → Disk
settled entry disk =
    record (with_size entry.node entry.size_after disk) { slots = shut entry.slot disk.slots }

-- Then the rest of its file's live entries is left, and all those of other files.
abbrev pub RestIsLeft : Type 0
RestIsLeft =
    (files : List File) (file other : File) (entry : Entry) (live : ℕ × Request)
    (rest : List (ℕ × Request)) (disk : Disk) → AreReady files disk → Contains files file →
    IsLowest file entry.slot live rest disk →
    (by_gate (live_in file.ino (settled entry disk).slots) ≡ rest)
    × (other.ino ≢ file.ino →
    live_in other.ino (settled entry disk).slots ≡ live_in other.ino disk.slots)
