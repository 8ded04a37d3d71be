-- A list of all live entries of the files, those of one file by ascending gate.
use Rattle.std.specs.Prelude.{ℕ, ◌<◌, ◌≡◌, List, [], ◌∷◌, Some, get_or}
use Rattle.std.specs.List.{Contains}
use Rattle.cfs_file.specs.declared.request.Request.{Request}
use Rattle.cfs_block.specs.BlockImages.{Content}
use Rattle.cfs_slot.specs.Words.{gate_of}
use Rattle.cfs_medium.specs.Store.{entry_at}
use Rattle.cfs_home.specs.Disks.{File, IsMapped, IsOnce}
use Rattle.cfs_replay.specs.declared.pending.Pending.{Pending}
use Rattle.cfs_replay.specs.Entries.{AreInOrder, file_of}

-- It is a live entry of one of the files, which has each block that it writes.
pub record IsEntry (files : List File) (slots : List (List ℕ)) (blocks : List Content)
    (pending : Pending) : Type 0 where
  pub live : ℕ × Request
  pub among : Contains files (file_of pending)
  pub here : entry_at pending.ino slots pending.slot ≡ Some live
  pub mapped : IsMapped pending.ino live.1 blocks

abbrev pub AreEntries : List File → List (List ℕ) → List Content → List Pending → Type 0
AreEntries files slots blocks entries =
    (pending : Pending) → Contains entries pending → IsEntry files slots blocks pending

-- each live entry of a file is listed
abbrev pub AreAll : List File → List (List ℕ) → List Pending → Type 0
AreAll files slots entries =
    (file : File) (at : ℕ) (live : ℕ × Request) → Contains files file →
    entry_at file.ino slots at ≡ Some live →
    (pending : Pending)
    × (Contains entries pending × ((pending.ino ≡ file.ino) × (pending.slot ≡ at)))

-- the gate of its slot
abbrev pub gate_in : List (List ℕ) → Pending → ℕ
gate_in slots pending = gate_of (get_or slots pending.slot [])

-- of one file the lower gate comes first
abbrev pub AreByGate : List (List ℕ) → List Pending → Type 0
AreByGate slots [] = Unit {0}
AreByGate slots (pending ∷ rest) =
    ((other : Pending) → Contains rest other → other.ino ≡ pending.ino →
    gate_in slots pending < gate_in slots other)
    × AreByGate slots rest

-- Where no file has one gate in two slots, such a list is in the order of the entries' replay.
abbrev pub ListedEntriesAreInOrder : Type 0
ListedEntriesAreInOrder =
    (files : List File) (slots : List (List ℕ)) (blocks : List Content) (entries : List Pending) →
    ((file : File) → Contains files file → IsOnce file.ino slots) →
    AreEntries files slots blocks entries → AreAll files slots entries →
    AreByGate slots entries → AreInOrder files slots blocks entries
