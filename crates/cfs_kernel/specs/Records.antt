-- The 256 records of nodes: each is a node's, a removed file's, or free.
use Rattle.std.specs.Prelude.{ℕ, ◌≡◌, ◌<◌, ◌==◌, Bool, true, false, not, ◌&&◌, ◌||◌, List, length, Option, Some, None, find, is_some, set, if◌then◌else◌}
use Rattle.std.specs.List.{range_with_len}
use Rattle.cfs_dir.specs.declared.node.Node.{Node}
use Rattle.cfs_dir.specs.Namespace.{is_directory, node_at}
use Rattle.cfs_grants.specs.declared.free.FreeRecords.{FreeRecords}
use Rattle.cfs_grants.specs.declared.removed.Removed.{Removed}
use Rattle.cfs_grants.specs.Free.{is_free}
use Rattle.cfs_grants.specs.Removed.{row_of}

-- neither a node nor a removed file has the record
abbrev pub is_unused : List Node → List (Option Removed) → ℕ → Bool
is_unused nodes removed rec =
    not (is_some (node_at nodes rec)) && not (is_some (row_of removed rec))

unfoldable pub all_records : List ℕ
all_records = range_with_len 0 256

-- the lowest record that is not used: a node that is made takes it
abbrev pub unused_record : List Node → List (Option Removed) → Option ℕ
unused_record nodes removed = find (is_unused nodes removed) all_records

-- what is kept of the records: which are free; no removed file has a node's; and there are 256
pub record AreKept (nodes : List Node) (removed : List (Option Removed))
    (bits : FreeRecords) : Type 0 where
  pub free : (rec : ℕ) → rec < 256 → is_free bits rec ≡ is_unused nodes removed rec
  pub apart : (rec : ℕ) → is_some (row_of removed rec) ≡ true →
      is_some (node_at nodes rec) ≡ false
  pub within : (rec : ℕ) → is_some (node_at nodes rec) ≡ true → rec < 256
  pub size : length removed ≡ 256

-- a file that has no name any more is a removed file; a directory's record is free at once
abbrev pub buried : Option Node → List (Option Removed) → List (Option Removed)
buried None removed = removed
buried (Some node) removed =
    if is_directory node.kind then removed
    else set removed node.rec (Some record { ino = node.ino; by = None })

-- The record of a node that leaves: a directory's is free, and a file's is as it was.
abbrev pub IsFreed : Bool → ℕ → FreeRecords → FreeRecords → Type 0
IsFreed true rec old new =
    (other : ℕ) → other < 256 → is_free new other ≡ (other == rec || is_free old other)
IsFreed false rec old new = new ≡ old

abbrev pub AreFreed : Option Node → FreeRecords → FreeRecords → Type 0
AreFreed None old new = new ≡ old
AreFreed (Some node) old new = IsFreed (is_directory node.kind) node.rec old new
