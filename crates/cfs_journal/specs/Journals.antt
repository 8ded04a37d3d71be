-- A journal as the contracts of its calls see it.
use Rattle.std.specs.Prelude.{ℕ, ◌+◌, List, length, map, Option}
use Rattle.std.proofs.Math.ListN.{get_or}
use Rattle.cfs_dir.specs.declared.change.Change.{Change}
use Rattle.cfs_journal.specs.Standing.{place}
use Rattle.cfs_journal.specs.declared.journal.Journal.{Journal}

-- its 64 regions
abbrev pub regions_of : {R : Type 0} {g : _} → Journal R g → List R
regions_of journal = journal.records.items

-- the changes since the last checkpoint
abbrev pub changes_of : {R : Type 0} {g : _} → Journal R g → List Change
changes_of journal = journal.changes.items

-- the number of the last checkpoint
abbrev pub through_of : {R : Type 0} {g : _} → Journal R g → ℕ
through_of journal = journal.through

-- the change that a fault left in doubt
abbrev pub doubt_of : {R : Type 0} {g : _} → Journal R g → Option Change
doubt_of journal = journal.doubt

-- the number of the next record, and the position of its region
abbrev pub next_number : {R : Type 0} {g : _} → Journal R g → ℕ
next_number journal = journal.through + length journal.changes.items + 1

abbrev pub next_place : {R : Type 0} {g : _} → Journal R g → ℕ
next_place journal = place journal.through (length journal.changes.items)

-- the faults that the region at a position has counted
abbrev pub faults_at : {R : Type 0} → (R → ℕ) → ℕ → List R → ℕ
faults_at faults position regions = get_or (map faults regions) position 0
