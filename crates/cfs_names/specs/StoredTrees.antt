-- A stored tree as the contracts of its calls see it.
use Rattle.std.specs.Prelude.{ℕ, ◌+◌, ◌^◌, ◌≡◌, ◌≤◌, ◌==◌, Bool, true, List, ◌++◌, length, map, Option}
use Rattle.cfs_dir.specs.declared.change.Change.{Change}
use Rattle.cfs_dir.specs.Namespace.{Namespace}
use Rattle.cfs_pmem.specs.Images.{Seen, WordStep}
use Rattle.cfs_pmem.specs.Objects.{seen_at}
use Rattle.cfs_ckpt.specs.declared.checkpoint.Checkpoint.{Checkpoint}
use Rattle.cfs_ckpt.specs.Checkpoints.{faults_of, seens_of, unsure_of, word_of}
use Rattle.cfs_ckpt.specs.Placed.{PlacedOp}
use Rattle.cfs_ckpt.specs.Stores.{store_ops}
use Rattle.cfs_journal.specs.declared.journal.Journal.{Journal}
use Rattle.cfs_journal.specs.Journals.{changes_of, doubt_of, faults_at, next_place, regions_of, through_of}
use Rattle.cfs_names.specs.Held.{Held}
use Rattle.cfs_names.specs.Steps.{Found}
use Rattle.cfs_names.specs.declared.stored_tree.StoredTree.{StoredTree}

abbrev pub tree_of : {R : Type 0} {g : _} → StoredTree R g → Namespace
tree_of stored = stored.tree

-- the change that a fault left in doubt
abbrev pub doubt_in : {R : Type 0} {g : _} → StoredTree R g → Option Change
doubt_in stored = doubt_of stored.journal

-- whether all 64 records of the journal stand
abbrev pub is_full : {R : Type 0} {g : _} → StoredTree R g → Bool
is_full stored = length (changes_of stored.journal) == 64

-- the number of the newest record
abbrev pub last_number : {R : Type 0} {g : _} → StoredTree R g → ℕ
last_number stored = through_of stored.journal + length (changes_of stored.journal)

-- its regions: the selector, the two copies and the records
abbrev pub tables_in : {R : Type 0} {g : _} → (R → Seen WordStep) → StoredTree R g
    → List (Seen WordStep)
tables_in see stored = seens_of see stored.checkpoint

abbrev pub records_in : {R : Type 0} {g : _} → (R → Seen WordStep) → StoredTree R g
    → List (Seen WordStep)
records_in see stored = map see (regions_of stored.journal)

abbrev pub seens_in : {R : Type 0} {g : _} → (R → Seen WordStep) → StoredTree R g
    → List (Seen WordStep)
seens_in see stored = tables_in see stored ++ records_in see stored

-- what a call that stores a change finds and leaves; the place is that of the next record
abbrev pub found_at : {R : Type 0} {g : _} → (R → Seen WordStep) → ℕ → StoredTree R g → Found
found_at see place stored = record {
  tables = tables_in see stored;
  unsure = unsure_of stored.checkpoint;
  next = seen_at (records_in see stored) place;
  doubt = doubt_in stored;
}

-- the place of the next record
abbrev pub place_in : {R : Type 0} {g : _} → StoredTree R g → ℕ
place_in stored = next_place stored.journal

-- the steps of the checkpoint that makes room for one more record
abbrev pub room_ops : {R : Type 0} {g : _} → StoredTree R g → List PlacedOp
room_ops stored = store_ops (unsure_of stored.checkpoint) (word_of stored.checkpoint)
    stored.tree (last_number stored)

-- all records stand, and the selector has no room for the number of the last
abbrev pub LacksRoom : {R : Type 0} {g : _} → StoredTree R g → Type 0
LacksRoom stored = (is_full stored ≡ true) × (2 ^ 63 ≤ last_number stored)

-- the counts of faults of the selector and the copies, and of the region of the next record
abbrev pub table_faults : {R : Type 0} {g : _} → (R → ℕ) → StoredTree R g → List ℕ
table_faults faults stored = faults_of faults stored.checkpoint

abbrev pub next_faults : {R : Type 0} {g : _} → (R → ℕ) → ℕ → StoredTree R g → ℕ
next_faults faults place stored = faults_at faults place (regions_of stored.journal)

abbrev pub journal_of : {R : Type 0} {g : _} → StoredTree R g → Journal R g
journal_of stored = stored.journal

abbrev pub checkpoint_of : {R : Type 0} {g : _} → StoredTree R g → Checkpoint R g
checkpoint_of stored = stored.checkpoint

abbrev pub held_of : {R : Type 0} {g : _} → StoredTree R g → Held
held_of stored = record {
  tree = stored.tree;
  changes = changes_of stored.journal;
  last = last_number stored;
  doubt = doubt_in stored;
}

-- nothing of it has changed
abbrev pub IsSame : {R : Type 0} {g : _} → StoredTree R g → StoredTree R g → Type 0
IsSame old new =
    (new.tree ≡ old.tree) × (new.journal ≡ old.journal) × (new.checkpoint ≡ old.checkpoint)
