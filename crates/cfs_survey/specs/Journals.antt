-- The checks of the journal, whose 64 records have sixteen words each. `at` is the offset of the
-- first one.
use Rattle.std.specs.Prelude.{ℕ, ◌+◌, ◌-◌, ◌*◌, ◌%◌, ◌==◌, ◌||◌, List, [], ◌∷◌, ◌++◌}
use Rattle.std.specs.Prelude.{get_or, length, map, take}
use Rattle.std.specs.List.{range_with_len}
use Rattle.cfs_dir.specs.Change.{changed_by}
use Rattle.cfs_dir.specs.Namespace.{Namespace}
use Rattle.cfs_image.specs.Checks.{Check, check}
use Rattle.cfs_journal.specs.Records.{change_of, gate_of}
use Rattle.cfs_journal.specs.Standing.{walk}
use Rattle.cfs_survey.specs.Changes.{change_checks, placed_by}
use Rattle.cfs_survey.specs.Faults.{at_most, checks_from}
use Rattle.cfs_survey.specs.Tables.{row_at}

-- where the record at a position begins
abbrev pub record_at : ℕ → ℕ → ℕ
record_at at position = at + 128 * position

-- the position of the record that stands k behind a number
abbrev pub position_of : ℕ → ℕ → ℕ
position_of through k = (through + k) % 64

-- the records reached behind a number: as long as each stands at its position
abbrev pub reached : ℕ → List (List ℕ) → List (List ℕ)
reached through journal = walk 64 through journal

-- the tree after some of them
abbrev pub tree_after : Namespace → List (List ℕ) → Namespace
tree_after table changes = changed_by table (map change_of changes)

-- The offsets of the nodes' words in a table, by record; and after some records of the journal, of
-- which the first stands behind a number.
abbrev pub table_places : ℕ → List ℕ
table_places table_at = map (row_at table_at) (range_with_len 0 256)

abbrev pub places_after : ℕ → ℕ → List ℕ → List (List ℕ) → List ℕ
places_after at through places [] = places
places_after at through places (words ∷ rest) =
    places_after at (through + 1)
    (placed_by (record_at at (through % 64)) words places) rest

-- the k-th record reached, against the table and the records before it
abbrev pub reached_checks : ℕ → ℕ → Namespace → List ℕ → List (List ℕ) → ℕ → List Check
reached_checks at through table places changes k =
    change_checks (record_at at (position_of through k)) (tree_after table (take k changes))
    (places_after at through places (take k changes)) (get_or changes k [])

-- the number of the last record reached, or that of the table
abbrev pub last_reached : ℕ → List (List ℕ) → ℕ
last_reached through journal = through + length (reached through journal)

-- No gate is above that number: those up to the table's are spent. And each stands where it
-- belongs.
abbrev pub bound_checks : ℕ → List (List ℕ) → ℕ → ℕ → List Check
bound_checks at journal last position =
    at_most last (record_at at position) (gate_of (get_or journal position [])) ∷ []

abbrev pub home_check : ℕ → ℕ → ℕ → Check
home_check at position gate =
    check ((gate == 0) || ((gate - 1) % 64 == position)) (record_at at position) gate
    ((gate - 1) % 64)

abbrev pub home_checks : ℕ → List (List ℕ) → ℕ → List Check
home_checks at journal position =
    home_check at position (gate_of (get_or journal position [])) ∷ []

unfoldable pub changes_checks : ℕ → ℕ → Namespace → List ℕ → List (List ℕ) → List Check
changes_checks at through table places changes =
    checks_from (reached_checks at through table places changes) 0 (length changes)

unfoldable pub gates_checks : ℕ → List (List ℕ) → ℕ → List Check
gates_checks at journal last =
    checks_from (bound_checks at journal last) 0 64 ++ checks_from (home_checks at journal) 0 64

-- Each record reached against the tree of those before it, and then all gates. The table, whose
-- records begin at `table_at`, holds the tree through a number.
abbrev pub journal_checks : ℕ → ℕ → ℕ → Namespace → List (List ℕ) → List Check
journal_checks table_at at through table journal =
    changes_checks at through table (table_places table_at) (reached through journal)
    ++ gates_checks at journal (last_reached through journal)
