-- The checks of a table, which has 3073 words. `at` is the offset of the first one.
use Rattle.std.specs.Prelude.{ℕ, ◌+◌, ◌*◌, ◌==◌, nat_lt, List, [], ◌∷◌, ◌++◌, get_or, take, drop, is_none, if◌then◌else◌}
use Rattle.cfs_dir.specs.declared.node.Node.{Node}
use Rattle.cfs_dir.specs.Namespace.{node_of}
use Rattle.cfs_dir.specs.Words.{node_in, nodes_in, table_in}
use Rattle.cfs_image.specs.Checks.{Check, check}
use Rattle.cfs_survey.specs.Faults.{at_least, at_most, checks_from}
use Rattle.cfs_survey.specs.Fields.{field_checks, root_checks}
use Rattle.cfs_survey.specs.Places.{places_checks, rec_of}

-- the next inode number
unfoldable pub next_checks : ℕ → ℕ → List Check
next_checks at next = at_least 2 at next ∷ at_most 4294967296 at next ∷ []

-- the words of a record, and where they begin
abbrev pub row : List ℕ → ℕ → List ℕ
row words rec = take 12 (drop (1 + 12 * rec) words)

abbrev pub row_at : ℕ → ℕ → ℕ
row_at at rec = at + 8 * (1 + 12 * rec)

-- the node that stands in the words of a record, or none
abbrev pub standing : ℕ → List ℕ → List Node
standing rec words = if get_or words 0 0 == 0 then [] else node_in rec words ∷ []

-- the nodes of the records below this one
abbrev pub nodes_below : List ℕ → ℕ → List Node
nodes_below words rec = nodes_in rec 0 (drop 1 words)

-- the inode number is below the next one, and no lower record has it
abbrev pub number_checks : ℕ → ℕ → ℕ → List Node → List Check
number_checks at ino next lower =
    check (nat_lt ino next) at ino next
    ∷ check (is_none (node_of lower ino)) at ino (rec_of (node_of lower ino)) ∷ []

-- a record that is not free, by itself
abbrev pub record_checks : ℕ → List ℕ → ℕ → List Check
record_checks at words rec =
    if get_or (row words rec) 0 0 == 0 then []
    else number_checks (row_at at rec) (get_or (row words rec) 0 0) (get_or words 0 0)
    (nodes_below words rec) ++ field_checks (row_at at rec) (row words rec)

-- the root, and then each other record, ascending
unfoldable pub records_checks : ℕ → List ℕ → List Check
records_checks at words =
    root_checks (row_at at 0) (row words 0) ++ checks_from (record_checks at words) 1 255

-- The next number, each record by itself, and then each node in the tree of all of them, ascending.
-- The root passes the last of these wherever it passes its own.
abbrev pub table_checks : ℕ → List ℕ → List Check
table_checks at words =
    next_checks at (get_or words 0 0)
    ++ (records_checks at words ++ places_checks (row_at at) (table_in words).nodes)
