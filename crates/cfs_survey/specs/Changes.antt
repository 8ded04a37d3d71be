-- The checks of one record of the journal against the tree so far. `at` is the offset of the first
-- of its sixteen words; those of its node begin 24 bytes behind.
use Rattle.std.specs.Prelude.{ℕ, ◌+◌, ◌-◌, ◌==◌, ◌&&◌, not, min, nat_le, nat_lt, Bool, false}
use Rattle.std.specs.Prelude.{List, [], ◌∷◌, ◌++◌, get_or, set, take, drop, Option, Some, None}
use Rattle.std.specs.Prelude.{is_none, unwrap_or, if◌then◌else◌}
use Rattle.std.specs.Option.{option_map_or}
use Rattle.cfs_dir.specs.declared.node.Node.{Node}
use Rattle.cfs_dir.specs.Change.{changed}
use Rattle.cfs_dir.specs.Namespace.{Namespace, child_of, is_child, node_at}
use Rattle.cfs_dir.specs.Tree.{leads_to_root}
use Rattle.cfs_dir.specs.Words.{kind_word, node_in}
use Rattle.cfs_image.specs.Checks.{Check, check}
use Rattle.cfs_journal.specs.Records.{change_of}
use Rattle.cfs_survey.specs.Faults.{at_least, at_most, equal}
use Rattle.cfs_survey.specs.Fields.{field_checks}
use Rattle.cfs_survey.specs.Places.{names_directory, places_checks, rec_of}

-- the words of a record by name
abbrev pub operation_of : List ℕ → ℕ
operation_of words = get_or words 1 0

abbrev pub number_of : List ℕ → ℕ
number_of words = get_or words 2 0

abbrev pub ino_of : List ℕ → ℕ
ino_of words = get_or words 3 0

abbrev pub node_row : List ℕ → List ℕ
node_row words = take 12 (drop 3 words)

abbrev pub last_of : List ℕ → ℕ
last_of words = get_or words 15 0

-- the node that it tells
abbrev pub node_told : List ℕ → Node
node_told words = node_in (number_of words) (node_row words)

-- the inode number of a node, or 0 where there is none
abbrev pub ino_or : Option Node → ℕ
ino_or None = 0
ino_or (Some node) = node.ino

-- the least inode number of the nodes in a directory
abbrev pub lower_of : ℕ → Option ℕ → ℕ
lower_of ino None = ino
lower_of ino (Some other) = min ino other

abbrev pub lowest_child : List Node → ℕ → Option ℕ
lowest_child [] parent = None
lowest_child (node ∷ nodes) parent =
    if node.parent == parent then Some (lower_of node.ino (lowest_child nodes parent))
    else lowest_child nodes parent

-- no node stands in this directory; `at` is the offset that is named
abbrev pub empty_check : ℕ → List Node → ℕ → Check
empty_check at nodes ino =
    check (is_none (lowest_child nodes ino)) at ino (unwrap_or (lowest_child nodes ino) 0)

-- A node that is made goes to a free record, under a number that no node ever had, and meets the
-- checks of a node in the tree that it joins: against all of its nodes, since it is none of them.
abbrev pub joining_checks : ℕ → List Node → Node → List Check
joining_checks at nodes node =
    check (names_directory nodes node.parent) (at + 8) node.parent 0
    ∷ check (is_none (child_of nodes node.parent node.name)) at node.rec
    (rec_of (child_of nodes node.parent node.name))
    ∷ check (leads_to_root 15 nodes node.parent) at node.ino 16 ∷ []

abbrev pub new_checks : ℕ → Namespace → List ℕ → List Check
new_checks at tree words =
    at_most 255 (at + 16) (number_of words)
    ∷ check (is_none (node_at tree.nodes (number_of words))) (at + 16) (number_of words)
    (ino_or (node_at tree.nodes (number_of words)))
    ∷ at_least tree.next (at + 24) (ino_of words)
    ∷ check (nat_lt (ino_of words) 4294967296) (at + 24) (ino_of words) 4294967296 ∷ []

abbrev pub create_checks : ℕ → Namespace → List ℕ → List Check
create_checks at tree words =
    new_checks at tree words
    ++ (field_checks (at + 24) (node_row words)
    ++ joining_checks (at + 24) tree.nodes (node_told words))

-- a record holds a node of this inode number
abbrev pub held_check : ℕ → Option Node → ℕ → Check
held_check at None ino = check false at ino 0
held_check at (Some node) ino = equal node.ino at ino

-- a node that is removed or moved: its record holds it, and is not that of the root
abbrev pub standing_checks : ℕ → List Node → List ℕ → List Check
standing_checks at nodes words =
    held_check (at + 24) (node_at nodes (number_of words)) (ino_of words)
    ∷ check (not (number_of words == 0)) (at + 16) (number_of words) 0 ∷ []

abbrev pub remove_checks : ℕ → List Node → List ℕ → List Check
remove_checks at nodes words =
    standing_checks at nodes words ++ empty_check (at + 24) nodes (ino_of words) ∷ []

-- kind, mode, owner and group are those of the node that is moved; `at` is the offset of its words
abbrev pub kept_checks : ℕ → List ℕ → Node → List Check
kept_checks at row held =
    equal (kind_word held.kind) (at + 16) (get_or row 2 0)
    ∷ equal held.mode (at + 24) (get_or row 3 0)
    ∷ equal held.uid (at + 32) (get_or row 4 0)
    ∷ equal held.gid (at + 40) (get_or row 5 0) ∷ []

-- whether a record holds a node of this directory and name
abbrev pub has_place : Option Node → ℕ → List ℕ → Bool
has_place held parent name = option_map_or (is_child parent name) held false

-- the node that a move replaces: it is of the same kind, and no directory with a child
abbrev pub other_checks : ℕ → List Node → ℕ → Node → List Check
other_checks at nodes kind other =
    equal kind at (kind_word other.kind) ∷ empty_check at nodes other.ino ∷ []

-- It stands in the record that the last word names, which is another one, and where the moved node
-- goes. `at` is the offset of the last word.
abbrev pub named_checks : ℕ → List Node → Node → ℕ → ℕ → List Check
named_checks at nodes node kind last =
    check (not (last == node.rec + 1)) at last 0
    ∷ check (has_place (node_at nodes (last - 1)) node.parent node.name) at last 0
    ∷ option_map_or (other_checks at nodes kind) (node_at nodes (last - 1)) []

abbrev pub replaced_checks : ℕ → List Node → Node → ℕ → ℕ → List Check
replaced_checks at nodes node kind last =
    if last == 0 then [] else named_checks at nodes node kind last

-- The node that is moved is as it was but for its place; the record that it replaces is named.
abbrev pub moved_checks : ℕ → List Node → List ℕ → List Check
moved_checks at nodes words =
    standing_checks at nodes words
    ++ option_map_or (kept_checks (at + 24) (node_row words)) (node_at nodes (number_of words)) []

abbrev pub last_checks : ℕ → List Node → List ℕ → List Check
last_checks at nodes words =
    at_most 256 (at + 120) (last_of words)
    ∷ replaced_checks (at + 120) nodes (node_told words) (get_or (node_row words) 2 0)
    (last_of words)

abbrev pub move_checks : ℕ → List Node → List ℕ → List Check
move_checks at nodes words =
    at_most 255 (at + 16) (number_of words)
    ∷ (moved_checks at nodes words
    ++ (last_checks at nodes words ++ field_checks (at + 24) (node_row words)))

-- Where each node of a tree stands in it; the words of the node of record r begin at the r-th of
-- these offsets.
abbrev pub tree_checks : List ℕ → List Node → List Check
tree_checks places nodes = places_checks (λ rec. get_or places rec 0) nodes

-- the offsets of the nodes' words after a record; a node that is made or moved has its words there
abbrev pub placed_by : ℕ → List ℕ → List ℕ → List ℕ
placed_by at words places =
    if operation_of words == 2 then places else set places (number_of words) (at + 24)

-- After a move each node of the tree is checked again: the words of the others by themselves are as
-- before.
abbrev pub moving_checks : ℕ → Namespace → List ℕ → List ℕ → List Check
moving_checks at tree places words =
    move_checks at tree.nodes words
    ++ tree_checks (placed_by at words places) (changed tree (change_of words)).nodes

-- the change is one of the three, and meets the checks of its kind
abbrev pub operation_check : ℕ → ℕ → Check
operation_check at operation =
    check (nat_le 1 operation && nat_le operation 3) (at + 8) operation 3

abbrev pub kind_checks : ℕ → Namespace → List ℕ → List ℕ → ℕ → List Check
kind_checks at tree places words operation =
    if operation == 1 then create_checks at tree words
    else if operation == 2 then remove_checks at tree.nodes words
    else moving_checks at tree places words

abbrev pub change_checks : ℕ → Namespace → List ℕ → List ℕ → List Check
change_checks at tree places words =
    operation_check at (operation_of words)
    ∷ kind_checks at tree places words (operation_of words)
