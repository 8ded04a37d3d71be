-- The checks of where a node stands in a tree. `at` is the offset of its first word.
use Rattle.std.specs.Prelude.{ℕ, ◌+◌, ◌&&◌, nat_lt, Bool, false, List, [], ◌∷◌, Option, Some, None, find, is_none}
use Rattle.std.specs.List.{flat_map}
use Rattle.std.specs.Option.{option_map_or}
use Rattle.cfs_dir.specs.declared.node.Node.{Node}
use Rattle.cfs_dir.specs.Namespace.{is_child, is_directory, node_of}
use Rattle.cfs_dir.specs.Tree.{leads_to_root}
use Rattle.cfs_image.specs.Checks.{Check, check}

-- whether an inode number is that of a directory
abbrev pub names_directory : List Node → ℕ → Bool
names_directory nodes ino = option_map_or (λ node. is_directory node.kind) (node_of nodes ino) false

-- the node of a lower record that has the same parent and name
abbrev pub twin_of : List Node → Node → Option Node
twin_of nodes node =
    find (λ other. nat_lt other.rec node.rec && is_child node.parent node.name other) nodes

-- the record of a node, or 0 where there is none
abbrev pub rec_of : Option Node → ℕ
rec_of None = 0
rec_of (Some node) = node.rec

-- The parent is a directory, no lower record has the same parent and name, and at most 16 parents
-- lead to the root.
abbrev pub place_checks : ℕ → List Node → Node → List Check
place_checks at nodes node =
    check (names_directory nodes node.parent) (at + 8) node.parent 0
    ∷ check (is_none (twin_of nodes node)) at node.rec (rec_of (twin_of nodes node))
    ∷ check (leads_to_root 16 nodes node.ino) at node.ino 16 ∷ []

-- Each of these nodes; the words of that of record r begin at `place r`.
unfoldable pub places_checks : (ℕ → ℕ) → List Node → List Check
places_checks place nodes = flat_map (λ node. place_checks (place node.rec) nodes node) nodes
