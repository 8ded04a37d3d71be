-- What a tree is seen as: its nodes, by ascending record, and the next inode number.
use Rattle.std.specs.Prelude.{ℕ, ◌+◌, List, [], ◌∷◌, Bool, not, ◌&&◌, ◌==◌, true, false, nat_lt, Option, find, filter, if◌then◌else◌}
use Rattle.std.specs.List.{list_any}
use Rattle.std.specs.Str.{bytes_eq}
use Rattle.cfs_dir.specs.declared.kind.Kind.{Kind}
use Rattle.cfs_dir.specs.declared.kind.Kind.TheVariants.{Directory, File}
use Rattle.cfs_dir.specs.declared.node.Node.{Node}

pub record Namespace : Type 0 where
  pub nodes : List Node
  pub next : ℕ

-- the node of a record
abbrev pub node_at : List Node → ℕ → Option Node
node_at nodes rec = find (λ node. node.rec == rec) nodes

-- the node of an inode number
abbrev pub node_of : List Node → ℕ → Option Node
node_of nodes ino = find (λ node. node.ino == ino) nodes

-- whether a node stands in this directory under this name
abbrev pub is_child : ℕ → List ℕ → Node → Bool
is_child parent name node = (node.parent == parent) && bytes_eq node.name name

abbrev pub child_of : List Node → ℕ → List ℕ → Option Node
child_of nodes parent name = find (is_child parent name) nodes

-- whether some node stands in this directory
abbrev pub has_child : List Node → ℕ → Bool
has_child nodes parent = list_any (λ node. node.parent == parent) nodes

abbrev pub is_directory : Kind → Bool
is_directory Directory = true
is_directory File = false

-- the nodes with one more, before the first of a greater record
abbrev pub placed : Node → List Node → List Node
placed node [] = node ∷ []
placed node (first ∷ rest) =
    if nat_lt first.rec node.rec then first ∷ placed node rest else node ∷ first ∷ rest

-- the nodes but that of a record
abbrev pub without : ℕ → List Node → List Node
without rec nodes = filter (λ node. not (node.rec == rec)) nodes

-- the namespace after a node is made
abbrev pub with_node : Namespace → Node → Namespace
with_node namespace node = record { nodes = placed node namespace.nodes; next = namespace.next + 1 }

-- the namespace after a node is removed; its inode number is not used again
abbrev pub without_node : Namespace → Node → Namespace
without_node namespace node =
    record { nodes = without node.rec namespace.nodes; next = namespace.next }

-- the namespace before this node was made, where it was made last
abbrev pub without_last : Namespace → Node → Namespace
without_last namespace node = record { nodes = without node.rec namespace.nodes; next = node.ino }
