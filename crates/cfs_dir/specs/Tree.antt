-- Which nodes make a tree.
use Rattle.std.specs.Prelude.{◌≡◌, ◌≢◌, ℕ, zero, suc, ◌+◌, ◌≤◌, ◌<◌, ◌^◌, List, [], ◌∷◌, ◌==◌, Bool, true, false, IsTrue, Some, None, IsSomeAnd, All, if◌then◌else◌}
use Rattle.std.specs.Option.{option_map_or}
use Rattle.cfs_dir.specs.declared.kind.Kind.TheVariants.{Directory}
use Rattle.cfs_dir.specs.declared.node.Node.{Node}
use Rattle.cfs_dir.specs.Name.{IsNodeName}
use Rattle.cfs_dir.specs.Namespace.{Namespace, node_at, node_of, child_of, placed, without}

-- the root stands in itself and has no name
pub record IsRoot (node : Node) : Type 0 where
  pub ino : node.ino ≡ 1
  pub parent : node.parent ≡ 1
  pub name : node.name ≡ []
  pub kind : node.kind ≡ Directory

-- the root of a new tree
abbrev pub root_of : ℕ → ℕ → ℕ → Node
root_of mode uid gid = record {
  ino = 1;
  parent = 1;
  name = [];
  kind = Directory;
  mode = mode;
  uid = uid;
  gid = gid;
  rec = 0;
}

-- the nodes stand by ascending record, and the first record is at least `least`
abbrev pub AreAscendingFrom : ℕ → List Node → Type 0
AreAscendingFrom least [] = Unit {0}
AreAscendingFrom least (node ∷ nodes) = (least ≤ node.rec) × AreAscendingFrom (suc node.rec) nodes

-- whether at most so many parents lead from an inode number to the root's
unfoldable pub leads_to_root : ℕ → List Node → ℕ → Bool
leads_to_root zero nodes ino = ino == 1
leads_to_root (suc steps) nodes ino =
    if ino == 1 then true
    else option_map_or (λ node. leads_to_root steps nodes node.parent) (node_of nodes ino) false

-- `next` is the next inode number; a node is the one that its inode number finds, and the one that
-- its parent and name find
pub record IsTree (nodes : List Node) (next : ℕ) : Type 0 where
  pub next_low : 2 ≤ next
  pub next_high : next ≤ 2 ^ 32
  pub ascending : AreAscendingFrom 0 nodes
  pub records : All (λ node. node.rec < 256) nodes
  pub root : IsSomeAnd (node_at nodes 0) IsRoot
  pub numbers : All (λ node. (1 ≤ node.ino) × (node.ino < next)) nodes
  pub number_once : All (λ node. node_of nodes node.ino ≡ Some node) nodes
  pub modes : All (λ node. node.mode ≤ 511) nodes
  pub owners : All (λ node. (node.uid < 2 ^ 32) × (node.gid < 2 ^ 32)) nodes
  pub names : All (λ node. node.ino ≢ 1 → IsNodeName node.name) nodes
  pub name_once : All (λ node. child_of nodes node.parent node.name ≡ Some node) nodes
  pub parents : All (λ node. IsSomeAnd (node_of nodes node.parent)
      (λ parent. parent.kind ≡ Directory)) nodes
  pub depths : All (λ node. IsTrue (leads_to_root 16 nodes node.ino)) nodes

-- a node that may join a tree: it has the next inode number, its record and its name are free, and
-- the tree with it is one
pub record CanJoin (namespace : Namespace) (node : Node) : Type 0 where
  pub number : node.ino ≡ namespace.next
  pub free : node_at namespace.nodes node.rec ≡ None
  pub unnamed : child_of namespace.nodes node.parent node.name ≡ None
  pub whole : IsTree (placed node namespace.nodes) (namespace.next + 1)

-- a node that may leave a tree
pub record CanLeave (namespace : Namespace) (node : Node) : Type 0 where
  pub stands : node_at namespace.nodes node.rec ≡ Some node
  pub whole : IsTree (without node.rec namespace.nodes) namespace.next

-- a node that may be taken back, which was made last
pub record CanBeTakenBack (namespace : Namespace) (node : Node) : Type 0 where
  pub stands : node_at namespace.nodes node.rec ≡ Some node
  pub whole : IsTree (without node.rec namespace.nodes) node.ino
