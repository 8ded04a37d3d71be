-- A move of a node, and what it makes of a namespace.
use Rattle.std.specs.Prelude.{◌≡◌, ◌≢◌, ℕ, false, Option, None, IsSomeAnd}
use Rattle.std.specs.Option.{ForSome, option_map}
use Rattle.cfs_dir.specs.declared.change.Change.{Change}
use Rattle.cfs_dir.specs.declared.change.Change.TheVariants as changes
use Rattle.cfs_dir.specs.declared.moved.Moved.{Moved}
use Rattle.cfs_dir.specs.declared.node.Node.{Node}
use Rattle.cfs_dir.specs.Change.{changed, without_replaced}
use Rattle.cfs_dir.specs.Namespace.{Namespace, child_of, has_child, node_at, without}
use Rattle.cfs_dir.specs.Tree.{CanLeave, IsTree}

abbrev pub replaced_of : Moved → Option ℕ
replaced_of moved = option_map (λ node. node.rec) moved.replaced

abbrev pub change_of : Moved → Change
change_of moved = changes.Move moved.node (replaced_of moved)

-- the namespace after a move
abbrev pub with_move : Namespace → Moved → Namespace
with_move namespace moved = changed namespace (change_of moved)

-- one node is another but for its directory and its name
pub record IsSameNode (node other : Node) : Type 0 where
  pub ino : other.ino ≡ node.ino
  pub kind : other.kind ≡ node.kind
  pub mode : other.mode ≡ node.mode
  pub uid : other.uid ≡ node.uid
  pub gid : other.gid ≡ node.gid

-- a node that a move may replace: another of the same kind, which has the name and no child
pub record IsReplaced (namespace : Namespace) (node other : Node) : Type 0 where
  pub leaves : CanLeave namespace other
  pub differs : other.rec ≢ node.rec
  pub parent : other.parent ≡ node.parent
  pub name : other.name ≡ node.name
  pub kind : other.kind ≡ node.kind
  pub empty : has_child namespace.nodes other.ino ≡ false

-- a move that a tree allows: the node stands in it, its new name is free but for the node that it
-- replaces, and the tree after it is one
pub record CanMove (namespace : Namespace) (moved : Moved) : Type 0 where
  pub stands : IsSomeAnd (node_at namespace.nodes moved.node.rec) (IsSameNode moved.node)
  pub moves : moved.node.rec ≢ 0
  pub replaces : ForSome moved.replaced (IsReplaced namespace moved.node)
  pub unnamed : child_of
      (without moved.node.rec (without_replaced (replaced_of moved) namespace.nodes))
      moved.node.parent moved.node.name ≡ None
  pub whole : IsTree (with_move namespace moved).nodes namespace.next
