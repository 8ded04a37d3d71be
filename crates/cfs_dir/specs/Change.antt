-- What a change makes of a namespace.
use Rattle.std.specs.Prelude.{ℕ, ◌+◌, ◌≤◌, List, [], ◌∷◌, length, Option, Some, None}
use Rattle.cfs_dir.specs.declared.change.Change.{Change}
use Rattle.cfs_dir.specs.declared.change.Change.TheVariants as changes
use Rattle.cfs_dir.specs.declared.node.Node.{Node}
use Rattle.cfs_dir.specs.Name.{AreNameBytes}
use Rattle.cfs_dir.specs.Namespace.{Namespace, placed, without}

abbrev pub without_replaced : Option ℕ → List Node → List Node
without_replaced None nodes = nodes
without_replaced (Some rec) nodes = without rec nodes

-- the namespace after a change; a node that is made moves the next inode number behind its own
abbrev pub changed : Namespace → Change → Namespace
changed namespace (changes.Create node) =
    record { nodes = placed node namespace.nodes; next = node.ino + 1 }
changed namespace (changes.Remove rec ino) =
    record { nodes = without rec namespace.nodes; next = namespace.next }
changed namespace (changes.Move node replaced) = record {
  nodes = placed node (without node.rec (without_replaced replaced namespace.nodes));
  next = namespace.next;
}

-- and after several, one after another
abbrev pub changed_by : Namespace → List Change → Namespace
changed_by namespace [] = namespace
changed_by namespace (change ∷ rest) = changed_by (changed namespace change) rest

-- a node whose words tell it: its name has at most 40 letters, digits, `.`, `_` and `-`
pub record IsNamed (node : Node) : Type 0 where
  pub short : length node.name ≤ 40
  pub readable : AreNameBytes node.name

-- a change whose words tell it
abbrev pub IsTellable : Change → Type 0
IsTellable (changes.Create node) = IsNamed node
IsTellable (changes.Remove rec ino) = Unit {0}
IsTellable (changes.Move node replaced) = IsNamed node
