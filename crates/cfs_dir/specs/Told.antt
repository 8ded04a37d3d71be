-- That words tell what they were made of.
use Rattle.std.specs.Prelude.{◌≡◌}
use Rattle.cfs_dir.specs.declared.change.Change.{Change}
use Rattle.cfs_dir.specs.declared.node.Node.{Node}
use Rattle.cfs_dir.specs.Change.{IsNamed, IsTellable}
use Rattle.cfs_dir.specs.Namespace.{Namespace}
use Rattle.cfs_dir.specs.Tree.{IsTree}
use Rattle.cfs_dir.specs.Words.{change_in, change_words, node_in, node_words, table_in, table_words}

-- The words of a node tell it, and those of a change.
abbrev pub NodesAreTold : Type 0
NodesAreTold = (node : Node) → IsNamed node → node_in node.rec (node_words node) ≡ node

abbrev pub ChangesAreTold : Type 0
ChangesAreTold = (change : Change) → IsTellable change → change_in (change_words change) ≡ change

-- The words of a table tell its tree.
abbrev pub TablesAreTold : Type 0
TablesAreTold =
    (namespace : Namespace) → IsTree namespace.nodes namespace.next →
    table_in (table_words namespace) ≡ namespace
