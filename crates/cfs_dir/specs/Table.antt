-- How a tree is kept: the node of each record at its place, and an index from a directory and a
-- name to a record.
use Rattle.std.specs.Prelude.{◌≡◌, ℕ, suc, List, [], ◌∷◌, Bool, false, ◌&&◌, ◌==◌, Option, None, Some, All, ◌<◌, length, cond}
use Rattle.std.specs.Option.{option_map}
use Rattle.std.specs.Str.{bytes_eq}
use Rattle.std.specs.HashMap.{get, hash_map_len, HashMap}
use Rattle.std.specs.declared.hash.FoldHasher.{FoldHasher}
use Rattle.std.specs.declared.hash.BuildHasherDefault.{BuildHasherDefault}
use Rattle.cfs_dir.specs.declared.child.Child.{Child}
use Rattle.cfs_dir.specs.declared.node.Node.{Node}
use Rattle.cfs_dir.specs.Namespace.{child_of, node_of}
use Rattle.cfs_dir.specs.Tree.{AreAscendingFrom, IsTree}

-- the nodes that stand in the slots, in order
abbrev pub nodes_of : List (Option Node) → List Node
nodes_of [] = []
nodes_of (None ∷ slots) = nodes_of slots
nodes_of (Some node ∷ slots) = node ∷ nodes_of slots

-- whether a slot has a node that passes a test
abbrev pub holds : (Node → Bool) → Option Node → Bool
holds test None = false
holds test (Some node) = test node

-- whether a slot has a node that stands in this directory
abbrev pub stands_in : ℕ → Option Node → Bool
stands_in parent = holds (λ node. node.parent == parent)

-- each node stands at its record, where the first slot is that of record `first`
abbrev pub AreAtRecords : ℕ → List (Option Node) → Type 0
AreAtRecords first [] = Unit {0}
AreAtRecords first (None ∷ slots) = AreAtRecords (suc first) slots
AreAtRecords first (Some node ∷ slots) = (node.rec ≡ first) × AreAtRecords (suc first) slots

abbrev pub Index : Type 0
Index = HashMap Child ℕ (BuildHasherDefault FoldHasher)

abbrev pub same_child : Child → Child → Bool
same_child a b = (a.parent == b.parent) && bytes_eq a.name b.name

-- the index finds a value at one key, and what it found before at every other key
abbrev pub IsUpdated : Index → Index → Child → Option ℕ → Type 0
IsUpdated old new key value =
    (child : Child) → get same_child new child ≡
    cond (same_child key child) value (get same_child old child)

-- the index finds the record of each node by the node's directory and name
abbrev pub IsIndex : List Node → Index → Type 0
IsIndex nodes index =
    (child : Child) → get same_child index child ≡
    option_map (λ node. node.rec) (child_of nodes child.parent child.name)

-- where a node stands in the index
abbrev pub key_of : Node → Child
key_of node = record { parent = node.parent; name = node.name }

-- the index finds the record of each node, and has no other entry
pub record IsIndexOf (nodes : List Node) (index : Index) : Type 0 where
  pub indexed : IsIndex nodes index
  pub count : hash_map_len index ≡ length nodes

pub record IsTable (slots : List (Option Node)) (index : Index) (next : ℕ) : Type 0 where
  pub size : length slots ≡ 256
  pub at_records : AreAtRecords 0 slots
  pub tree : IsTree (nodes_of slots) next
  pub indexed : IsIndex (nodes_of slots) index
  pub count : hash_map_len index ≡ length (nodes_of slots)

-- the index is that of the nodes but for one, which had another key; the new key is free
pub record IsRenamed (index : Index) (slots : List (Option Node)) (old node : Node) : Type 0 where
  pub size : length slots ≡ 256
  pub at_records : AreAtRecords 0 slots
  pub name_once : All (λ node. child_of (nodes_of slots) node.parent node.name ≡ Some node)
      (nodes_of slots)
  pub count : hash_map_len index ≡ length (nodes_of slots)
  pub found : get same_child index (key_of old) ≡ Some node.rec
  pub shut : (removed : Index) → IsUpdated index removed (key_of old) None
      → get same_child removed (key_of node) ≡ None
  pub others : (removed new : Index) → IsUpdated index removed (key_of old) None
      → IsUpdated removed new (key_of node) (Some node.rec) → IsIndex (nodes_of slots) new

-- nodes that a table can hold: their records ascend and are below 256, and no two have one number,
-- or one name in one directory
pub record AreListed (nodes : List Node) : Type 0 where
  pub ascending : AreAscendingFrom 0 nodes
  pub records : All (λ node. node.rec < 256) nodes
  pub number_once : All (λ node. node_of nodes node.ino ≡ Some node) nodes
  pub name_once : All (λ node. child_of nodes node.parent node.name ≡ Some node) nodes

-- the slots and the index hold these nodes
pub record IsTableOf (slots : List (Option Node)) (index : Index) (nodes : List Node) : Type 0 where
  pub size : length slots ≡ 256
  pub at_records : AreAtRecords 0 slots
  pub nodes_are : nodes_of slots ≡ nodes
  pub indexed : IsIndex nodes index
  pub count : hash_map_len index ≡ length nodes
