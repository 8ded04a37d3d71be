-- The tree in a store, and the list that it stands for.
use Rattle.std.specs.Prelude.{◌≡◌, ℕ, ◌+◌, ◌^◌, ◌<◌, ◌≤◌, zero, suc, min, Option, None, Some, List, ◌++◌, length, map, nat_eq, vec_capacity}
use Rattle.std.specs.HashMap as hash
use Rattle.cfs_file.specs.declared.span.Span.{Span}
use Rattle.cfs_tree.specs.declared.store.stored_node.StoredNode.{StoredNode}
use Rattle.cfs_tree.specs.declared.store.SpanStore.{SpanStore}
use Rattle.cfs_tree.specs.Nodes.{stored_at, height_under}
use Rattle.cfs_tree.specs.Shape.{NodeTree, Empty, Fork, numbers_of, times, Once}
use Rattle.cfs_tree.specs.Change.{IsTree}
use Rattle.cfs_tree.specs.Spans.{SpanList, IsBounded, HasPositions}

-- the tree under a link, down to a depth
unfoldable pub tree_to : List StoredNode → ℕ → Option ℕ → NodeTree
tree_to nodes depth None = Empty
tree_to nodes zero (Some at) = Empty
tree_to nodes (suc depth) (Some at) =
    Fork at (tree_to nodes depth (stored_at nodes at).node.left)
    (tree_to nodes depth (stored_at nodes at).node.right)

-- the whole tree under a link
abbrev pub tree_under : List StoredNode → Option ℕ → NodeTree
tree_under nodes root = tree_to nodes (height_under nodes root) root

-- the place and the span of a node
abbrev pub kept_at : List StoredNode → ℕ → ℕ × Span
kept_at nodes n = ((stored_at nodes n).node.place, (stored_at nodes n).node.span)

-- those of all these nodes
abbrev pub kept_of : List StoredNode → List ℕ → List (ℕ × Span)
kept_of nodes ns = map (kept_at nodes) ns

-- The tree stands in the store: its numbers and the free ones are all there are, each once, and the
-- number of each place is known.
pub record Holds (store : SpanStore) (root : Option ℕ) (t : NodeTree) : Type 0 where
  pub tree : IsTree store.nodes.items root t
  pub once : Once (numbers_of t ++ store.free.items)
  pub free_in : (n : ℕ) → 0 < times n store.free.items →
      (n < length store.nodes.items) × ((stored_at store.nodes.items n).height ≡ 0)
  pub listed : (place n : ℕ) → hash.get nat_eq store.numbers place ≡ Some n →
      (0 < times n (numbers_of t)) × ((stored_at store.nodes.items n).node.place ≡ place)
  pub found : (n : ℕ) → 0 < times n (numbers_of t) →
      hash.get nat_eq store.numbers (stored_at store.nodes.items n).node.place ≡ Some n
  pub spans : (n : ℕ) → 0 < times n (numbers_of t) →
      IsBounded (stored_at store.nodes.items n).node.span
      × HasPositions (stored_at store.nodes.items n).node.span
  pub places : (n : ℕ) → 0 < times n (numbers_of t) →
      (stored_at store.nodes.items n).node.place < 2 ^ 64
  pub room : length store.nodes.items ≤ vec_capacity store.free
  pub counted : length (numbers_of t) + length store.free.items ≡ length store.nodes.items
  pub few : length store.nodes.items + 1 < 2 ^ 32

-- how many more spans fit before the store must grow
abbrev pub spare_of : SpanStore → ℕ
spare_of store = min (length store.free.items) (hash.spare store.numbers)

abbrev pub list_of : SpanStore → NodeTree → SpanList
list_of store t =
    record { spans = kept_of store.nodes.items (numbers_of t); spare = spare_of store }

-- the store changed, and the tree and the list stay
abbrev pub HoldsStill : SpanStore → SpanStore → Option ℕ → NodeTree → Type 0
HoldsStill old new root t =
    Holds new root t
    × (kept_of new.nodes.items (numbers_of t) ≡ kept_of old.nodes.items (numbers_of t))
