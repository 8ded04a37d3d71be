-- The trees that stand in the store.
use Rattle.std.specs.Prelude.{◌≡◌, ℕ, ◌+◌, ◌<◌, ◌≤◌, Option, None, Some, List, [], ◌∷◌, ◌++◌, length, eqb, cond}
use Rattle.cfs_tree.specs.declared.store.stored_node.StoredNode.{StoredNode}
use Rattle.cfs_tree.specs.Nodes.{stored_at, height_under, linked}

-- a tree of node numbers
pub data NodeTree : Type 0 where
  Empty : NodeTree
  Fork : ℕ → NodeTree → NodeTree → NodeTree

abbrev pub root_of : NodeTree → Option ℕ
root_of Empty = None
root_of (Fork at l r) = Some at

-- its numbers, in order
abbrev pub numbers_of : NodeTree → List ℕ
numbers_of Empty = []
numbers_of (Fork at l r) = numbers_of l ++ at ∷ numbers_of r

-- neither height is more than that above the other
abbrev pub DifferByAtMost : ℕ → ℕ → ℕ → Type 0
DifferByAtMost by l r = (l ≤ r + by) × (r ≤ l + by)

-- Each node of the tree is linked to the roots of its sides, and these differ by at most
-- one in height.
abbrev pub Stands : List StoredNode → NodeTree → Type 0
Stands nodes Empty = Unit {0}
Stands nodes (Fork at l r) =
    (at < length nodes) × (stored_at nodes at ≡ linked nodes at (root_of l) (root_of r))
    × DifferByAtMost 1 (height_under nodes (root_of l)) (height_under nodes (root_of r))
    × Stands nodes l × Stands nodes r

-- how often a number is in a list
abbrev pub times : ℕ → List ℕ → ℕ
times n [] = 0
times n (m ∷ ms) = cond (eqb n m) 1 0 + times n ms

-- no number is in the list twice
abbrev pub Once : List ℕ → Type 0
Once ns = (n : ℕ) → times n ns ≤ 1
