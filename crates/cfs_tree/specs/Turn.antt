-- What a change of links gives: the tree that it stands for, and what it leaves.
use Rattle.std.specs.Prelude.{◌≡◌, ℕ, ◌+◌, ◌^◌, ◌<◌, ◌≤◌, Option, Some, max, List, ◌∷◌, ◌++◌, length}
use Rattle.cfs_tree.specs.declared.store.stored_node.StoredNode.{StoredNode}
use Rattle.cfs_tree.specs.Nodes.{stored_at, height_under}
use Rattle.cfs_tree.specs.Shape.{NodeTree, root_of, numbers_of, Stands, times, Once, DifferByAtMost}

-- Only nodes of these numbers were linked anew, and each kept its place and span.
pub record Relinks (old new : List StoredNode) (among : List ℕ) : Type 0 where
  pub len : length new ≡ length old
  pub places : (n : ℕ) → (stored_at new n).node.place ≡ (stored_at old n).node.place
  pub spans : (n : ℕ) → (stored_at new n).node.span ≡ (stored_at old n).node.span
  pub others : (n : ℕ) → times n among ≡ 0 → stored_at new n ≡ stored_at old n

-- Two trees that stand, and a node that is in neither, to be put above them.
pub record Sides (nodes : List StoredNode) (at : ℕ) (left right : Option ℕ)
    (l r : NodeTree) : Type 0 where
  pub left_root : root_of l ≡ left
  pub right_root : root_of r ≡ right
  pub node : at < length nodes
  pub left_stands : Stands nodes l
  pub right_stands : Stands nodes r
  pub once : Once (numbers_of l ++ at ∷ numbers_of r)

-- the height h of what a node with sides of these heights settles to
pub record SettlesAt (l r h : ℕ) : Type 0 where
  pub not_lower : max l r ≤ h
  pub at_most_one_higher : h ≤ max l r + 1
  pub higher : DifferByAtMost 1 l r → h ≡ max l r + 1

-- what stands under the result: the left side, the node, and the right side, in this order
pub record Joins (old new : List StoredNode) (left right : Option ℕ) (among : List ℕ)
    (result : ℕ) (t : NodeTree) : Type 0 where
  pub root : root_of t ≡ Some result
  pub stands : Stands new t
  pub numbers : numbers_of t ≡ among
  pub relinks : Relinks old new among
  pub height : SettlesAt (height_under old left) (height_under old right)
      (height_under new (Some result))

-- two sides that differ by at most two in height, as a change of one of them leaves them, and
-- not too high
abbrev pub CanJoin : List StoredNode → ℕ → Option ℕ → Option ℕ → NodeTree → NodeTree → Type 0
CanJoin nodes at left right l r =
    Sides nodes at left right l r
    × DifferByAtMost 2 (height_under nodes left) (height_under nodes right)
    × (max (height_under nodes left) (height_under nodes right) + 1 < 2 ^ 32)

abbrev pub JoinsTo : List StoredNode → List StoredNode → ℕ → Option ℕ → Option ℕ → ℕ → Type 0
JoinsTo old new at left right result =
    (l r : NodeTree) → CanJoin old at left right l r → (t : NodeTree)
    × Joins old new left right (numbers_of l ++ at ∷ numbers_of r) result t
