-- What it takes to change a tree in the store, and what a change gives.
use Rattle.std.specs.Prelude.{◌≡◌, ℕ, ◌+◌, ◌-◌, ◌^◌, ◌<◌, ◌≤◌, Option, Some, max, List, [], ◌∷◌, ◌++◌, length, nat_lt, cond, eqb, slice_set}
use Rattle.cfs_tree.specs.declared.store.stored_node.StoredNode.{StoredNode}
use Rattle.cfs_tree.specs.Nodes.{stored_at, height_under, rank_of}
use Rattle.cfs_tree.specs.Shape.{NodeTree, root_of, numbers_of, Stands, Once, DifferByAtMost}
use Rattle.cfs_tree.specs.Turn.{Relinks}

-- the rank of the node of that number
abbrev pub rank : List StoredNode → ℕ → ℕ
rank nodes n = rank_of (stored_at nodes n).node

-- all of them rank above
abbrev pub Above : (ℕ → ℕ) → ℕ → List ℕ → Type 0
Above rank n [] = Unit {0}
Above rank n (m ∷ ms) = (rank n < rank m) × Above rank n ms

-- each ranks below all that follow
abbrev pub Ascends : (ℕ → ℕ) → List ℕ → Type 0
Ascends rank [] = Unit {0}
Ascends rank (n ∷ ns) = Above rank n ns × Ascends rank ns

-- the list with a number before the first that ranks above it
abbrev pub insert_ranked : (ℕ → ℕ) → ℕ → List ℕ → List ℕ
insert_ranked rank new [] = new ∷ []
insert_ranked rank new (n ∷ ns) =
    cond (nat_lt (rank new) (rank n)) (new ∷ n ∷ ns) (n ∷ insert_ranked rank new ns)

-- the list without a number
abbrev pub without : ℕ → List ℕ → List ℕ
without gone [] = []
without gone (n ∷ ns) = cond (eqb gone n) (without gone ns) (n ∷ without gone ns)

-- A tree stands under the link, it ascends, and its height leaves room for one more.
pub record IsTree (nodes : List StoredNode) (at : Option ℕ) (t : NodeTree) : Type 0 where
  pub root : root_of t ≡ at
  pub stands : Stands nodes t
  pub once : Once (numbers_of t)
  pub ascends : Ascends (rank nodes) (numbers_of t)
  pub fits : height_under nodes at + 1 < 2 ^ 32

-- the same, and a node that is not in it
pub record CanInsert (nodes : List StoredNode) (at : Option ℕ) (new : ℕ)
    (t : NodeTree) : Type 0 where
  pub tree : IsTree nodes at t
  pub new_in : new < length nodes
  pub once : Once (new ∷ numbers_of t)

-- The tree with these numbers stands under the new link.
pub record Leaves (old new : List StoredNode) (result : Option ℕ) (among holds : List ℕ)
    (low high : ℕ) (t : NodeTree) : Type 0 where
  pub root : root_of t ≡ result
  pub stands : Stands new t
  pub numbers : numbers_of t ≡ holds
  pub relinks : Relinks old new among
  pub not_lower : low ≤ height_under new result
  pub not_higher : height_under new result ≤ high

abbrev pub InsertsTo : List StoredNode → List StoredNode → Option ℕ → ℕ → ℕ → Type 0
InsertsTo old new at number result =
    (t : NodeTree) → CanInsert old at number t → (u : NodeTree)
    × Leaves old new (Some result) (number ∷ numbers_of t)
    (insert_ranked (rank old) number (numbers_of t))
    (height_under old at) (height_under old at + 1) u

abbrev pub RemovesTo : List StoredNode → List StoredNode → Option ℕ → ℕ → Option ℕ → Type 0
RemovesTo old new at gone result =
    (t : NodeTree) → IsTree old at t → (u : NodeTree)
    × Leaves old new result (numbers_of t) (without gone (numbers_of t))
    (height_under old at - 1) (height_under old at) u

abbrev pub TakesLeast : List StoredNode → List StoredNode → ℕ → ℕ → Option ℕ → Type 0
TakesLeast old new at least rest =
    (t : NodeTree) → IsTree old (Some at) t → (u : NodeTree) × (numbers_of t ≡ least ∷ numbers_of u)
    × Leaves old new rest (numbers_of t) (numbers_of u)
    (height_under old (Some at) - 1) (height_under old (Some at)) u

-- two trees, one behind the other
pub record CanJoinSides (nodes : List StoredNode) (left right : Option ℕ)
    (l r : NodeTree) : Type 0 where
  pub left_tree : IsTree nodes left l
  pub right_tree : IsTree nodes right r
  pub once : Once (numbers_of l ++ numbers_of r)
  pub even : DifferByAtMost 1 (height_under nodes left) (height_under nodes right)

abbrev pub JoinsSides : List StoredNode → List StoredNode → Option ℕ → Option ℕ → Option ℕ → Type 0
JoinsSides old new left right result =
    (l r : NodeTree) → CanJoinSides old left right l r → (u : NodeTree)
    × Leaves old new result (numbers_of l ++ numbers_of r) (numbers_of l ++ numbers_of r)
    (max (height_under old left) (height_under old right))
    (max (height_under old left) (height_under old right) + 1) u

-- the node's number is free again
abbrev pub RemovesAndFrees : List StoredNode → List StoredNode → Option ℕ → ℕ → Option ℕ → Type 0
RemovesAndFrees old new at gone result =
    (mid : List StoredNode) × RemovesTo old mid at gone result
    × (new ≡ slice_set mid gone (record { node = (stored_at mid gone).node; height = 0 }))
