-- The list that the nodes of a tree stand for.
use Rattle.std.proofs.Common.{◌≡◌, ℕ, ◌+◌, ◌<◌, ◌≤◌, zero, suc, Option, List, [], ◌∷◌, ◌++◌, length, refl, sym, ◌∙◌, ap, subst, max, arith, inl, inr, length-append}
use Rattle.std.proofs.lemmas.Bool.Decides.{eqb_tells}
use Rattle.cfs_tree.specs.declared.store.stored_node.StoredNode.{StoredNode}
use Rattle.cfs_tree.specs.Nodes.{stored_at, height_under}
use Rattle.cfs_tree.specs.Shape.{NodeTree, Empty, Fork, root_of, numbers_of, Stands, times}
use Rattle.cfs_tree.specs.Change.{rank, insert_ranked, without}
use Rattle.cfs_tree.specs.Spans.{insert_in_order, without_place}
use Rattle.cfs_tree.specs.Holding.{tree_to, tree_under, kept_at, kept_of}
use Rattle.cfs_tree.proofs.Standing.{times-here}
use Rattle.cfs_tree.proofs.Ranked.{ltb_tells}

-- a tree that stands is the one that its links show
pub tree_to-is : (nodes : List StoredNode) (depth : ℕ) (t : NodeTree) → Stands nodes t → height_under nodes (root_of t) ≤ depth →
    tree_to nodes depth (root_of t) ≡ t
unfolding tree_to
tree_to-is nodes depth Empty s h = refl
tree_to-is nodes zero (Fork at l r) s h =
    let tall : (stored_at nodes at).height ≡ max (height_under nodes (root_of l)) (height_under nodes (root_of r)) + 1 = ap (λ v. v.height) s.1 in
    absurd (omega arith)
tree_to-is nodes (suc depth) (Fork at l r) s h =
    let tall : (stored_at nodes at).height ≡ max (height_under nodes (root_of l)) (height_under nodes (root_of r)) + 1 = ap (λ v. v.height) s.1 in
    let left : (stored_at nodes at).node.left ≡ root_of l = ap (λ v. v.node.left) s.1 in
    let right : (stored_at nodes at).node.right ≡ root_of r = ap (λ v. v.node.right) s.1 in
    let a = tree_to-is nodes depth l s.3 (omega arith) in
    let b = tree_to-is nodes depth r s.4 (omega arith) in
    rw (left, right, a, b) refl

pub tree_under-is : (nodes : List StoredNode) (root : Option ℕ) (t : NodeTree) → root_of t ≡ root → Stands nodes t → tree_under nodes root ≡ t
tree_under-is nodes root t e s =
    let P : Option ℕ → Type 0 = λ w. tree_under nodes w ≡ t in
    subst P e (tree_to-is nodes (height_under nodes (root_of t)) t s (omega arith))

-- a tree is no higher than it has nodes
pub height-le-length : (nodes : List StoredNode) (t : NodeTree) → Stands nodes t → height_under nodes (root_of t) ≤ length (numbers_of t)
height-le-length nodes Empty s = omega arith
height-le-length nodes (Fork at l r) s =
    let tall : (stored_at nodes at).height ≡ max (height_under nodes (root_of l)) (height_under nodes (root_of r)) + 1 = ap (λ v. v.height) s.1 in
    let a = height-le-length nodes l s.3 in
    let b = height-le-length nodes r s.4 in
    let e : length (numbers_of l ++ at ∷ numbers_of r) ≡ length (numbers_of l) + length (at ∷ numbers_of r) = length-append (numbers_of l) (at ∷ numbers_of r) in
    omega arith

pub kept_of-same : (old new : List StoredNode) (ns : List ℕ) →
    ((n : ℕ) → 0 < times n ns → (stored_at new n).node.place ≡ (stored_at old n).node.place) →
    ((n : ℕ) → 0 < times n ns → (stored_at new n).node.span ≡ (stored_at old n).node.span) → kept_of new ns ≡ kept_of old ns
kept_of-same old new [] places spans = refl
kept_of-same old new (n ∷ ns) places spans =
    let here = times-here n ns in
    let a = places n (omega arith) in
    let b = spans n (omega arith) in
    let rest = kept_of-same old new ns (λ k h. places k (omega arith)) (λ k h. spans k (omega arith)) in
    rw (a, b, rest) refl

pub kept_of-insert : (nodes : List StoredNode) (new : ℕ) (ns : List ℕ) →
    kept_of nodes (insert_ranked (rank nodes) new ns) ≡ insert_in_order (kept_at nodes new) (kept_of nodes ns)
kept_of-insert nodes new [] = refl
kept_of-insert nodes new (n ∷ ns) = elim (ltb_tells (rank nodes new) (rank nodes n)) [
  | inl under ↦ rw under.0 refl
  | inr over ↦ let e = kept_of-insert nodes new ns in rw (over.0, e) refl
]

pub kept_of-without : (nodes : List StoredNode) (gone place : ℕ) (ns : List ℕ) → (stored_at nodes gone).node.place ≡ place →
    ((n : ℕ) → 0 < times n ns → (stored_at nodes n).node.place ≡ place → n ≡ gone) →
    kept_of nodes (without gone ns) ≡ without_place place (kept_of nodes ns)
kept_of-without nodes gone place [] is only = refl
kept_of-without nodes gone place (n ∷ ns) is only =
    let rest = kept_of-without nodes gone place ns is (λ k h e. only k (omega arith) e) in
    let here = times-here n ns in
    elim (eqb_tells gone n) [
      | inl same ↦ elim (eqb_tells place (stored_at nodes n).node.place) [
        | inl hit ↦ rw (same.0, hit.0) rest
        | inr miss ↦ absurd (miss.1 (sym is ∙ ap (λ k. (stored_at nodes k).node.place) same.1))
      ]
      | inr other ↦ elim (eqb_tells place (stored_at nodes n).node.place) [
        | inl hit ↦ absurd (other.1 (sym (only n (omega arith) (sym hit.1))))
        | inr miss ↦ rw (other.0, miss.0, rest) refl
      ]
    ]
