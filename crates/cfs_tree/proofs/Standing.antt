-- What links a tree and what leaves it standing.
use Rattle.std.proofs.Common.{◌≡◌, ◌≢◌, ℕ, ◌+◌, ◌<◌, ◌≤◌, Option, Some, List, [], ◌∷◌, ◌++◌, length, refl, sym, ◌∙◌, ap, subst, max, arith, get_or-set_same, get_or-set_other, inl, inr}
use Rattle.std.proofs.Math.ListN.{length-set}
use Rattle.std.proofs.lemmas.Bool.Decides.{eqb_tells, nat_tests}
use Rattle.cfs_tree.specs.declared.store.stored_node.StoredNode.{StoredNode}
use Rattle.cfs_tree.specs.Nodes.{stored_at, no_node, height_under, end_under, linked, linking}
use Rattle.cfs_tree.specs.Shape.{NodeTree, Empty, Fork, root_of, numbers_of, Stands, times, DifferByAtMost}
use Rattle.cfs_tree.specs.Turn.{Relinks}

pub times-append : (n : ℕ) (xs ys : List ℕ) → times n (xs ++ ys) ≡ times n xs + times n ys
times-append n [] ys = omega arith
times-append n (x ∷ xs) ys = omega (arith, times-append n xs ys)

-- a number is once where it stands
pub times-here : (n : ℕ) (ns : List ℕ) → times n (n ∷ ns) ≡ times n ns + 1
times-here n ns = grind (arith, nat_tests, eqb_tells n n)

pub times-fork : (n at : ℕ) (l r : NodeTree) →
    times n (numbers_of (Fork at l r)) ≡ times n (numbers_of l) + times n (at ∷ numbers_of r)
times-fork n at l r = times-append n (numbers_of l) (at ∷ numbers_of r)

-- where the nodes of a tree are as they were, the tree's root is as high and reaches as far as it did
pub height_under-same : (old new : List StoredNode) (t : NodeTree) →
    ((n : ℕ) → 0 < times n (numbers_of t) → stored_at new n ≡ stored_at old n) →
    height_under new (root_of t) ≡ height_under old (root_of t)
height_under-same old new Empty same = refl
height_under-same old new (Fork at l r) same =
    ap (λ s. s.height) (same at (omega (arith, times-fork at at l r, times-here at (numbers_of r))))

pub end_under-same : (old new : List StoredNode) (t : NodeTree) →
    ((n : ℕ) → 0 < times n (numbers_of t) → stored_at new n ≡ stored_at old n) →
    end_under new (root_of t) ≡ end_under old (root_of t)
end_under-same old new Empty same = refl
end_under-same old new (Fork at l r) same =
    ap (λ s. end_under (s ∷ []) (Some 0)) (same at (omega (arith, times-fork at at l r, times-here at (numbers_of r))))

pub linked-same : (old new : List StoredNode) (at : ℕ) (l r : NodeTree) →
    (stored_at new at).node.place ≡ (stored_at old at).node.place →
    (stored_at new at).node.span ≡ (stored_at old at).node.span →
    ((n : ℕ) → 0 < times n (numbers_of l) → stored_at new n ≡ stored_at old n) →
    ((n : ℕ) → 0 < times n (numbers_of r) → stored_at new n ≡ stored_at old n) →
    linked new at (root_of l) (root_of r) ≡ linked old at (root_of l) (root_of r)
linked-same old new at l r place span on_left on_right =
    let a = height_under-same old new l on_left in
    let b = height_under-same old new r on_right in
    let c = end_under-same old new l on_left in
    let d = end_under-same old new r on_right in
    rw (place, span, a, b, c, d) refl

-- a tree stands where its nodes are as they were
pub Stands-longer : (old new : List StoredNode) (t : NodeTree) → length old ≤ length new →
    ((n : ℕ) → 0 < times n (numbers_of t) → stored_at new n ≡ stored_at old n) → Stands old t → Stands new t
Stands-longer old new Empty len same s = tt
Stands-longer old new (Fork at l r) len same s =
    let on_left : (n : ℕ) → 0 < times n (numbers_of l) → stored_at new n ≡ stored_at old n =
    λ n h. same n (omega (arith, times-fork n at l r)) in
    let on_right : (n : ℕ) → 0 < times n (numbers_of r) → stored_at new n ≡ stored_at old n =
    λ n h. same n (omega (arith, times-fork n at l r)) in
    let here : stored_at new at ≡ stored_at old at =
    same at (omega (arith, times-fork at at l r, times-here at (numbers_of r))) in (
      let w = s.0 in omega arith,
      here ∙ s.1 ∙ sym (linked-same old new at l r (ap (λ v. v.node.place) here) (ap (λ v. v.node.span) here) on_left on_right),
      rw (height_under-same old new l on_left, height_under-same old new r on_right) s.2,
      Stands-longer old new l len on_left s.3,
      Stands-longer old new r len on_right s.4,
    )

pub Stands-same : (old new : List StoredNode) (t : NodeTree) → length new ≡ length old →
    ((n : ℕ) → 0 < times n (numbers_of t) → stored_at new n ≡ stored_at old n) → Stands old t → Stands new t
Stands-same old new t len same s = Stands-longer old new t (omega arith) same s

pub stored_at-link : (nodes : List StoredNode) (at : ℕ) (left right : Option ℕ) → at < length nodes →
    stored_at (linking nodes at left right) at ≡ linked nodes at left right
stored_at-link nodes at left right h = get_or-set_same nodes at (linked nodes at left right) no_node h

pub stored_at-link_other : (nodes : List StoredNode) (at : ℕ) (left right : Option ℕ) (n : ℕ) → n ≢ at →
    stored_at (linking nodes at left right) n ≡ stored_at nodes n
stored_at-link_other nodes at left right n h = get_or-set_other nodes at n (linked nodes at left right) no_node h

pub differs : (n m : ℕ) (ns : List ℕ) → 0 < times n ns → times m ns ≡ 0 → n ≢ m
differs n m ns here gone e = let P : ℕ → Type 0 = λ v. 0 < times v ns in let h : 0 < times m ns = subst P e here in omega arith

-- a tree in which the node is not still stands, as high as it was
pub Stands-link : (nodes : List StoredNode) (at : ℕ) (left right : Option ℕ) (t : NodeTree) →
    times at (numbers_of t) ≡ 0 → Stands nodes t → Stands (linking nodes at left right) t
Stands-link nodes at left right t gone s =
    Stands-same nodes (linking nodes at left right) t (length-set nodes at (linked nodes at left right))
    (λ n h. stored_at-link_other nodes at left right n (differs n at (numbers_of t) h gone)) s

pub height_under-link : (nodes : List StoredNode) (at : ℕ) (left right : Option ℕ) (t : NodeTree) →
    times at (numbers_of t) ≡ 0 → height_under (linking nodes at left right) (root_of t) ≡ height_under nodes (root_of t)
height_under-link nodes at left right t gone =
    height_under-same nodes (linking nodes at left right) t
    (λ n h. stored_at-link_other nodes at left right n (differs n at (numbers_of t) h gone))

-- linking a node to two trees in which it is not makes a tree
pub Stands-fork : (nodes : List StoredNode) (at : ℕ) (l r : NodeTree) → at < length nodes →
    times at (numbers_of l) ≡ 0 → times at (numbers_of r) ≡ 0 → Stands nodes l → Stands nodes r →
    DifferByAtMost 1 (height_under nodes (root_of l)) (height_under nodes (root_of r)) →
    Stands (linking nodes at (root_of l) (root_of r)) (Fork at l r)
Stands-fork nodes at l r within gl gr sl sr even =
    let new : List StoredNode = linking nodes at (root_of l) (root_of r) in
    let len : length new ≡ length nodes = length-set nodes at (linked nodes at (root_of l) (root_of r)) in
    let here : stored_at new at ≡ linked nodes at (root_of l) (root_of r) = stored_at-link nodes at (root_of l) (root_of r) within in
    let on_left : (n : ℕ) → 0 < times n (numbers_of l) → stored_at new n ≡ stored_at nodes n =
    λ n h. stored_at-link_other nodes at (root_of l) (root_of r) n (differs n at (numbers_of l) h gl) in
    let on_right : (n : ℕ) → 0 < times n (numbers_of r) → stored_at new n ≡ stored_at nodes n =
    λ n h. stored_at-link_other nodes at (root_of l) (root_of r) n (differs n at (numbers_of r) h gr) in (
      rw len within,
      here ∙ sym (linked-same nodes new at l r (ap (λ v. v.node.place) here) (ap (λ v. v.node.span) here) on_left on_right),
      rw (height_under-same nodes new l on_left, height_under-same nodes new r on_right) even,
      Stands-same nodes new l len on_left sl,
      Stands-same nodes new r len on_right sr,
    )

pub height_under-fork : (nodes : List StoredNode) (at : ℕ) (left right : Option ℕ) → at < length nodes →
    height_under (linking nodes at left right) (Some at) ≡ max (height_under nodes left) (height_under nodes right) + 1
height_under-fork nodes at left right within = ap (λ v. v.height) (stored_at-link nodes at left right within)

-- what a link leaves
pub Relinks-link : (nodes : List StoredNode) (at : ℕ) (left right : Option ℕ) (among : List ℕ) → at < length nodes →
    0 < times at among → Relinks nodes (linking nodes at left right) among
Relinks-link nodes at left right among within h = record {
  len = length-set nodes at (linked nodes at left right);
  places = λ n. elim (eqb_tells n at) [
    | inl same ↦ rw same.1 (ap (λ v. v.node.place) (stored_at-link nodes at left right within))
    | inr other ↦ ap (λ v. v.node.place) (stored_at-link_other nodes at left right n other.1)
  ];
  spans = λ n. elim (eqb_tells n at) [
    | inl same ↦ rw same.1 (ap (λ v. v.node.span) (stored_at-link nodes at left right within))
    | inr other ↦ ap (λ v. v.node.span) (stored_at-link_other nodes at left right n other.1)
  ];
  others = λ n gone. stored_at-link_other nodes at left right n (λ e. differs at n among h gone (sym e));
}

pub Relinks-then : (a b c : List StoredNode) (among : List ℕ) → Relinks a b among → Relinks b c among → Relinks a c among
Relinks-then a b c among p q = record {
  len = q.len ∙ p.len;
  places = λ n. q.places n ∙ p.places n;
  spans = λ n. q.spans n ∙ p.spans n;
  others = λ n gone. q.others n gone ∙ p.others n gone;
}
