-- A change of one side of a tree, joined again.
use Rattle.std.proofs.Common.{◌≡◌, ℕ, ◌+◌, ◌-◌, ◌^◌, ◌<◌, ◌≤◌, Option, None, Some, List, [], ◌∷◌, ◌++◌, length, refl, sym, ◌∙◌, ap, subst, max, arith, inl, inr}
use Rattle.std.proofs.lemmas.Bool.{cases_lt}
use Rattle.cfs_tree.specs.declared.store.stored_node.StoredNode.{StoredNode}
use Rattle.cfs_tree.specs.Nodes.{stored_at, height_under, linking, rank_of}
use Rattle.cfs_tree.specs.Shape.{NodeTree, Empty, Fork, root_of, numbers_of, times, Once, DifferByAtMost}
use Rattle.cfs_tree.specs.Turn.{Relinks, SettlesAt, Joins, CanJoin, JoinsTo}
use Rattle.cfs_tree.specs.Change.{rank, Ascends, insert_ranked, IsTree, CanInsert, Leaves, InsertsTo}
use Rattle.cfs_tree.proofs.Standing.{times-append, times-here, Stands-same, height_under-same, Stands-fork, height_under-fork, Relinks-link, Relinks-then}
use Rattle.cfs_tree.proofs.Turning.{Opened, opened, counted_fork}
use Rattle.cfs_tree.proofs.Ranked.{Ascends-front, Ascends-back, insert-left, insert-right, times-insert}

-- a tree under a link, with its sides
pub record Open (nodes : List StoredNode) (at : ℕ) (stored : StoredNode) (t l r : NodeTree) : Type 0 where
  pub is : t ≡ Fork at l r
  pub here : at < length nodes
  pub left : IsTree nodes stored.node.left l
  pub right : IsTree nodes stored.node.right r
  pub even : DifferByAtMost 1 (height_under nodes stored.node.left) (height_under nodes stored.node.right)
  pub height : height_under nodes (Some at) ≡ max (height_under nodes stored.node.left) (height_under nodes stored.node.right) + 1
  pub count : (n : ℕ) → times n (numbers_of l) + times n (at ∷ []) + times n (numbers_of r) ≤ 1
  pub fits : height_under nodes (Some at) + 1 < 2 ^ 32
  pub ascends : Ascends (rank nodes) (numbers_of l ++ at ∷ numbers_of r)

open_at : (nodes : List StoredNode) (at : ℕ) (t l r : NodeTree) → IsTree nodes (Some at) t → Opened nodes at t l r →
    Open nodes at (stored_at nodes at) t l r
open_at nodes at t l r i o =
    let A : NodeTree → Type 0 = λ v. Ascends (rank nodes) (numbers_of v) in
    let O : NodeTree → Type 0 = λ v. Once (numbers_of v) in
    let up : Ascends (rank nodes) (numbers_of l ++ at ∷ numbers_of r) = subst A o.is i.ascends in
    let once : Once (numbers_of l ++ at ∷ numbers_of r) = subst O o.is i.once in
    let fits = i.fits in
    let high = o.height in
    record {
      is = o.is;
      here = o.within;
      left = rw o.left (record {
        root = refl;
        stands = o.left_stands;
        once = λ n. let h = once n in let e = counted_fork n at (numbers_of l) (numbers_of r) in omega arith;
        ascends = Ascends-front (rank nodes) (numbers_of l) (at ∷ numbers_of r) up;
        fits = omega arith;
      });
      right = rw o.right (record {
        root = refl;
        stands = o.right_stands;
        once = λ n. let h = once n in let e = counted_fork n at (numbers_of l) (numbers_of r) in omega arith;
        ascends = (Ascends-back (rank nodes) (numbers_of l) (at ∷ numbers_of r) up).1;
        fits = omega arith;
      });
      even = rw (o.left, o.right) o.even;
      height = rw (o.left, o.right) o.height;
      count = λ n. let h = once n in let e = counted_fork n at (numbers_of l) (numbers_of r) in omega arith;
      fits = i.fits;
      ascends = up;
    }

pub open_tree : (nodes : List StoredNode) (at : ℕ) (stored : StoredNode) (t : NodeTree) → stored ≡ stored_at nodes at →
    IsTree nodes (Some at) t → (l r : NodeTree) × Open nodes at stored t l r
open_tree nodes at stored t is i =
    let op = opened nodes at t i.stands i.root in
    (op.0, op.1, rw is (open_at nodes at t op.0 op.1 i op.2))

pub Relinks-more : (a b : List StoredNode) (few many : List ℕ) → Relinks a b few →
    ((n : ℕ) → times n many ≡ 0 → times n few ≡ 0) → Relinks a b many
Relinks-more a b few many p under = record {
  len = p.len;
  places = p.places;
  spans = p.spans;
  others = λ n gone. p.others n (under n gone);
}

-- The left side became another tree.
pub record NewLeft (nodes n1 : List StoredNode) (at : ℕ) (left right : Option ℕ) (among holds : List ℕ) (low high : ℕ) (l r u : NodeTree) : Type 0 where
  pub leaves : Leaves nodes n1 left among holds low high u
  pub apart : (n : ℕ) → 0 < times n (at ∷ numbers_of r) → times n among ≡ 0
  pub once : Once (holds ++ at ∷ numbers_of r)
  pub near : (height_under nodes (root_of l) ≤ low + 1) × (high ≤ height_under nodes (root_of l) + 1)

pub new_left_joins : (nodes n1 : List StoredNode) (at : ℕ) (stored : StoredNode) (left : Option ℕ) (among holds : List ℕ) (low high : ℕ) (t l r u : NodeTree) →
    Open nodes at stored t l r → NewLeft nodes n1 at left stored.node.right among holds low high l r u →
    CanJoin n1 at left stored.node.right u r × (height_under n1 stored.node.right ≡ height_under nodes stored.node.right)
new_left_joins nodes n1 at stored left among holds low high t l r u o w =
    let v = w.leaves in
    let same : (n : ℕ) → 0 < times n (numbers_of r) → stored_at n1 n ≡ stored_at nodes n =
    λ n h. v.relinks.others n (w.apart n (let e : times n (at ∷ numbers_of r) ≡ times n (at ∷ []) + times n (numbers_of r) = times-append n (at ∷ []) (numbers_of r) in omega arith)) in
    let hr : height_under n1 (root_of r) ≡ height_under nodes (root_of r) = height_under-same nodes n1 r same in
    let hright : height_under n1 stored.node.right ≡ height_under nodes stored.node.right = rw (← o.right.root) hr in
    let hl : height_under nodes (root_of l) ≡ height_under nodes stored.node.left = ap (height_under nodes) o.left.root in
    let even = o.even in
    let tall = o.height in
    let fits = o.fits in
    let near = w.near in
    let low2 = v.not_lower in
    let high2 = v.not_higher in (
      (
        record {
          left_root = v.root;
          right_root = o.right.root;
          node = rw v.relinks.len o.here;
          left_stands = v.stands;
          right_stands = Stands-same nodes n1 r v.relinks.len same o.right.stands;
          once = rw v.numbers w.once;
        },
        (omega arith, omega arith),
        omega arith,
      ),
      hright,
    )

pub new_left_leaves : (nodes n1 n2 : List StoredNode) (at : ℕ) (left right : Option ℕ) (among holds big : List ℕ) (low high low2 high2 result : ℕ) (l r u v : NodeTree) →
    NewLeft nodes n1 at left right among holds low high l r u →
    Joins n1 n2 left right (numbers_of u ++ at ∷ numbers_of r) result v →
    ((n : ℕ) → times n big ≡ 0 → times n among ≡ 0) →
    ((n : ℕ) → times n big ≡ 0 → times n (holds ++ at ∷ numbers_of r) ≡ 0) →
    low2 ≤ height_under n2 (Some result) → height_under n2 (Some result) ≤ high2 →
    Leaves nodes n2 (Some result) big (holds ++ at ∷ numbers_of r) low2 high2 v
new_left_leaves nodes n1 n2 at left right among holds big low high low2 high2 result l r u v w j inside inside2 over under = record {
  root = j.root;
  stands = j.stands;
  numbers = j.numbers ∙ rw w.leaves.numbers refl;
  relinks = Relinks-then nodes n1 n2 big (Relinks-more nodes n1 among big w.leaves.relinks inside)
      (Relinks-more n1 n2 _ big j.relinks (rw w.leaves.numbers inside2));
  not_lower = over;
  not_higher = under;
}

-- The right side became another tree.
pub record NewRight (nodes n1 : List StoredNode) (at : ℕ) (left right : Option ℕ) (among holds : List ℕ) (low high : ℕ) (l r u : NodeTree) : Type 0 where
  pub leaves : Leaves nodes n1 right among holds low high u
  pub apart : (n : ℕ) → 0 < times n (numbers_of l) + times n (at ∷ []) → times n among ≡ 0
  pub once : Once (numbers_of l ++ at ∷ holds)
  pub near : (height_under nodes (root_of r) ≤ low + 1) × (high ≤ height_under nodes (root_of r) + 1)

pub new_right_joins : (nodes n1 : List StoredNode) (at : ℕ) (stored : StoredNode) (right : Option ℕ) (among holds : List ℕ) (low high : ℕ) (t l r u : NodeTree) →
    Open nodes at stored t l r → NewRight nodes n1 at stored.node.left right among holds low high l r u →
    CanJoin n1 at stored.node.left right l u × (height_under n1 stored.node.left ≡ height_under nodes stored.node.left)
new_right_joins nodes n1 at stored right among holds low high t l r u o w =
    let v = w.leaves in
    let same : (n : ℕ) → 0 < times n (numbers_of l) → stored_at n1 n ≡ stored_at nodes n =
    λ n h. v.relinks.others n (w.apart n (omega arith)) in
    let hl : height_under n1 (root_of l) ≡ height_under nodes (root_of l) = height_under-same nodes n1 l same in
    let hleft : height_under n1 stored.node.left ≡ height_under nodes stored.node.left = rw (← o.left.root) hl in
    let hr : height_under nodes (root_of r) ≡ height_under nodes stored.node.right = ap (height_under nodes) o.right.root in
    let even = o.even in
    let tall = o.height in
    let fits = o.fits in
    let near = w.near in
    let low2 = v.not_lower in
    let high2 = v.not_higher in (
      (
        record {
          left_root = o.left.root;
          right_root = v.root;
          node = rw v.relinks.len o.here;
          left_stands = Stands-same nodes n1 l v.relinks.len same o.left.stands;
          right_stands = v.stands;
          once = rw v.numbers w.once;
        },
        (omega arith, omega arith),
        omega arith,
      ),
      hleft,
    )

pub new_right_leaves : (nodes n1 n2 : List StoredNode) (at : ℕ) (left right : Option ℕ) (among holds big : List ℕ) (low high low2 high2 result : ℕ) (l r u v : NodeTree) →
    NewRight nodes n1 at left right among holds low high l r u →
    Joins n1 n2 left right (numbers_of l ++ at ∷ numbers_of u) result v →
    ((n : ℕ) → times n big ≡ 0 → times n among ≡ 0) →
    ((n : ℕ) → times n big ≡ 0 → times n (numbers_of l ++ at ∷ holds) ≡ 0) →
    low2 ≤ height_under n2 (Some result) → height_under n2 (Some result) ≤ high2 →
    Leaves nodes n2 (Some result) big (numbers_of l ++ at ∷ holds) low2 high2 v
new_right_leaves nodes n1 n2 at left right among holds big low high low2 high2 result l r u v w j inside inside2 over under = record {
  root = j.root;
  stands = j.stands;
  numbers = j.numbers ∙ rw w.leaves.numbers refl;
  relinks = Relinks-then nodes n1 n2 big (Relinks-more nodes n1 among big w.leaves.relinks inside)
      (Relinks-more n1 n2 _ big j.relinks (rw w.leaves.numbers inside2));
  not_lower = over;
  not_higher = under;
}

-- the height after a side grew by at most one, and after a side shrank by at most one
pub grown : (side other whole new h : ℕ) → whole ≡ max side other + 1 → DifferByAtMost 1 side other → side ≤ new → new ≤ side + 1 →
    max new other ≤ h → h ≤ max new other + 1 → (DifferByAtMost 1 new other → h ≡ max new other + 1) → (whole ≤ h) × (h ≤ whole + 1)
grown side other whole new h is even up most low high settled = elim (cases_lt (other + 1) new) [
  | inl far ↦ (omega arith, omega arith)
  | inr near ↦ let e : h ≡ max new other + 1 = settled (near, omega arith) in (omega arith, omega arith)
]

pub shrunk : (side other whole new h : ℕ) → whole ≡ max side other + 1 → DifferByAtMost 1 side other → side - 1 ≤ new → new ≤ side →
    max new other ≤ h → h ≤ max new other + 1 → (DifferByAtMost 1 new other → h ≡ max new other + 1) → (whole - 1 ≤ h) × (h ≤ whole)
shrunk side other whole new h is even up most low high settled = elim (cases_lt (new + 1) other) [
  | inl far ↦ (omega arith, omega arith)
  | inr near ↦ let e : h ≡ max new other + 1 = settled (omega arith, near) in (omega arith, omega arith)
]

-- INSERT

pub inserted_alone : (nodes n1 : List StoredNode) (new : ℕ) (t : NodeTree) → CanInsert nodes None new t → n1 ≡ linking nodes new None None →
    (u : NodeTree) × Leaves nodes n1 (Some new) (new ∷ numbers_of t) (insert_ranked (rank nodes) new (numbers_of t))
    (height_under nodes None) (height_under nodes None + 1) u
inserted_alone nodes n1 new Empty c is = (
  Fork new Empty Empty,
  rw is (record {
    root = refl;
    stands = Stands-fork nodes new Empty Empty c.new_in refl refl tt tt (omega arith, omega arith);
    numbers = refl;
    relinks = Relinks-link nodes new None None (new ∷ []) c.new_in (let e = times-here new [] in omega arith);
    not_lower = omega arith;
    not_higher = let h = height_under-fork nodes new None None c.new_in in omega arith;
  }),
)
inserted_alone nodes n1 new (Fork at l r) c is = absurd (cc (c.tree.root))

pub inserts_left : (nodes : List StoredNode) (at new : ℕ) (stored : StoredNode) (t l r : NodeTree) → CanInsert nodes (Some at) new t →
    Open nodes at stored t l r → CanInsert nodes stored.node.left new l
inserts_left nodes at new stored t l r c o =
    let P : NodeTree → Type 0 = λ v. Once (new ∷ numbers_of v) in
    let once : Once (new ∷ numbers_of (Fork at l r)) = subst P o.is c.once in
    record {
      tree = o.left;
      new_in = c.new_in;
      once = λ n. let h = once n in let e = counted_fork n at (new ∷ numbers_of l) (numbers_of r) in omega arith;
    }

pub inserts_right : (nodes : List StoredNode) (at new : ℕ) (stored : StoredNode) (t l r : NodeTree) → CanInsert nodes (Some at) new t →
    Open nodes at stored t l r → CanInsert nodes stored.node.right new r
inserts_right nodes at new stored t l r c o =
    let P : NodeTree → Type 0 = λ v. Once (new ∷ numbers_of v) in
    let once : Once (new ∷ numbers_of (Fork at l r)) = subst P o.is c.once in
    record {
      tree = o.right;
      new_in = c.new_in;
      once = λ n. let h = once n in
          let e = counted_fork n at (new ∷ numbers_of l) (numbers_of r) in
          let f : times n (new ∷ numbers_of r) ≡ times n (new ∷ []) + times n (numbers_of r) = times-append n (new ∷ []) (numbers_of r) in
          let g : times n (new ∷ numbers_of l) ≡ times n (new ∷ []) + times n (numbers_of l) = times-append n (new ∷ []) (numbers_of l) in
          omega arith;
    }

pub inserted_left : (nodes n1 : List StoredNode) (at new : ℕ) (stored : StoredNode) (left : Option ℕ) (t l r u : NodeTree) →
    CanInsert nodes (Some at) new t → Open nodes at stored t l r →
    Leaves nodes n1 left (new ∷ numbers_of l) (insert_ranked (rank nodes) new (numbers_of l)) (height_under nodes stored.node.left) (height_under nodes stored.node.left + 1) u →
    NewLeft nodes n1 at left stored.node.right (new ∷ numbers_of l) (insert_ranked (rank nodes) new (numbers_of l)) (height_under nodes stored.node.left) (height_under nodes stored.node.left + 1) l r u
inserted_left nodes n1 at new stored left t l r u c o v =
    let P : NodeTree → Type 0 = λ w. Once (new ∷ numbers_of w) in
    let once : Once (new ∷ numbers_of (Fork at l r)) = subst P o.is c.once in
    let hl : height_under nodes (root_of l) ≡ height_under nodes stored.node.left = ap (height_under nodes) o.left.root in
    record {
      leaves = v;
      apart = λ n h. let k = once n in
          let e = counted_fork n at (new ∷ numbers_of l) (numbers_of r) in
          let f : times n (at ∷ numbers_of r) ≡ times n (at ∷ []) + times n (numbers_of r) = times-append n (at ∷ []) (numbers_of r) in
          omega arith;
      once = λ n. let k = once n in
          let e = counted_fork n at (new ∷ numbers_of l) (numbers_of r) in
          let f = counted_fork n at (insert_ranked (rank nodes) new (numbers_of l)) (numbers_of r) in
          let g = times-insert (rank nodes) new n (numbers_of l) in
          omega arith;
      near = (omega arith, omega arith);
    }

pub inserted_right : (nodes n1 : List StoredNode) (at new : ℕ) (stored : StoredNode) (right : Option ℕ) (t l r u : NodeTree) →
    CanInsert nodes (Some at) new t → Open nodes at stored t l r →
    Leaves nodes n1 right (new ∷ numbers_of r) (insert_ranked (rank nodes) new (numbers_of r)) (height_under nodes stored.node.right) (height_under nodes stored.node.right + 1) u →
    NewRight nodes n1 at stored.node.left right (new ∷ numbers_of r) (insert_ranked (rank nodes) new (numbers_of r)) (height_under nodes stored.node.right) (height_under nodes stored.node.right + 1) l r u
inserted_right nodes n1 at new stored right t l r u c o v =
    let P : NodeTree → Type 0 = λ w. Once (new ∷ numbers_of w) in
    let once : Once (new ∷ numbers_of (Fork at l r)) = subst P o.is c.once in
    let hr : height_under nodes (root_of r) ≡ height_under nodes stored.node.right = ap (height_under nodes) o.right.root in
    record {
      leaves = v;
      apart = λ n h. let k = once n in
          let e = counted_fork n at (new ∷ numbers_of l) (numbers_of r) in
          let f : times n (new ∷ numbers_of r) ≡ times n (new ∷ []) + times n (numbers_of r) = times-append n (new ∷ []) (numbers_of r) in
          let g : times n (new ∷ numbers_of l) ≡ times n (new ∷ []) + times n (numbers_of l) = times-append n (new ∷ []) (numbers_of l) in
          omega arith;
      once = λ n. let k = once n in
          let e = counted_fork n at (new ∷ numbers_of l) (numbers_of r) in
          let f : times n (new ∷ numbers_of r) ≡ times n (new ∷ []) + times n (numbers_of r) = times-append n (new ∷ []) (numbers_of r) in
          let g : times n (new ∷ numbers_of l) ≡ times n (new ∷ []) + times n (numbers_of l) = times-append n (new ∷ []) (numbers_of l) in
          let i = counted_fork n at (numbers_of l) (insert_ranked (rank nodes) new (numbers_of r)) in
          let j = times-insert (rank nodes) new n (numbers_of r) in
          omega arith;
      near = (omega arith, omega arith);
    }

-- a change that stands in the left side, or in the right, stands in the whole
pub inserted_left_joined : (nodes n1 n2 : List StoredNode) (at new : ℕ) (stored : StoredNode) (left : Option ℕ) (result : ℕ) (t l r u v : NodeTree) →
    CanInsert nodes (Some at) new t → Open nodes at stored t l r → rank nodes new < rank nodes at →
    Leaves nodes n1 left (new ∷ numbers_of l) (insert_ranked (rank nodes) new (numbers_of l)) (height_under nodes stored.node.left) (height_under nodes stored.node.left + 1) u →
    Joins n1 n2 left stored.node.right (numbers_of u ++ at ∷ numbers_of r) result v →
    Leaves nodes n2 (Some result) (new ∷ numbers_of t) (insert_ranked (rank nodes) new (numbers_of t)) (height_under nodes (Some at)) (height_under nodes (Some at) + 1) v
inserted_left_joined nodes n1 n2 at new stored left result t l r u v c o lt lv j =
    let w = inserted_left nodes n1 at new stored left t l r u c o lv in
    let hr = (new_left_joins nodes n1 at stored left _ _ _ _ t l r u o w).1 in
    let settle : SettlesAt (height_under n1 left) (height_under nodes stored.node.right) (height_under n2 (Some result)) = rw (← hr) j.height in
    let tall = grown (height_under nodes stored.node.left) (height_under nodes stored.node.right) (height_under nodes (Some at)) (height_under n1 left) _
    o.height o.even lv.not_lower lv.not_higher settle.not_lower settle.at_most_one_higher settle.higher in
    rw (o.is, insert-left (rank nodes) new at (numbers_of l) (numbers_of r) lt)
    (new_left_leaves nodes n1 n2 at left stored.node.right _ _ (new ∷ numbers_of (Fork at l r)) _ _
    (height_under nodes (Some at)) (height_under nodes (Some at) + 1) result l r u v w j
    (λ n h. let e = counted_fork n at (new ∷ numbers_of l) (numbers_of r) in omega arith)
    (λ n h. let e = counted_fork n at (new ∷ numbers_of l) (numbers_of r) in
    let f = counted_fork n at (insert_ranked (rank nodes) new (numbers_of l)) (numbers_of r) in
    let g = times-insert (rank nodes) new n (numbers_of l) in omega arith)
    tall.0 tall.1)

pub inserted_right_joined : (nodes n1 n2 : List StoredNode) (at new : ℕ) (stored : StoredNode) (right : Option ℕ) (result : ℕ) (t l r u v : NodeTree) →
    CanInsert nodes (Some at) new t → Open nodes at stored t l r → rank nodes at ≤ rank nodes new →
    Leaves nodes n1 right (new ∷ numbers_of r) (insert_ranked (rank nodes) new (numbers_of r)) (height_under nodes stored.node.right) (height_under nodes stored.node.right + 1) u →
    Joins n1 n2 stored.node.left right (numbers_of l ++ at ∷ numbers_of u) result v →
    Leaves nodes n2 (Some result) (new ∷ numbers_of t) (insert_ranked (rank nodes) new (numbers_of t)) (height_under nodes (Some at)) (height_under nodes (Some at) + 1) v
inserted_right_joined nodes n1 n2 at new stored right result t l r u v c o le lv j =
    let w = inserted_right nodes n1 at new stored right t l r u c o lv in
    let hl = (new_right_joins nodes n1 at stored right _ _ _ _ t l r u o w).1 in
    let settle : SettlesAt (height_under nodes stored.node.left) (height_under n1 right) (height_under n2 (Some result)) = rw (← hl) j.height in
    let even = o.even in let over = settle.not_lower in let under = settle.at_most_one_higher in let high = o.height in
    let tall = grown (height_under nodes stored.node.right) (height_under nodes stored.node.left) (height_under nodes (Some at)) (height_under n1 right) (height_under n2 (Some result))
    (omega arith) (omega arith, omega arith) lv.not_lower lv.not_higher (omega arith) (omega arith) (λ d. let e = settle.higher (d.1, d.0) in omega arith) in
    rw (o.is, insert-right (rank nodes) new at (numbers_of l) (numbers_of r) o.ascends le)
    (new_right_leaves nodes n1 n2 at stored.node.left right _ _ (new ∷ numbers_of (Fork at l r)) _ _
    (height_under nodes (Some at)) (height_under nodes (Some at) + 1) result l r u v w j
    (λ n h. let e = counted_fork n at (new ∷ numbers_of l) (numbers_of r) in
    let f : times n (new ∷ numbers_of r) ≡ times n (new ∷ []) + times n (numbers_of r) = times-append n (new ∷ []) (numbers_of r) in
    let g : times n (new ∷ numbers_of l) ≡ times n (new ∷ []) + times n (numbers_of l) = times-append n (new ∷ []) (numbers_of l) in
    omega arith)
    (λ n h. let e = counted_fork n at (new ∷ numbers_of l) (numbers_of r) in
    let f : times n (new ∷ numbers_of r) ≡ times n (new ∷ []) + times n (numbers_of r) = times-append n (new ∷ []) (numbers_of r) in
    let g : times n (new ∷ numbers_of l) ≡ times n (new ∷ []) + times n (numbers_of l) = times-append n (new ∷ []) (numbers_of l) in
    let i = counted_fork n at (numbers_of l) (insert_ranked (rank nodes) new (numbers_of r)) in
    let k = times-insert (rank nodes) new n (numbers_of r) in omega arith)
    tall.0 tall.1)

-- the steps of an insertion, as the code takes them

pub insert_goes_left : (nodes : List StoredNode) (at new : ℕ) (link : Option ℕ) (stored : StoredNode) (t : NodeTree) →
    link ≡ Some at → stored ≡ stored_at nodes at → CanInsert nodes link new t →
    (height_under nodes stored.node.left < height_under nodes link) × ((l : NodeTree) × CanInsert nodes stored.node.left new l)
insert_goes_left nodes at new link stored t isl iss c =
    let P : Option ℕ → Type 0 = λ w. CanInsert nodes w new t in
    let c2 : CanInsert nodes (Some at) new t = subst P isl c in
    let op = open_tree nodes at stored t iss c2.tree in
    let h = op.2.height in
    (rw isl (omega arith), (op.0, inserts_left nodes at new stored t op.0 op.1 c2 op.2))

pub insert_goes_right : (nodes : List StoredNode) (at new : ℕ) (link : Option ℕ) (stored : StoredNode) (t : NodeTree) →
    link ≡ Some at → stored ≡ stored_at nodes at → CanInsert nodes link new t →
    (height_under nodes stored.node.right < height_under nodes link) × ((r : NodeTree) × CanInsert nodes stored.node.right new r)
insert_goes_right nodes at new link stored t isl iss c =
    let P : Option ℕ → Type 0 = λ w. CanInsert nodes w new t in
    let c2 : CanInsert nodes (Some at) new t = subst P isl c in
    let op = open_tree nodes at stored t iss c2.tree in
    let h = op.2.height in
    (rw isl (omega arith), (op.1, inserts_right nodes at new stored t op.0 op.1 c2 op.2))

pub insert_joins_left : (nodes n1 : List StoredNode) (at new left : ℕ) (link : Option ℕ) (stored : StoredNode) (t : NodeTree) →
    link ≡ Some at → stored ≡ stored_at nodes at → CanInsert nodes link new t → InsertsTo nodes n1 stored.node.left new left →
    (l r : NodeTree) × CanJoin n1 at (Some left) stored.node.right l r
insert_joins_left nodes n1 at new left link stored t isl iss c i =
    let P : Option ℕ → Type 0 = λ w. CanInsert nodes w new t in
    let c2 : CanInsert nodes (Some at) new t = subst P isl c in
    let op = open_tree nodes at stored t iss c2.tree in
    let u = i op.0 (inserts_left nodes at new stored t op.0 op.1 c2 op.2) in (
      u.0,
      op.1,
      (new_left_joins nodes n1 at stored (Some left) _ _ _ _ t op.0 op.1 u.0 op.2
          (inserted_left nodes n1 at new stored (Some left) t op.0 op.1 u.0 c2 op.2 u.1)).0,
    )

pub insert_joins_right : (nodes n1 : List StoredNode) (at new right : ℕ) (link : Option ℕ) (stored : StoredNode) (t : NodeTree) →
    link ≡ Some at → stored ≡ stored_at nodes at → CanInsert nodes link new t → InsertsTo nodes n1 stored.node.right new right →
    (l r : NodeTree) × CanJoin n1 at stored.node.left (Some right) l r
insert_joins_right nodes n1 at new right link stored t isl iss c i =
    let P : Option ℕ → Type 0 = λ w. CanInsert nodes w new t in
    let c2 : CanInsert nodes (Some at) new t = subst P isl c in
    let op = open_tree nodes at stored t iss c2.tree in
    let u = i op.1 (inserts_right nodes at new stored t op.0 op.1 c2 op.2) in (
      op.0,
      u.0,
      (new_right_joins nodes n1 at stored (Some right) _ _ _ _ t op.0 op.1 u.0 op.2
          (inserted_right nodes n1 at new stored (Some right) t op.0 op.1 u.0 c2 op.2 u.1)).0,
    )

pub insert_ends_left : (nodes n1 n2 : List StoredNode) (at new left result : ℕ) (link : Option ℕ) (stored : StoredNode) →
    link ≡ Some at → stored ≡ stored_at nodes at → rank nodes new < rank nodes at →
    InsertsTo nodes n1 stored.node.left new left → JoinsTo n1 n2 at (Some left) stored.node.right result →
    InsertsTo nodes n2 link new result
insert_ends_left nodes n1 n2 at new left result link stored isl iss lt i j = λ t c.
    let P : Option ℕ → Type 0 = λ w. CanInsert nodes w new t in
    let c2 : CanInsert nodes (Some at) new t = subst P isl c in
    let op = open_tree nodes at stored t iss c2.tree in
    let u = i op.0 (inserts_left nodes at new stored t op.0 op.1 c2 op.2) in
    let can = (new_left_joins nodes n1 at stored (Some left) _ _ _ _ t op.0 op.1 u.0 op.2
    (inserted_left nodes n1 at new stored (Some left) t op.0 op.1 u.0 c2 op.2 u.1)).0 in
    let v = j u.0 op.1 can in
    (v.0, rw isl (inserted_left_joined nodes n1 n2 at new stored (Some left) result t op.0 op.1 u.0 v.0 c2 op.2 lt u.1 v.1))

pub insert_ends_right : (nodes n1 n2 : List StoredNode) (at new right result : ℕ) (link : Option ℕ) (stored : StoredNode) →
    link ≡ Some at → stored ≡ stored_at nodes at → rank nodes at ≤ rank nodes new →
    InsertsTo nodes n1 stored.node.right new right → JoinsTo n1 n2 at stored.node.left (Some right) result →
    InsertsTo nodes n2 link new result
insert_ends_right nodes n1 n2 at new right result link stored isl iss le i j = λ t c.
    let P : Option ℕ → Type 0 = λ w. CanInsert nodes w new t in
    let c2 : CanInsert nodes (Some at) new t = subst P isl c in
    let op = open_tree nodes at stored t iss c2.tree in
    let u = i op.1 (inserts_right nodes at new stored t op.0 op.1 c2 op.2) in
    let can = (new_right_joins nodes n1 at stored (Some right) _ _ _ _ t op.0 op.1 u.0 op.2
    (inserted_right nodes n1 at new stored (Some right) t op.0 op.1 u.0 c2 op.2 u.1)).0 in
    let v = j op.0 u.0 can in
    (v.0, rw isl (inserted_right_joined nodes n1 n2 at new stored (Some right) result t op.0 op.1 u.0 v.0 c2 op.2 le u.1 v.1))

-- what the comparison of two nodes says of their numbers
pub ranks_below : (nodes : List StoredNode) (low high : ℕ) (first second : StoredNode) → first ≡ stored_at nodes low → second ≡ stored_at nodes high →
    rank_of first.node < rank_of second.node → rank nodes low < rank nodes high
ranks_below nodes low high first second a b h =
    let P : StoredNode → Type 0 = λ v. rank_of v.node < rank_of second.node in
    let Q : StoredNode → Type 0 = λ v. rank nodes low < rank_of v.node in
    subst Q b (subst P a h)

pub ranks_above : (nodes : List StoredNode) (low high : ℕ) (first second : StoredNode) → first ≡ stored_at nodes low → second ≡ stored_at nodes high →
    (rank_of first.node < rank_of second.node → ⊥) → rank nodes high ≤ rank nodes low
ranks_above nodes low high first second a b h = elim (cases_lt (rank nodes low) (rank nodes high)) [
  | inl below ↦ absurd (h (let P : StoredNode → Type 0 = λ v. rank_of v.node < rank_of second.node in
      let Q : StoredNode → Type 0 = λ v. rank nodes low < rank_of v.node in subst P (sym a) (subst Q (sym b) below)))
  | inr above ↦ above
]
