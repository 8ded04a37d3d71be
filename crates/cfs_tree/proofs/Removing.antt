-- A node leaves a tree.
use Rattle.std.proofs.Common.{◌≡◌, ◌≢◌, ℕ, ◌+◌, ◌-◌, ◌<◌, ◌≤◌, Option, None, Some, List, [], ◌∷◌, ◌++◌, length, refl, sym, ◌∙◌, ap, subst, max, arith, inl, inr}
use Rattle.std.proofs.lemmas.List.{append-nil}
use Rattle.std.proofs.lemmas.Bool.{cases_lt}
use Rattle.std.proofs.lemmas.Bool.Decides.{eqb_tells}
use Rattle.cfs_tree.specs.declared.store.stored_node.StoredNode.{StoredNode}
use Rattle.cfs_tree.specs.Nodes.{stored_at, height_under}
use Rattle.cfs_tree.specs.Shape.{NodeTree, Empty, Fork, root_of, numbers_of, Stands, times, DifferByAtMost}
use Rattle.cfs_tree.specs.Turn.{Relinks, SettlesAt, Joins, CanJoin, JoinsTo}
use Rattle.cfs_tree.specs.Change.{rank, without, IsTree, Leaves, CanJoinSides, RemovesTo, TakesLeast, JoinsSides}
use Rattle.cfs_tree.proofs.Standing.{times-append, times-here, Stands-same, height_under-same, Relinks-then}
use Rattle.cfs_tree.proofs.Turning.{counted_fork}
use Rattle.cfs_tree.proofs.Ranked.{without-left, without-right, without-here, times-without}
use Rattle.cfs_tree.proofs.Changing.{Open, open_tree, Relinks-more, NewLeft, new_left_joins, new_left_leaves, NewRight, new_right_joins, new_right_leaves, shrunk}

pub Relinks-none : (nodes : List StoredNode) (among : List ℕ) → Relinks nodes nodes among
Relinks-none nodes among = record { len = refl; places = λ n. refl; spans = λ n. refl; others = λ n h. refl }

-- the numbers of a tree are the store's
pub numbers_within : (nodes : List StoredNode) (t : NodeTree) (n : ℕ) → Stands nodes t → 0 < times n (numbers_of t) → n < length nodes
numbers_within nodes Empty n s h = absurd (omega arith)
numbers_within nodes (Fork at l r) n s h =
    let e = counted_fork n at (numbers_of l) (numbers_of r) in
    elim (cases_lt 0 (times n (numbers_of l))) [
      | inl left ↦ numbers_within nodes l n s.3 left
      | inr not_left ↦ elim (cases_lt 0 (times n (numbers_of r))) [
        | inl right ↦ numbers_within nodes r n s.4 right
        | inr not_right ↦ elim (eqb_tells n at) [
          | inl same ↦ rw same.1 s.0
          | inr other ↦ let none : times n (at ∷ []) ≡ 0 = rw other.0 refl in absurd (omega arith)
        ]
      ]
    ]

pub empty_of : (t : NodeTree) → root_of t ≡ None → numbers_of t ≡ []
empty_of Empty e = refl
empty_of (Fork at l r) e = absurd (cc)

-- one side shrank
pub removed_left : (nodes n1 : List StoredNode) (at : ℕ) (stored : StoredNode) (left : Option ℕ) (holds : List ℕ) (t l r u : NodeTree) →
    Open nodes at stored t l r → ((n : ℕ) → times n holds ≤ times n (numbers_of l)) →
    Leaves nodes n1 left (numbers_of l) holds (height_under nodes stored.node.left - 1) (height_under nodes stored.node.left) u →
    NewLeft nodes n1 at left stored.node.right (numbers_of l) holds (height_under nodes stored.node.left - 1) (height_under nodes stored.node.left) l r u
removed_left nodes n1 at stored left holds t l r u o fewer v =
    let hl : height_under nodes (root_of l) ≡ height_under nodes stored.node.left = ap (height_under nodes) o.left.root in
    record {
      leaves = v;
      apart = λ n h. let k = o.count n in
          let f : times n (at ∷ numbers_of r) ≡ times n (at ∷ []) + times n (numbers_of r) = times-append n (at ∷ []) (numbers_of r) in
          omega arith;
      once = λ n. let k = o.count n in let f = counted_fork n at holds (numbers_of r) in let g = fewer n in omega arith;
      near = (omega arith, omega arith);
    }

pub removed_right : (nodes n1 : List StoredNode) (at : ℕ) (stored : StoredNode) (right : Option ℕ) (holds : List ℕ) (t l r u : NodeTree) →
    Open nodes at stored t l r → ((n : ℕ) → times n holds ≤ times n (numbers_of r)) →
    Leaves nodes n1 right (numbers_of r) holds (height_under nodes stored.node.right - 1) (height_under nodes stored.node.right) u →
    NewRight nodes n1 at stored.node.left right (numbers_of r) holds (height_under nodes stored.node.right - 1) (height_under nodes stored.node.right) l r u
removed_right nodes n1 at stored right holds t l r u o fewer v =
    let hr : height_under nodes (root_of r) ≡ height_under nodes stored.node.right = ap (height_under nodes) o.right.root in
    record {
      leaves = v;
      apart = λ n h. let k = o.count n in omega arith;
      once = λ n. let k = o.count n in let f = counted_fork n at (numbers_of l) holds in let g = fewer n in omega arith;
      near = (omega arith, omega arith);
    }

pub removed_left_joined : (nodes n1 n2 : List StoredNode) (at : ℕ) (stored : StoredNode) (left : Option ℕ) (result : ℕ) (holds : List ℕ) (t l r u v : NodeTree) →
    Open nodes at stored t l r → ((n : ℕ) → times n holds ≤ times n (numbers_of l)) →
    Leaves nodes n1 left (numbers_of l) holds (height_under nodes stored.node.left - 1) (height_under nodes stored.node.left) u →
    Joins n1 n2 left stored.node.right (numbers_of u ++ at ∷ numbers_of r) result v →
    Leaves nodes n2 (Some result) (numbers_of t) (holds ++ at ∷ numbers_of r) (height_under nodes (Some at) - 1) (height_under nodes (Some at)) v
removed_left_joined nodes n1 n2 at stored left result holds t l r u v o fewer lv j =
    let w = removed_left nodes n1 at stored left holds t l r u o fewer lv in
    let hr = (new_left_joins nodes n1 at stored left _ _ _ _ t l r u o w).1 in
    let settle : SettlesAt (height_under n1 left) (height_under nodes stored.node.right) (height_under n2 (Some result)) = rw (← hr) j.height in
    let tall = shrunk (height_under nodes stored.node.left) (height_under nodes stored.node.right) (height_under nodes (Some at)) (height_under n1 left) _
    o.height o.even lv.not_lower lv.not_higher settle.not_lower settle.at_most_one_higher settle.higher in
    rw o.is (new_left_leaves nodes n1 n2 at left stored.node.right _ _ (numbers_of (Fork at l r)) _ _
    (height_under nodes (Some at) - 1) (height_under nodes (Some at)) result l r u v w j
    (λ n h. let e = counted_fork n at (numbers_of l) (numbers_of r) in omega arith)
    (λ n h. let e = counted_fork n at (numbers_of l) (numbers_of r) in
    let f = counted_fork n at holds (numbers_of r) in let g = fewer n in omega arith)
    tall.0 tall.1)

pub removed_right_joined : (nodes n1 n2 : List StoredNode) (at : ℕ) (stored : StoredNode) (right : Option ℕ) (result : ℕ) (holds : List ℕ) (t l r u v : NodeTree) →
    Open nodes at stored t l r → ((n : ℕ) → times n holds ≤ times n (numbers_of r)) →
    Leaves nodes n1 right (numbers_of r) holds (height_under nodes stored.node.right - 1) (height_under nodes stored.node.right) u →
    Joins n1 n2 stored.node.left right (numbers_of l ++ at ∷ numbers_of u) result v →
    Leaves nodes n2 (Some result) (numbers_of t) (numbers_of l ++ at ∷ holds) (height_under nodes (Some at) - 1) (height_under nodes (Some at)) v
removed_right_joined nodes n1 n2 at stored right result holds t l r u v o fewer lv j =
    let w = removed_right nodes n1 at stored right holds t l r u o fewer lv in
    let hl = (new_right_joins nodes n1 at stored right _ _ _ _ t l r u o w).1 in
    let settle : SettlesAt (height_under nodes stored.node.left) (height_under n1 right) (height_under n2 (Some result)) = rw (← hl) j.height in
    let even = o.even in let over = settle.not_lower in let under = settle.at_most_one_higher in let high = o.height in
    let tall = shrunk (height_under nodes stored.node.right) (height_under nodes stored.node.left) (height_under nodes (Some at)) (height_under n1 right) (height_under n2 (Some result))
    (omega arith) (omega arith, omega arith) lv.not_lower lv.not_higher (omega arith) (omega arith) (λ d. let e = settle.higher (d.1, d.0) in omega arith) in
    rw o.is (new_right_leaves nodes n1 n2 at stored.node.left right _ _ (numbers_of (Fork at l r)) _ _
    (height_under nodes (Some at) - 1) (height_under nodes (Some at)) result l r u v w j
    (λ n h. let e = counted_fork n at (numbers_of l) (numbers_of r) in omega arith)
    (λ n h. let e = counted_fork n at (numbers_of l) (numbers_of r) in
    let f = counted_fork n at (numbers_of l) holds in let g = fewer n in omega arith)
    tall.0 tall.1)

-- THE LEAST

pub least_goes_left : (nodes : List StoredNode) (at left : ℕ) (stored : StoredNode) (t : NodeTree) →
    stored ≡ stored_at nodes at → stored.node.left ≡ Some left → IsTree nodes (Some at) t →
    ((stored_at nodes left).height < (stored_at nodes at).height) × ((l : NodeTree) × IsTree nodes (Some left) l)
least_goes_left nodes at left stored t iss isl i =
    let op = open_tree nodes at stored t iss i in
    let P : Option ℕ → Type 0 = λ w. IsTree nodes w op.0 in
    let h : height_under nodes stored.node.left ≡ (stored_at nodes left).height = ap (height_under nodes) isl in
    let tall = op.2.height in
    (omega arith, (op.0, subst P isl op.2.left))

pub least_joins : (nodes n1 : List StoredNode) (at left least : ℕ) (rest : Option ℕ) (stored : StoredNode) (t : NodeTree) →
    stored ≡ stored_at nodes at → stored.node.left ≡ Some left → IsTree nodes (Some at) t → TakesLeast nodes n1 left least rest →
    (l r : NodeTree) × CanJoin n1 at rest stored.node.right l r
least_joins nodes n1 at left least rest stored t iss isl i takes =
    let op = open_tree nodes at stored t iss i in
    let P : Option ℕ → Type 0 = λ w. IsTree nodes w op.0 in
    let u = takes op.0 (subst P isl op.2.left) in
    let lv : Leaves nodes n1 rest (numbers_of op.0) (numbers_of u.0) (height_under nodes stored.node.left - 1) (height_under nodes stored.node.left) u.0 =
    (let Q : ℕ → Type 0 = λ h. Leaves nodes n1 rest (numbers_of op.0) (numbers_of u.0) (h - 1) h u.0 in
    let same : height_under nodes (Some left) ≡ height_under nodes stored.node.left = ap (height_under nodes) (sym isl) in subst Q same u.2) in
    let fewer : (n : ℕ) → times n (numbers_of u.0) ≤ times n (numbers_of op.0) =
    λ n. let e : times n (numbers_of op.0) ≡ times n (least ∷ []) + times n (numbers_of u.0) = ap (times n) u.1 ∙ times-append n (least ∷ []) (numbers_of u.0) in omega arith in (
      u.0,
      op.1,
      (new_left_joins nodes n1 at stored rest _ _ _ _ t op.0 op.1 u.0 op.2
          (removed_left nodes n1 at stored rest (numbers_of u.0) t op.0 op.1 u.0 op.2 fewer lv)).0,
    )

pub least_ends : (nodes n1 n2 : List StoredNode) (at left least result : ℕ) (rest : Option ℕ) (stored : StoredNode) →
    stored ≡ stored_at nodes at → stored.node.left ≡ Some left → TakesLeast nodes n1 left least rest →
    JoinsTo n1 n2 at rest stored.node.right result → TakesLeast nodes n2 at least (Some result)
least_ends nodes n1 n2 at left least result rest stored iss isl takes j = λ t i.
    let op = open_tree nodes at stored t iss i in
    let P : Option ℕ → Type 0 = λ w. IsTree nodes w op.0 in
    let u = takes op.0 (subst P isl op.2.left) in
    let lv : Leaves nodes n1 rest (numbers_of op.0) (numbers_of u.0) (height_under nodes stored.node.left - 1) (height_under nodes stored.node.left) u.0 =
    (let Q : ℕ → Type 0 = λ h. Leaves nodes n1 rest (numbers_of op.0) (numbers_of u.0) (h - 1) h u.0 in
    let same : height_under nodes (Some left) ≡ height_under nodes stored.node.left = ap (height_under nodes) (sym isl) in subst Q same u.2) in
    let fewer : (n : ℕ) → times n (numbers_of u.0) ≤ times n (numbers_of op.0) =
    λ n. let e : times n (numbers_of op.0) ≡ times n (least ∷ []) + times n (numbers_of u.0) = ap (times n) u.1 ∙ times-append n (least ∷ []) (numbers_of u.0) in omega arith in
    let can = (new_left_joins nodes n1 at stored rest _ _ _ _ t op.0 op.1 u.0 op.2
    (removed_left nodes n1 at stored rest (numbers_of u.0) t op.0 op.1 u.0 op.2 fewer lv)).0 in
    let v = j u.0 op.1 can in (
      v.0,
      ap numbers_of op.2.is ∙ ap (λ w. w ++ at ∷ numbers_of op.1) u.1 ∙ sym (ap (λ w. least ∷ w) v.1.numbers),
      rw v.1.numbers (removed_left_joined nodes n1 n2 at stored rest result (numbers_of u.0) t op.0 op.1 u.0 v.0 op.2 fewer lv v.1),
    )

pub least_here : (nodes : List StoredNode) (at : ℕ) (stored : StoredNode) → stored ≡ stored_at nodes at → stored.node.left ≡ None →
    TakesLeast nodes nodes at at stored.node.right
least_here nodes at stored iss isl = λ t i.
    let op = open_tree nodes at stored t iss i in
    let o = op.2 in
    let empty : numbers_of op.0 ≡ [] = empty_of op.0 (o.left.root ∙ isl) in
    let h : height_under nodes stored.node.left ≡ 0 = ap (height_under nodes) isl in
    let tall = o.height in (
      op.1,
      ap numbers_of o.is ∙ ap (λ w. w ++ at ∷ numbers_of op.1) empty,
      record {
        root = o.right.root;
        stands = o.right.stands;
        numbers = refl;
        relinks = Relinks-none nodes _;
        not_lower = omega arith;
        not_higher = omega arith;
      },
    )

-- TWO SIDES

pub sides_join : (nodes n1 : List StoredNode) (first least : ℕ) (left right rest : Option ℕ) (l r : NodeTree) →
    right ≡ Some first → CanJoinSides nodes left right l r → TakesLeast nodes n1 first least rest →
    (u : NodeTree) × (numbers_of r ≡ least ∷ numbers_of u)
    × Leaves nodes n1 rest (numbers_of r) (numbers_of u) (height_under nodes right - 1) (height_under nodes right) u
    × CanJoin n1 least left rest l u × (height_under n1 left ≡ height_under nodes left)
sides_join nodes n1 first least left right rest l r isr c takes =
    let P : Option ℕ → Type 0 = λ w. IsTree nodes w r in
    let u = takes r (subst P isr c.right_tree) in
    let lv : Leaves nodes n1 rest (numbers_of r) (numbers_of u.0) (height_under nodes right - 1) (height_under nodes right) u.0 = rw isr u.2 in
    let same : (n : ℕ) → 0 < times n (numbers_of l) → stored_at n1 n ≡ stored_at nodes n =
    λ n h. lv.relinks.others n (let k = c.once n in let e = times-append n (numbers_of l) (numbers_of r) in omega arith) in
    let hl : height_under n1 (root_of l) ≡ height_under nodes (root_of l) = height_under-same nodes n1 l same in
    let hleft : height_under n1 left ≡ height_under nodes left = rw (← c.left_tree.root) hl in
    let even = c.even in let f1 = c.left_tree.fits in let f2 = c.right_tree.fits in
    let low = lv.not_lower in let high = lv.not_higher in
    let within : least < length nodes = numbers_within nodes r least c.right_tree.stands
    (rw u.1 (let e = times-here least (numbers_of u.0) in omega arith)) in (
      u.0,
      u.1,
      lv,
      (
        record {
          left_root = c.left_tree.root;
          right_root = lv.root;
          node = rw lv.relinks.len within;
          left_stands = Stands-same nodes n1 l lv.relinks.len same c.left_tree.stands;
          right_stands = lv.stands;
          once = rw (← u.1) c.once;
        },
        (omega arith, omega arith),
        omega arith,
      ),
      hleft,
    )

-- the height of two sides joined
sides_height : (left right rest h : ℕ) → DifferByAtMost 1 left right → right - 1 ≤ rest → rest ≤ right →
    max left rest ≤ h → h ≤ max left rest + 1 → (DifferByAtMost 1 left rest → h ≡ max left rest + 1) → (max left right ≤ h) × (h ≤ max left right + 1)
sides_height left right rest h even low high over under settled = elim (cases_lt (rest + 1) left) [
  | inl far ↦ (omega arith, omega arith)
  | inr near ↦ let e : h ≡ max left rest + 1 = settled (near, omega arith) in (omega arith, omega arith)
]

pub sides_end : (nodes n1 n2 : List StoredNode) (first least result : ℕ) (left right rest : Option ℕ) →
    right ≡ Some first → TakesLeast nodes n1 first least rest → JoinsTo n1 n2 least left rest result →
    JoinsSides nodes n2 left right (Some result)
sides_end nodes n1 n2 first least result left right rest isr takes j = λ l r c.
    let s = sides_join nodes n1 first least left right rest l r isr c takes in
    let v = j l s.0 s.3 in
    let lv = s.2 in
    let is : numbers_of l ++ least ∷ numbers_of s.0 ≡ numbers_of l ++ numbers_of r = ap (λ w. numbers_of l ++ w) (sym s.1) in
    let settle : SettlesAt (height_under nodes left) (height_under n1 rest) (height_under n2 (Some result)) = rw (← s.4) v.1.height in
    let tall = sides_height (height_under nodes left) (height_under nodes right) (height_under n1 rest) (height_under n2 (Some result))
    c.even lv.not_lower lv.not_higher settle.not_lower settle.at_most_one_higher settle.higher in (
      v.0,
      record {
        root = v.1.root;
        stands = v.1.stands;
        numbers = v.1.numbers ∙ is;
        relinks = Relinks-then nodes n1 n2 _
            (Relinks-more nodes n1 (numbers_of r) _ lv.relinks (λ n h. let e = times-append n (numbers_of l) (numbers_of r) in omega arith))
            (Relinks-more n1 n2 _ _ v.1.relinks (λ n h. rw is h));
        not_lower = tall.0;
        not_higher = tall.1;
      },
    )

pub sides_alone : (nodes : List StoredNode) (left right : Option ℕ) → right ≡ None → JoinsSides nodes nodes left right left
sides_alone nodes left right isr = λ l r c.
    let empty : numbers_of r ≡ [] = empty_of r (c.right_tree.root ∙ isr) in
    let h : height_under nodes right ≡ 0 = ap (height_under nodes) isr in (
      l,
      record {
        root = c.left_tree.root;
        stands = c.left_tree.stands;
        numbers = sym (ap (λ w. numbers_of l ++ w) empty ∙ append-nil (numbers_of l));
        relinks = Relinks-none nodes _;
        not_lower = omega arith;
        not_higher = omega arith;
      },
    )

-- REMOVE

pub remove_none : (nodes : List StoredNode) (at : Option ℕ) (gone : ℕ) → at ≡ None → RemovesTo nodes nodes at gone None
remove_none nodes at gone is = λ t i.
    let empty : numbers_of t ≡ [] = empty_of t (i.root ∙ is) in
    let h : height_under nodes at ≡ 0 = ap (height_under nodes) is in (
      t,
      record {
        root = i.root ∙ is;
        stands = i.stands;
        numbers = rw empty refl;
        relinks = Relinks-none nodes _;
        not_lower = omega arith;
        not_higher = omega arith;
      },
    )

pub remove_here_joins : (nodes : List StoredNode) (at : ℕ) (link : Option ℕ) (stored : StoredNode) (t : NodeTree) →
    link ≡ Some at → stored ≡ stored_at nodes at → IsTree nodes link t →
    (l r : NodeTree) × CanJoinSides nodes stored.node.left stored.node.right l r
remove_here_joins nodes at link stored t isl iss i =
    let P : Option ℕ → Type 0 = λ w. IsTree nodes w t in
    let op = open_tree nodes at stored t iss (subst P isl i) in
    let o = op.2 in (
      op.0,
      op.1,
      record {
        left_tree = o.left;
        right_tree = o.right;
        once = λ n. let k = o.count n in let e = times-append n (numbers_of op.0) (numbers_of op.1) in omega arith;
        even = o.even;
      },
    )

pub remove_here_ends : (nodes n1 : List StoredNode) (at gone : ℕ) (link result : Option ℕ) (stored : StoredNode) →
    link ≡ Some at → stored ≡ stored_at nodes at → at ≡ gone → JoinsSides nodes n1 stored.node.left stored.node.right result →
    RemovesTo nodes n1 link gone result
remove_here_ends nodes n1 at gone link result stored isl iss same j = λ t i.
    let P : Option ℕ → Type 0 = λ w. IsTree nodes w t in
    let op = open_tree nodes at stored t iss (subst P isl i) in
    let o = op.2 in
    let u = j op.0 op.1 (record {
      left_tree = o.left;
      right_tree = o.right;
      once = λ n. let k = o.count n in let e = times-append n (numbers_of op.0) (numbers_of op.1) in omega arith;
      even = o.even;
    }) in
    let v = u.1 in
    let low = v.not_lower in let high = v.not_higher in let tall = o.height in
    let h : height_under nodes link ≡ height_under nodes (Some at) = ap (height_under nodes) isl in
    let out : without gone (numbers_of t) ≡ numbers_of op.0 ++ numbers_of op.1 =
    ap (λ w. without gone (numbers_of w)) o.is ∙ ap (λ g. without g (numbers_of op.0 ++ at ∷ numbers_of op.1)) (sym same)
    ∙ without-here (rank nodes) at (numbers_of op.0) (numbers_of op.1) o.ascends in (
      u.0,
      record {
        root = v.root;
        stands = v.stands;
        numbers = v.numbers ∙ sym out;
        relinks = Relinks-more nodes n1 _ _ v.relinks (λ n none.
            let e = times-append n (numbers_of op.0) (numbers_of op.1) in
            let f = counted_fork n at (numbers_of op.0) (numbers_of op.1) in
            let g : times n (numbers_of t) ≡ times n (numbers_of (Fork at op.0 op.1)) = ap (λ w. times n (numbers_of w)) o.is in omega arith);
        not_lower = omega arith;
        not_higher = omega arith;
      },
    )

pub remove_goes : (nodes : List StoredNode) (at : ℕ) (link : Option ℕ) (stored : StoredNode) (t : NodeTree) →
    link ≡ Some at → stored ≡ stored_at nodes at → IsTree nodes link t →
    (height_under nodes stored.node.left < height_under nodes link) × ((l : NodeTree) × IsTree nodes stored.node.left l)
    × (height_under nodes stored.node.right < height_under nodes link) × ((r : NodeTree) × IsTree nodes stored.node.right r)
remove_goes nodes at link stored t isl iss i =
    let P : Option ℕ → Type 0 = λ w. IsTree nodes w t in
    let op = open_tree nodes at stored t iss (subst P isl i) in
    let tall = op.2.height in
    (rw isl (omega arith), (op.0, op.2.left), rw isl (omega arith), (op.1, op.2.right))

pub remove_joins_left : (nodes n1 : List StoredNode) (at gone : ℕ) (link left : Option ℕ) (stored : StoredNode) (t : NodeTree) →
    link ≡ Some at → stored ≡ stored_at nodes at → IsTree nodes link t → RemovesTo nodes n1 stored.node.left gone left →
    (l r : NodeTree) × CanJoin n1 at left stored.node.right l r
remove_joins_left nodes n1 at gone link left stored t isl iss i removes =
    let P : Option ℕ → Type 0 = λ w. IsTree nodes w t in
    let op = open_tree nodes at stored t iss (subst P isl i) in
    let u = removes op.0 op.2.left in (
      u.0,
      op.1,
      (new_left_joins nodes n1 at stored left _ _ _ _ t op.0 op.1 u.0 op.2
          (removed_left nodes n1 at stored left _ t op.0 op.1 u.0 op.2 (λ n. times-without gone n (numbers_of op.0)) u.1)).0,
    )

pub remove_joins_right : (nodes n1 : List StoredNode) (at gone : ℕ) (link right : Option ℕ) (stored : StoredNode) (t : NodeTree) →
    link ≡ Some at → stored ≡ stored_at nodes at → IsTree nodes link t → RemovesTo nodes n1 stored.node.right gone right →
    (l r : NodeTree) × CanJoin n1 at stored.node.left right l r
remove_joins_right nodes n1 at gone link right stored t isl iss i removes =
    let P : Option ℕ → Type 0 = λ w. IsTree nodes w t in
    let op = open_tree nodes at stored t iss (subst P isl i) in
    let u = removes op.1 op.2.right in (
      op.0,
      u.0,
      (new_right_joins nodes n1 at stored right _ _ _ _ t op.0 op.1 u.0 op.2
          (removed_right nodes n1 at stored right _ t op.0 op.1 u.0 op.2 (λ n. times-without gone n (numbers_of op.1)) u.1)).0,
    )

pub remove_ends_left : (nodes n1 n2 : List StoredNode) (at gone result : ℕ) (link left : Option ℕ) (stored : StoredNode) →
    link ≡ Some at → stored ≡ stored_at nodes at → rank nodes gone < rank nodes at →
    RemovesTo nodes n1 stored.node.left gone left → JoinsTo n1 n2 at left stored.node.right result →
    RemovesTo nodes n2 link gone (Some result)
remove_ends_left nodes n1 n2 at gone result link left stored isl iss lt removes j = λ t i.
    let P : Option ℕ → Type 0 = λ w. IsTree nodes w t in
    let op = open_tree nodes at stored t iss (subst P isl i) in
    let o = op.2 in
    let fewer : (n : ℕ) → times n (without gone (numbers_of op.0)) ≤ times n (numbers_of op.0) = λ n. times-without gone n (numbers_of op.0) in
    let u = removes op.0 o.left in
    let can = (new_left_joins nodes n1 at stored left _ _ _ _ t op.0 op.1 u.0 o
    (removed_left nodes n1 at stored left _ t op.0 op.1 u.0 o fewer u.1)).0 in
    let v = j u.0 op.1 can in
    let out : without gone (numbers_of t) ≡ without gone (numbers_of op.0) ++ at ∷ numbers_of op.1 =
    ap (λ w. without gone (numbers_of w)) o.is ∙ without-left (rank nodes) gone at (numbers_of op.0) (numbers_of op.1) o.ascends lt in
    (v.0, rw (isl, out) (removed_left_joined nodes n1 n2 at stored left result _ t op.0 op.1 u.0 v.0 o fewer u.1 v.1))

pub remove_ends_right : (nodes n1 n2 : List StoredNode) (at gone result : ℕ) (link right : Option ℕ) (stored : StoredNode) →
    link ≡ Some at → stored ≡ stored_at nodes at → rank nodes at ≤ rank nodes gone → gone ≢ at →
    RemovesTo nodes n1 stored.node.right gone right → JoinsTo n1 n2 at stored.node.left right result →
    RemovesTo nodes n2 link gone (Some result)
remove_ends_right nodes n1 n2 at gone result link right stored isl iss le apart removes j = λ t i.
    let P : Option ℕ → Type 0 = λ w. IsTree nodes w t in
    let op = open_tree nodes at stored t iss (subst P isl i) in
    let o = op.2 in
    let fewer : (n : ℕ) → times n (without gone (numbers_of op.1)) ≤ times n (numbers_of op.1) = λ n. times-without gone n (numbers_of op.1) in
    let u = removes op.1 o.right in
    let can = (new_right_joins nodes n1 at stored right _ _ _ _ t op.0 op.1 u.0 o
    (removed_right nodes n1 at stored right _ t op.0 op.1 u.0 o fewer u.1)).0 in
    let v = j op.0 u.0 can in
    let out : without gone (numbers_of t) ≡ numbers_of op.0 ++ at ∷ without gone (numbers_of op.1) =
    ap (λ w. without gone (numbers_of w)) o.is ∙ without-right (rank nodes) gone at (numbers_of op.0) (numbers_of op.1) o.ascends le apart in
    (v.0, rw (isl, out) (removed_right_joined nodes n1 n2 at stored right result _ t op.0 op.1 u.0 v.0 o fewer u.1 v.1))
