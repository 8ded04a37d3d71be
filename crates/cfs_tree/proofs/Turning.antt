-- Each turn of a node leaves a tree of the same numbers in the same order.
use Rattle.std.proofs.Common.{◌≡◌, ℕ, ◌+◌, ◌<◌, ◌≤◌, Option, Some, List, [], ◌∷◌, ◌++◌, length, refl, sym, ◌∙◌, ap, subst, max, arith, append_assoc}
use Rattle.cfs_tree.specs.declared.store.stored_node.StoredNode.{StoredNode}
use Rattle.cfs_tree.specs.Nodes.{stored_at, height_under, linking}
use Rattle.cfs_tree.specs.Shape.{NodeTree, Empty, Fork, root_of, numbers_of, Stands, times, Once, DifferByAtMost}
use Rattle.cfs_tree.specs.Turn.{Relinks, Sides, Joins, CanJoin}
use Rattle.cfs_tree.proofs.Standing.{times-append, times-here, times-fork, Stands-link, height_under-link, Stands-fork, height_under-fork, Relinks-link, Relinks-then}

-- no turn is needed
pub joined_even : (nodes : List StoredNode) (at : ℕ) (l r : NodeTree) → Sides nodes at (root_of l) (root_of r) l r →
    DifferByAtMost 1 (height_under nodes (root_of l)) (height_under nodes (root_of r)) →
    Joins nodes (linking nodes at (root_of l) (root_of r)) (root_of l) (root_of r) (numbers_of l ++ at ∷ numbers_of r) at (Fork at l r)
joined_even nodes at l r s even =
    let once = s.once at in
    let count = times-fork at at l r in
    let here = times-here at (numbers_of r) in
    record {
      root = refl;
      stands = Stands-fork nodes at l r s.node (omega arith) (omega arith) s.left_stands s.right_stands even;
      numbers = refl;
      relinks = Relinks-link nodes at (root_of l) (root_of r) (numbers_of (Fork at l r)) s.node (omega arith);
      height = let h = height_under-fork nodes at (root_of l) (root_of r) s.node in record {
        not_lower = omega arith;
        at_most_one_higher = omega arith;
        higher = λ d. h;
      };
    }

-- a tree under a known root, opened
pub record Opened (nodes : List StoredNode) (top : ℕ) (t x y : NodeTree) : Type 0 where
  pub is : t ≡ Fork top x y
  pub left : (stored_at nodes top).node.left ≡ root_of x
  pub right : (stored_at nodes top).node.right ≡ root_of y
  pub height : (stored_at nodes top).height ≡ max (height_under nodes (root_of x)) (height_under nodes (root_of y)) + 1
  pub even : DifferByAtMost 1 (height_under nodes (root_of x)) (height_under nodes (root_of y))
  pub within : top < length nodes
  pub left_stands : Stands nodes x
  pub right_stands : Stands nodes y

pub opened : (nodes : List StoredNode) (top : ℕ) (t : NodeTree) → Stands nodes t → root_of t ≡ Some top →
    (x y : NodeTree) × Opened nodes top t x y
opened nodes top Empty s e = absurd (cc)
opened nodes top (Fork at x y) s e =
    let same : at ≡ top = cc in (
      x,
      y,
      record {
        is = rw same refl;
        left = rw (← same) (ap (λ v. v.node.left) s.1);
        right = rw (← same) (ap (λ v. v.node.right) s.1);
        height = rw (← same) (ap (λ v. v.height) s.1);
        even = s.2;
        within = rw (← same) s.0;
        left_stands = s.3;
        right_stands = s.4;
      },
    )

-- the left side is turned up once
pub turned_right_once : (nodes n1 n2 : List StoredNode) (at top : ℕ) (x y r : NodeTree) →
    Sides nodes at (Some top) (root_of r) (Fork top x y) r →
    height_under nodes (Some top) ≡ height_under nodes (root_of r) + 2 →
    height_under nodes (root_of y) ≤ height_under nodes (root_of x) →
    n1 ≡ linking nodes at (root_of y) (root_of r) → n2 ≡ linking n1 top (root_of x) (Some at) →
    (max (height_under n1 (root_of x)) (height_under n1 (Some at)) ≤ height_under nodes (Some top))
    × Joins nodes n2 (Some top) (root_of r) (numbers_of (Fork top x y) ++ at ∷ numbers_of r) top (Fork top x (Fork at y r))
turned_right_once nodes n1 n2 at top x y r s higher leans is1 is2 =
    let o = s.left_stands in
    let tall : height_under nodes (Some top) ≡ max (height_under nodes (root_of x)) (height_under nodes (root_of y)) + 1 =
    ap (λ v. v.height) o.1 in
    let m1 : List StoredNode = linking nodes at (root_of y) (root_of r) in
    let once_at = s.once at in
    let once_top = s.once top in
    let a1 = times-append at (numbers_of (Fork top x y)) (at ∷ numbers_of r) in
    let a2 = times-here at (numbers_of r) in
    let a3 = times-fork at top x y in
    let b1 = times-append top (numbers_of (Fork top x y)) (at ∷ numbers_of r) in
    let b3 = times-fork top top x y in
    let b2 = times-here top (numbers_of y) in
    let b4 = times-fork top at y r in
    let a4 = times-fork at at y r in
    let even1 : DifferByAtMost 1 (height_under nodes (root_of y)) (height_under nodes (root_of r)) = (omega arith, omega arith) in
    let low : Stands m1 (Fork at y r) = Stands-fork nodes at y r s.node (omega arith) (omega arith) o.4 s.right_stands even1 in
    let hx : height_under m1 (root_of x) ≡ height_under nodes (root_of x) = height_under-link nodes at (root_of y) (root_of r) x (omega arith) in
    let hat : height_under m1 (Some at) ≡ max (height_under nodes (root_of y)) (height_under nodes (root_of r)) + 1 =
    height_under-fork nodes at (root_of y) (root_of r) s.node in
    let sx : Stands m1 x = Stands-link nodes at (root_of y) (root_of r) x (omega arith) o.3 in
    let first : Relinks nodes m1 (numbers_of (Fork top x y) ++ at ∷ numbers_of r) =
    Relinks-link nodes at (root_of y) (root_of r) _ s.node (omega arith) in
    let within : top < length m1 = rw first.len o.0 in
    let even2 : DifferByAtMost 1 (height_under m1 (root_of x)) (height_under m1 (Some at)) = (omega arith, omega arith) in
    let second : Relinks m1 (linking m1 top (root_of x) (Some at)) (numbers_of (Fork top x y) ++ at ∷ numbers_of r) =
    Relinks-link m1 top (root_of x) (Some at) _ within (omega arith) in
    let hn : height_under (linking m1 top (root_of x) (Some at)) (Some top) ≡ max (height_under m1 (root_of x)) (height_under m1 (Some at)) + 1 =
    height_under-fork m1 top (root_of x) (Some at) within in
    rw (is2, is1) (
      omega arith,
      record {
        root = refl;
        stands = Stands-fork m1 top x (Fork at y r) within (omega arith) (omega arith) sx low even2;
        numbers = sym (append_assoc (numbers_of x) (top ∷ numbers_of y) (at ∷ numbers_of r));
        relinks = Relinks-then _ _ _ _ first second;
        height = record { not_lower = omega arith; at_most_one_higher = omega arith; higher = λ d. absurd (omega arith) };
      },
    )

pub even_joins : (nodes new : List StoredNode) (at : ℕ) (left right : Option ℕ) (l r : NodeTree) → CanJoin nodes at left right l r →
    DifferByAtMost 1 (height_under nodes left) (height_under nodes right) → new ≡ linking nodes at left right →
    (t : NodeTree) × Joins nodes new left right (numbers_of l ++ at ∷ numbers_of r) at t
even_joins nodes new at left right l r j even is =
    let s = j.0 in
    let sides : Sides nodes at (root_of l) (root_of r) l r = rw (s.left_root, s.right_root) s in
    let even2 : DifferByAtMost 1 (height_under nodes (root_of l)) (height_under nodes (root_of r)) =
    rw (s.left_root, s.right_root) even in
    (Fork at l r, rw (is, ← s.left_root, ← s.right_root) (joined_even nodes at l r sides even2))

-- the sides under names of their own
pub sides_at : (nodes : List StoredNode) (at top : ℕ) (left right : Option ℕ) (l r t : NodeTree) →
    Sides nodes at left right l r → left ≡ Some top → l ≡ t → Sides nodes at (Some top) (root_of r) t r
sides_at nodes at top left right l r t s isl is =
    let P : Option ℕ → Type 0 = λ v. Sides nodes at v right l r in
    let Q : Option ℕ → Type 0 = λ v. Sides nodes at (Some top) v l r in
    let R : NodeTree → Type 0 = λ v. Sides nodes at (Some top) (root_of r) v r in
    subst R is (subst Q (sym s.right_root) (subst P isl s))

pub sides_at_right : (nodes : List StoredNode) (at top : ℕ) (left right : Option ℕ) (l r t : NodeTree) →
    Sides nodes at left right l r → right ≡ Some top → r ≡ t → Sides nodes at (root_of l) (Some top) l t
sides_at_right nodes at top left right l r t s isr is =
    let P : Option ℕ → Type 0 = λ v. Sides nodes at left v l r in
    let Q : Option ℕ → Type 0 = λ v. Sides nodes at v (Some top) l r in
    let R : NodeTree → Type 0 = λ v. Sides nodes at (root_of l) (Some top) l v in
    subst R is (subst Q (sym s.left_root) (subst P isr s))

pub right_once_opened : (nodes n1 n2 : List StoredNode) (at top : ℕ) (left right lx ly : Option ℕ) (l r x y : NodeTree) →
    CanJoin nodes at left right l r → left ≡ Some top → Opened nodes top l x y →
    lx ≡ (stored_at nodes top).node.left → ly ≡ (stored_at nodes top).node.right →
    height_under nodes left ≡ height_under nodes right + 2 → height_under nodes ly ≤ height_under nodes lx →
    n1 ≡ linking nodes at ly right → n2 ≡ linking n1 top lx (Some at) →
    (max (height_under n1 lx) (height_under n1 (Some at)) ≤ height_under nodes left)
    × Joins nodes n2 left right (numbers_of l ++ at ∷ numbers_of r) top (Fork top x (Fork at y r))
right_once_opened nodes n1 n2 at top left right lx ly l r x y j isl o isx isy higher leans is1 is2 =
    let s = j.0 in
    let ex : lx ≡ root_of x = isx ∙ o.left in
    let ey : ly ≡ root_of y = isy ∙ o.right in
    let er : root_of r ≡ right = s.right_root in
    let sides = sides_at nodes at top left right l r (Fork top x y) s isl o.is in
    let core = turned_right_once nodes n1 n2 at top x y r sides (rw (← isl, er) higher) (rw (← ex, ← ey) leans)
    (rw (← ey, er) is1) (rw (← ex) is2) in
    (rw (ex, isl) core.0, rw (o.is, isl, ← er) core.1)

pub right_once_joins : (nodes n1 n2 : List StoredNode) (at top : ℕ) (left right lx ly : Option ℕ) (l r : NodeTree) →
    CanJoin nodes at left right l r → left ≡ Some top →
    lx ≡ (stored_at nodes top).node.left → ly ≡ (stored_at nodes top).node.right →
    height_under nodes left ≡ height_under nodes right + 2 → height_under nodes ly ≤ height_under nodes lx →
    n1 ≡ linking nodes at ly right → n2 ≡ linking n1 top lx (Some at) →
    (max (height_under n1 lx) (height_under n1 (Some at)) ≤ height_under nodes left)
    × ((t : NodeTree) × Joins nodes n2 left right (numbers_of l ++ at ∷ numbers_of r) top t)
right_once_joins nodes n1 n2 at top left right lx ly l r j isl isx isy higher leans is1 is2 =
    let op = opened nodes top l j.0.left_stands (j.0.left_root ∙ isl) in
    let core = right_once_opened nodes n1 n2 at top left right lx ly l r op.0 op.1 j isl op.2 isx isy higher leans is1 is2 in
    (core.0, (Fork top op.0 (Fork at op.1 r), core.1))

-- the right side is turned up once
pub turned_left_once : (nodes n1 n2 : List StoredNode) (at top : ℕ) (l x y : NodeTree) →
    Sides nodes at (root_of l) (Some top) l (Fork top x y) →
    height_under nodes (Some top) ≡ height_under nodes (root_of l) + 2 →
    height_under nodes (root_of x) ≤ height_under nodes (root_of y) →
    n1 ≡ linking nodes at (root_of l) (root_of x) → n2 ≡ linking n1 top (Some at) (root_of y) →
    (max (height_under n1 (Some at)) (height_under n1 (root_of y)) ≤ height_under nodes (Some top))
    × Joins nodes n2 (root_of l) (Some top) (numbers_of l ++ at ∷ numbers_of (Fork top x y)) top (Fork top (Fork at l x) y)
turned_left_once nodes n1 n2 at top l x y s higher leans is1 is2 =
    let o = s.right_stands in
    let tall : height_under nodes (Some top) ≡ max (height_under nodes (root_of x)) (height_under nodes (root_of y)) + 1 =
    ap (λ v. v.height) o.1 in
    let m1 : List StoredNode = linking nodes at (root_of l) (root_of x) in
    let once_at = s.once at in
    let once_top = s.once top in
    let a1 = times-append at (numbers_of l) (at ∷ numbers_of (Fork top x y)) in
    let a2 = times-here at (numbers_of (Fork top x y)) in
    let a3 = times-fork at top x y in
    let a4 : times at (top ∷ numbers_of y) ≡ times at (top ∷ []) + times at (numbers_of y) = times-append at (top ∷ []) (numbers_of y) in
    let b1 = times-append top (numbers_of l) (at ∷ numbers_of (Fork top x y)) in
    let b2 : times top (at ∷ numbers_of (Fork top x y)) ≡ times top (at ∷ []) + times top (numbers_of (Fork top x y)) = times-append top (at ∷ []) (numbers_of (Fork top x y)) in
    let b3 = times-fork top top x y in
    let b4 = times-here top (numbers_of y) in
    let b5 = times-fork top at l x in
    let b6 : times top (at ∷ numbers_of x) ≡ times top (at ∷ []) + times top (numbers_of x) = times-append top (at ∷ []) (numbers_of x) in
    let even1 : DifferByAtMost 1 (height_under nodes (root_of l)) (height_under nodes (root_of x)) = (omega arith, omega arith) in
    let low : Stands m1 (Fork at l x) = Stands-fork nodes at l x s.node (omega arith) (omega arith) s.left_stands o.3 even1 in
    let hy : height_under m1 (root_of y) ≡ height_under nodes (root_of y) = height_under-link nodes at (root_of l) (root_of x) y (omega arith) in
    let hat : height_under m1 (Some at) ≡ max (height_under nodes (root_of l)) (height_under nodes (root_of x)) + 1 =
    height_under-fork nodes at (root_of l) (root_of x) s.node in
    let sy : Stands m1 y = Stands-link nodes at (root_of l) (root_of x) y (omega arith) o.4 in
    let first : Relinks nodes m1 (numbers_of l ++ at ∷ numbers_of (Fork top x y)) =
    Relinks-link nodes at (root_of l) (root_of x) _ s.node (omega arith) in
    let within : top < length m1 = rw first.len o.0 in
    let even2 : DifferByAtMost 1 (height_under m1 (Some at)) (height_under m1 (root_of y)) = (omega arith, omega arith) in
    let second : Relinks m1 (linking m1 top (Some at) (root_of y)) (numbers_of l ++ at ∷ numbers_of (Fork top x y)) =
    Relinks-link m1 top (Some at) (root_of y) _ within (omega arith) in
    let hn : height_under (linking m1 top (Some at) (root_of y)) (Some top) ≡ max (height_under m1 (Some at)) (height_under m1 (root_of y)) + 1 =
    height_under-fork m1 top (Some at) (root_of y) within in
    rw (is2, is1) (
      omega arith,
      record {
        root = refl;
        stands = Stands-fork m1 top (Fork at l x) y within (omega arith) (omega arith) low sy even2;
        numbers = append_assoc (numbers_of l) (at ∷ numbers_of x) (top ∷ numbers_of y);
        relinks = Relinks-then _ _ _ _ first second;
        height = record { not_lower = omega arith; at_most_one_higher = omega arith; higher = λ d. absurd (omega arith) };
      },
    )

pub left_once_opened : (nodes n1 n2 : List StoredNode) (at top : ℕ) (left right lx ly : Option ℕ) (l r x y : NodeTree) →
    CanJoin nodes at left right l r → right ≡ Some top → Opened nodes top r x y →
    lx ≡ (stored_at nodes top).node.left → ly ≡ (stored_at nodes top).node.right →
    height_under nodes right ≡ height_under nodes left + 2 → height_under nodes lx ≤ height_under nodes ly →
    n1 ≡ linking nodes at left lx → n2 ≡ linking n1 top (Some at) ly →
    (max (height_under n1 (Some at)) (height_under n1 ly) ≤ height_under nodes right)
    × Joins nodes n2 left right (numbers_of l ++ at ∷ numbers_of r) top (Fork top (Fork at l x) y)
left_once_opened nodes n1 n2 at top left right lx ly l r x y j isr o isx isy higher leans is1 is2 =
    let s = j.0 in
    let ex : lx ≡ root_of x = isx ∙ o.left in
    let ey : ly ≡ root_of y = isy ∙ o.right in
    let el : root_of l ≡ left = s.left_root in
    let sides = sides_at_right nodes at top left right l r (Fork top x y) s isr o.is in
    let core = turned_left_once nodes n1 n2 at top l x y sides (rw (← isr, el) higher) (rw (← ex, ← ey) leans)
    (rw (← ex, el) is1) (rw (← ey) is2) in
    (rw (ey, isr) core.0, rw (o.is, isr, ← el) core.1)

pub left_once_joins : (nodes n1 n2 : List StoredNode) (at top : ℕ) (left right lx ly : Option ℕ) (l r : NodeTree) →
    CanJoin nodes at left right l r → right ≡ Some top →
    lx ≡ (stored_at nodes top).node.left → ly ≡ (stored_at nodes top).node.right →
    height_under nodes right ≡ height_under nodes left + 2 → height_under nodes lx ≤ height_under nodes ly →
    n1 ≡ linking nodes at left lx → n2 ≡ linking n1 top (Some at) ly →
    (max (height_under n1 (Some at)) (height_under n1 ly) ≤ height_under nodes right)
    × ((t : NodeTree) × Joins nodes n2 left right (numbers_of l ++ at ∷ numbers_of r) top t)
left_once_joins nodes n1 n2 at top left right lx ly l r j isr isx isy higher leans is1 is2 =
    let op = opened nodes top r j.0.right_stands (j.0.right_root ∙ isr) in
    let core = left_once_opened nodes n1 n2 at top left right lx ly l r op.0 op.1 j isr op.2 isx isy higher leans is1 is2 in
    (core.0, (Fork top (Fork at l op.0) op.1, core.1))

pub counted_fork : (n p : ℕ) (a b : List ℕ) → times n (a ++ p ∷ b) ≡ times n a + times n (p ∷ []) + times n b
counted_fork n p a b = omega (arith, times-append n a (p ∷ b), times-append n (p ∷ []) b)

pub counted : (n p m q : ℕ) (a b c d : List ℕ) →
    times n ((a ++ p ∷ b) ++ m ∷ (c ++ q ∷ d))
    ≡ times n a + times n (p ∷ []) + times n b + times n (m ∷ []) + times n c + times n (q ∷ []) + times n d
counted n p m q a b c d =
    omega (arith, counted_fork n m (a ++ p ∷ b) (c ++ q ∷ d), counted_fork n p a b, counted_fork n q c d)

-- A node over two nodes over four trees, linked from below.
pub record Three (nodes n1 n2 n3 : List StoredNode) (p m q : ℕ) (a b c d : NodeTree) (among : List ℕ) : Type 0 where
  pub stands : Stands n3 (Fork m (Fork p a b) (Fork q c d))
  pub relinks : Relinks nodes n3 among
  pub second : max (height_under n1 (root_of c)) (height_under n1 (root_of d)) ≡ max (height_under nodes (root_of c)) (height_under nodes (root_of d))
  pub third : max (height_under n2 (Some p)) (height_under n2 (Some q))
      ≡ max (max (height_under nodes (root_of a)) (height_under nodes (root_of b))) (max (height_under nodes (root_of c)) (height_under nodes (root_of d))) + 1
  pub height : height_under n3 (Some m) ≡ max (height_under n2 (Some p)) (height_under n2 (Some q)) + 1

pub three_linked : (nodes : List StoredNode) (p m q : ℕ) (a b c d : NodeTree) (among : List ℕ) →
    p < length nodes → m < length nodes → q < length nodes →
    Stands nodes a → Stands nodes b → Stands nodes c → Stands nodes d →
    DifferByAtMost 1 (height_under nodes (root_of a)) (height_under nodes (root_of b)) →
    DifferByAtMost 1 (height_under nodes (root_of c)) (height_under nodes (root_of d)) →
    DifferByAtMost 1 (max (height_under nodes (root_of a)) (height_under nodes (root_of b))) (max (height_under nodes (root_of c)) (height_under nodes (root_of d))) →
    among ≡ (numbers_of a ++ p ∷ numbers_of b) ++ m ∷ (numbers_of c ++ q ∷ numbers_of d) → Once among →
    let n1 = linking nodes p (root_of a) (root_of b) in
    let n2 = linking n1 q (root_of c) (root_of d) in
    Three nodes n1 n2 (linking n2 m (Some p) (Some q)) p m q a b c d among
three_linked nodes p m q a b c d among wp wm wq sa sb sc sd even1 even2 even3 is once =
    let n1 : List StoredNode = linking nodes p (root_of a) (root_of b) in
    let n2 : List StoredNode = linking n1 q (root_of c) (root_of d) in
    let n3 : List StoredNode = linking n2 m (Some p) (Some q) in
    let count : (n : ℕ) → times n among ≡ times n (numbers_of a) + times n (p ∷ []) + times n (numbers_of b) + times n (m ∷ []) + times n (numbers_of c) + times n (q ∷ []) + times n (numbers_of d) =
    λ n. ap (times n) is ∙ counted n p m q (numbers_of a) (numbers_of b) (numbers_of c) (numbers_of d) in
    let cp = count p in let cm = count m in let cq = count q in
    let op = once p in let om = once m in let oq = once q in
    let hp = times-here p [] in let hm = times-here m [] in let hq = times-here q [] in
    let fp : (n : ℕ) → times n (numbers_of (Fork p a b)) ≡ times n (numbers_of a) + times n (p ∷ []) + times n (numbers_of b) =
    λ n. counted_fork n p (numbers_of a) (numbers_of b) in
    let fq : (n : ℕ) → times n (numbers_of (Fork q c d)) ≡ times n (numbers_of c) + times n (q ∷ []) + times n (numbers_of d) =
    λ n. counted_fork n q (numbers_of c) (numbers_of d) in
    let fpq = fp q in let fpm = fp m in let fqm = fq m in
    let r1 : Relinks nodes n1 among = Relinks-link nodes p (root_of a) (root_of b) among wp (omega arith) in
    let s1 : Stands n1 (Fork p a b) = Stands-fork nodes p a b wp (omega arith) (omega arith) sa sb even1 in
    let h1 : height_under n1 (Some p) ≡ max (height_under nodes (root_of a)) (height_under nodes (root_of b)) + 1 =
    height_under-fork nodes p (root_of a) (root_of b) wp in
    let hc : height_under n1 (root_of c) ≡ height_under nodes (root_of c) = height_under-link nodes p (root_of a) (root_of b) c (omega arith) in
    let hd : height_under n1 (root_of d) ≡ height_under nodes (root_of d) = height_under-link nodes p (root_of a) (root_of b) d (omega arith) in
    let sc1 : Stands n1 c = Stands-link nodes p (root_of a) (root_of b) c (omega arith) sc in
    let sd1 : Stands n1 d = Stands-link nodes p (root_of a) (root_of b) d (omega arith) sd in
    let wq1 : q < length n1 = rw r1.len wq in
    let r2 : Relinks n1 n2 among = Relinks-link n1 q (root_of c) (root_of d) among wq1 (omega arith) in
    let evencd : DifferByAtMost 1 (height_under n1 (root_of c)) (height_under n1 (root_of d)) = rw (hc, hd) even2 in
    let s2 : Stands n2 (Fork q c d) = Stands-fork n1 q c d wq1 (omega arith) (omega arith) sc1 sd1 evencd in
    let s1on : Stands n2 (Fork p a b) = Stands-link n1 q (root_of c) (root_of d) (Fork p a b) (omega arith) s1 in
    let h1on : height_under n2 (Some p) ≡ height_under n1 (Some p) = height_under-link n1 q (root_of c) (root_of d) (Fork p a b) (omega arith) in
    let h2 : height_under n2 (Some q) ≡ max (height_under n1 (root_of c)) (height_under n1 (root_of d)) + 1 =
    height_under-fork n1 q (root_of c) (root_of d) wq1 in
    let r12 : Relinks nodes n2 among = Relinks-then nodes n1 n2 among r1 r2 in
    let wm2 : m < length n2 = rw r12.len wm in
    let r3 : Relinks n2 n3 among = Relinks-link n2 m (Some p) (Some q) among wm2 (omega arith) in
    let evenpq : DifferByAtMost 1 (height_under n2 (Some p)) (height_under n2 (Some q)) = (omega arith, omega arith) in
    record {
      stands = Stands-fork n2 m (Fork p a b) (Fork q c d) wm2 (omega arith) (omega arith) s1on s2 evenpq;
      relinks = Relinks-then nodes n2 n3 among r12 r3;
      second = rw (hc, hd) refl;
      third = omega arith;
      height = height_under-fork n2 m (Some p) (Some q) wm2;
    }

-- What three links leave, with the heights that they need.
pub record Twice (nodes n1 n2 n3 : List StoredNode) (p m q : ℕ) (left right a b c d : Option ℕ) (high : ℕ) (among : List ℕ) (t : NodeTree) : Type 0 where
  pub first : max (height_under nodes a) (height_under nodes b) + 1 ≤ high
  pub second : max (height_under n1 c) (height_under n1 d) + 1 ≤ high
  pub third : max (height_under n2 (Some p)) (height_under n2 (Some q)) + 1 ≤ high
  pub joins : Joins nodes n3 left right among m t

pub right_twice_opened : (nodes n1 n2 n3 : List StoredNode) (at top middle : ℕ) (left right lx ly mx my : Option ℕ) (l r x y b d : NodeTree) →
    CanJoin nodes at left right l r → left ≡ Some top → Opened nodes top l x y → Opened nodes middle y b d →
    lx ≡ root_of x → ly ≡ root_of y → mx ≡ root_of b → my ≡ root_of d →
    height_under nodes left ≡ height_under nodes right + 2 → height_under nodes lx < height_under nodes ly →
    n1 ≡ linking nodes top lx mx → n2 ≡ linking n1 at my right → n3 ≡ linking n2 middle (Some top) (Some at) →
    Twice nodes n1 n2 n3 top middle at left right lx mx my right (height_under nodes left) (numbers_of l ++ at ∷ numbers_of r)
    (Fork middle (Fork top x b) (Fork at d r))
right_twice_opened nodes n1 n2 n3 at top middle left right lx ly mx my l r x y b d j isl o o2 ex ey em en higher leans is1 is2 is3 =
    let s = j.0 in
    let er : right ≡ root_of r = sym s.right_root in
    let root_y : root_of y ≡ Some middle = ap root_of o2.is in
    let hl : height_under nodes left ≡ max (height_under nodes (root_of x)) (height_under nodes (root_of y)) + 1 = rw isl o.height in
    let hy : height_under nodes (root_of y) ≡ max (height_under nodes (root_of b)) (height_under nodes (root_of d)) + 1 = rw root_y o2.height in
    let hr : height_under nodes right ≡ height_under nodes (root_of r) = ap (height_under nodes) er in
    let hx : height_under nodes lx ≡ height_under nodes (root_of x) = ap (height_under nodes) ex in
    let hly : height_under nodes ly ≡ height_under nodes (root_of y) = ap (height_under nodes) ey in
    let is : numbers_of l ++ at ∷ numbers_of r ≡ (numbers_of x ++ top ∷ numbers_of b) ++ middle ∷ (numbers_of d ++ at ∷ numbers_of r) =
    rw (o.is, o2.is) (simp append_assoc) in
    let t = three_linked nodes top middle at x b d r (numbers_of l ++ at ∷ numbers_of r) o.within o2.within s.node
    o.left_stands o2.left_stands o2.right_stands s.right_stands
    (omega arith, omega arith) (omega arith, omega arith) (omega arith, omega arith) is s.once in
    rw (is3, is2, is1, ex, em, en, er) (record {
      first = omega arith;
      second = let e = t.second in omega arith;
      third = let e = t.third in omega arith;
      joins = record {
        root = refl;
        stands = t.stands;
        numbers = sym is;
        relinks = t.relinks;
        height = let e = t.third in let f = t.height in
            record { not_lower = omega arith; at_most_one_higher = omega arith; higher = λ v. absurd (omega arith) };
      };
    })

pub left_twice_opened : (nodes n1 n2 n3 : List StoredNode) (at top middle : ℕ) (left right lx ly mx my : Option ℕ) (l r x y b d : NodeTree) →
    CanJoin nodes at left right l r → right ≡ Some top → Opened nodes top r x y → Opened nodes middle x b d →
    lx ≡ root_of x → ly ≡ root_of y → mx ≡ root_of b → my ≡ root_of d →
    height_under nodes right ≡ height_under nodes left + 2 → height_under nodes ly < height_under nodes lx →
    n1 ≡ linking nodes at left mx → n2 ≡ linking n1 top my ly → n3 ≡ linking n2 middle (Some at) (Some top) →
    Twice nodes n1 n2 n3 at middle top left right left mx my ly (height_under nodes right) (numbers_of l ++ at ∷ numbers_of r)
    (Fork middle (Fork at l b) (Fork top d y))
left_twice_opened nodes n1 n2 n3 at top middle left right lx ly mx my l r x y b d j isr o o2 ex ey em en higher leans is1 is2 is3 =
    let s = j.0 in
    let el : left ≡ root_of l = sym s.left_root in
    let root_x : root_of x ≡ Some middle = ap root_of o2.is in
    let hr : height_under nodes right ≡ max (height_under nodes (root_of x)) (height_under nodes (root_of y)) + 1 = rw isr o.height in
    let hx : height_under nodes (root_of x) ≡ max (height_under nodes (root_of b)) (height_under nodes (root_of d)) + 1 = rw root_x o2.height in
    let hl : height_under nodes left ≡ height_under nodes (root_of l) = ap (height_under nodes) el in
    let hlx : height_under nodes lx ≡ height_under nodes (root_of x) = ap (height_under nodes) ex in
    let hly : height_under nodes ly ≡ height_under nodes (root_of y) = ap (height_under nodes) ey in
    let is : numbers_of l ++ at ∷ numbers_of r ≡ (numbers_of l ++ at ∷ numbers_of b) ++ middle ∷ (numbers_of d ++ top ∷ numbers_of y) =
    rw (o.is, o2.is) (simp append_assoc) in
    let t = three_linked nodes at middle top l b d y (numbers_of l ++ at ∷ numbers_of r) s.node o2.within o.within
    s.left_stands o2.left_stands o2.right_stands o.right_stands
    (omega arith, omega arith) (omega arith, omega arith) (omega arith, omega arith) is s.once in
    rw (is3, is2, is1, ey, em, en, el) (record {
      first = omega arith;
      second = let e = t.second in omega arith;
      third = let e = t.third in omega arith;
      joins = record {
        root = refl;
        stands = t.stands;
        numbers = sym is;
        relinks = t.relinks;
        height = let e = t.third in let f = t.height in
            record { not_lower = omega arith; at_most_one_higher = omega arith; higher = λ v. absurd (omega arith) };
      };
    })

pub right_twice_joins : (nodes n1 n2 n3 : List StoredNode) (at top middle : ℕ) (left right lx ly mx my : Option ℕ) (l r : NodeTree) →
    CanJoin nodes at left right l r → left ≡ Some top →
    lx ≡ (stored_at nodes top).node.left → ly ≡ (stored_at nodes top).node.right → ly ≡ Some middle →
    mx ≡ (stored_at nodes middle).node.left → my ≡ (stored_at nodes middle).node.right →
    height_under nodes left ≡ height_under nodes right + 2 → height_under nodes lx < height_under nodes ly →
    n1 ≡ linking nodes top lx mx → n2 ≡ linking n1 at my right → n3 ≡ linking n2 middle (Some top) (Some at) →
    (t : NodeTree) × Twice nodes n1 n2 n3 top middle at left right lx mx my right (height_under nodes left) (numbers_of l ++ at ∷ numbers_of r) t
right_twice_joins nodes n1 n2 n3 at top middle left right lx ly mx my l r j isl isx isy ism isb isd higher leans is1 is2 is3 =
    let op = opened nodes top l j.0.left_stands (j.0.left_root ∙ isl) in
    let o = op.2 in
    let om = opened nodes middle op.1 o.right_stands (sym o.right ∙ sym isy ∙ ism) in (
      _,
      right_twice_opened nodes n1 n2 n3 at top middle left right lx ly mx my l r op.0 op.1 om.0 om.1 j isl o om.2
          (isx ∙ o.left) (isy ∙ o.right) (isb ∙ om.2.left) (isd ∙ om.2.right) higher leans is1 is2 is3,
    )

pub left_twice_joins : (nodes n1 n2 n3 : List StoredNode) (at top middle : ℕ) (left right lx ly mx my : Option ℕ) (l r : NodeTree) →
    CanJoin nodes at left right l r → right ≡ Some top →
    lx ≡ (stored_at nodes top).node.left → ly ≡ (stored_at nodes top).node.right → lx ≡ Some middle →
    mx ≡ (stored_at nodes middle).node.left → my ≡ (stored_at nodes middle).node.right →
    height_under nodes right ≡ height_under nodes left + 2 → height_under nodes ly < height_under nodes lx →
    n1 ≡ linking nodes at left mx → n2 ≡ linking n1 top my ly → n3 ≡ linking n2 middle (Some at) (Some top) →
    (t : NodeTree) × Twice nodes n1 n2 n3 at middle top left right left mx my ly (height_under nodes right) (numbers_of l ++ at ∷ numbers_of r) t
left_twice_joins nodes n1 n2 n3 at top middle left right lx ly mx my l r j isr isx isy ism isb isd higher leans is1 is2 is3 =
    let op = opened nodes top r j.0.right_stands (j.0.right_root ∙ isr) in
    let o = op.2 in
    let om = opened nodes middle op.0 o.left_stands (sym o.left ∙ sym isx ∙ ism) in (
      _,
      left_twice_opened nodes n1 n2 n3 at top middle left right lx ly mx my l r op.0 op.1 om.0 om.1 j isr o om.2
          (isx ∙ o.left) (isy ∙ o.right) (isb ∙ om.2.left) (isd ∙ om.2.right) higher leans is1 is2 is3,
    )

-- the sides of a tree are lower than the tree
pub sides_lower : (nodes : List StoredNode) (top : ℕ) (t : NodeTree) → Stands nodes t → root_of t ≡ Some top →
    max (height_under nodes (stored_at nodes top).node.left) (height_under nodes (stored_at nodes top).node.right) + 1
    ≡ height_under nodes (Some top)
sides_lower nodes top t s e =
    let op = opened nodes top t s e in
    let o = op.2 in rw (o.left, o.right) (sym o.height)
