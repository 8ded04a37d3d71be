-- A search finds what it is to find, in few steps.
use Rattle.std.proofs.Common.{◌≡◌, ℕ, ◌+◌, ◌*◌, ◌^◌, ◌<◌, ◌≤◌, zero, suc, Option, None, Some, List, [], ◌∷◌, ◌++◌, min, max, refl, sym, ◌∙◌, ap, subst, arith, inl, inr, cond, true, false}
use Rattle.std.specs.Prelude.{Contains}
use Rattle.std.proofs.lemmas.List.Elements.{Contains-append_left, Contains-append_right, Contains-append_cases}
use Rattle.std.proofs.lemmas.Bool.{cases_lt, lt-ltb}
use Rattle.std.proofs.lemmas.Bool.Decides.{eqb_tells}
use Rattle.std.proofs.lemmas.List.Sums.{sum_by-append}
use Rattle.std.proofs.lemmas.Nat.{mul-le}
use Rattle.std.proofs.lemmas.Option.{slice_get-get_or}
use Rattle.std.specs.Prelude.{slice_get, nat_eq}
use Rattle.std.proofs.lemmas.List.{map-append}
use Rattle.cfs_tree.specs.declared.span_node.SpanNode.{SpanNode}
use Rattle.cfs_tree.specs.Store.{node_of}
use Rattle.cfs_tree.proofs.Removing.{empty_of}
use Rattle.cfs_file.specs.declared.span.Span.{Span}
use Rattle.cfs_file.specs.declared.span.Span.TheVariants.{Nothing, Range, From}
use Rattle.cfs_file.specs.Span.{meets}
use Rattle.cfs_tree.specs.declared.search.Relation.{Relation}
use Rattle.cfs_tree.specs.declared.search.Relation.TheVariants as relations
use Rattle.cfs_tree.specs.declared.search.Search.{Search}
use Rattle.cfs_tree.specs.declared.store.stored_node.StoredNode.{StoredNode}
use Rattle.cfs_tree.specs.declared.store.SpanStore.{SpanStore}
use Rattle.cfs_tree.specs.Nodes.{stored_at, height_under, end_under, start_of, end_of, no_node}
use Rattle.cfs_tree.specs.Shape.{NodeTree, Empty, Fork, root_of, numbers_of, Stands, times}
use Rattle.cfs_tree.specs.Change.{rank, Above, IsTree}
use Rattle.cfs_tree.specs.Spans.{IsBounded, HasPositions, overlap_count}
use Rattle.cfs_tree.specs.Holding.{kept_at, kept_of}
use Rattle.cfs_tree.specs.Search.{Relates, IsAsked, IsExtent, LeastAmong, lesser_of, StartsBefore, Finds, CanSearch}
use Rattle.cfs_tree.proofs.Standing.{times-here}
use Rattle.cfs_tree.proofs.Turning.{counted_fork}
use Rattle.cfs_tree.proofs.Ranked.{Below, Ascends-back, Ascends-below}
use Rattle.cfs_tree.proofs.Changing.{Open, open_tree}

-- a kept span that ends too early or starts too late stands in no relation to the asked one
pub too_early : (relation : Relation) (asked kept : Span) (from end : ℕ) → IsExtent asked from end → IsBounded kept → HasPositions kept →
    end_of kept ≤ from → Relates relation asked kept → ⊥
too_early relations.Overlaps Nothing kept from end x b p le r = x
too_early relations.Overlaps (Range f t) Nothing from end x b p le r = p
too_early relations.Overlaps (Range f t) (Range g u) from end x b p le r = omega (arith, r.1.0.0, r.1.1.1)
too_early relations.Overlaps (Range f t) (From g) from end x b p le r = omega (arith, x.3)
too_early relations.Overlaps (From f) Nothing from end x b p le r = p
too_early relations.Overlaps (From f) (Range g u) from end x b p le r = omega (arith, r.1.0, r.1.1.1)
too_early relations.Overlaps (From f) (From g) from end x b p le r = omega (arith, x.2)
too_early relations.Covers Nothing kept from end x b p le r = x
too_early relations.Covers (Range f t) Nothing from end x b p le r = p
too_early relations.Covers (Range f t) (Range g u) from end x b p le r = let h = r g (omega arith, p) in omega arith
too_early relations.Covers (Range f t) (From g) from end x b p le r = omega (arith, x.3)
too_early relations.Covers (From f) Nothing from end x b p le r = p
too_early relations.Covers (From f) (Range g u) from end x b p le r = let h = r g (omega arith, p) in omega arith
too_early relations.Covers (From f) (From g) from end x b p le r = omega (arith, x.2)

pub too_late : (relation : Relation) (asked kept : Span) (from end : ℕ) → IsExtent asked from end → IsBounded kept → HasPositions kept →
    end ≤ start_of kept → Relates relation asked kept → ⊥
too_late relations.Overlaps Nothing kept from end x b p le r = x
too_late relations.Overlaps (Range f t) Nothing from end x b p le r = p
too_late relations.Overlaps (Range f t) (Range g u) from end x b p le r = omega (arith, r.1.0.1, r.1.1.0)
too_late relations.Overlaps (Range f t) (From g) from end x b p le r = omega (arith, r.1.0.1, r.1.1)
too_late relations.Overlaps (From f) Nothing from end x b p le r = p
too_late relations.Overlaps (From f) (Range g u) from end x b p le r = omega (arith, x.1, b.0)
too_late relations.Overlaps (From f) (From g) from end x b p le r = omega (arith, x.1, b)
too_late relations.Covers Nothing kept from end x b p le r = x
too_late relations.Covers (Range f t) Nothing from end x b p le r = p
too_late relations.Covers (Range f t) (Range g u) from end x b p le r = let h = r g (omega arith, p) in omega arith
too_late relations.Covers (Range f t) (From g) from end x b p le r = let h = r g (omega arith) in omega arith
too_late relations.Covers (From f) Nothing from end x b p le r = p
too_late relations.Covers (From f) (Range g u) from end x b p le r = omega (arith, x.1, b.0)
too_late relations.Covers (From f) (From g) from end x b p le r = omega (arith, x.1, b)

-- what neither ends too early nor starts too late overlaps
pub meets_between : (asked kept : Span) (from end : ℕ) → IsExtent asked from end → IsBounded kept → HasPositions kept →
    from < end_of kept → start_of kept < end → meets asked kept ≡ true
meets_between Nothing kept from end x b p lo hi = absurd x
meets_between (Range f t) Nothing from end x b p lo hi = absurd p
meets_between (Range f t) (Range g u) from end x b p lo hi = lt-ltb (max f g) (min t u) (omega arith)
meets_between (Range f t) (From g) from end x b p lo hi = lt-ltb (max f g) t (omega arith)
meets_between (From f) Nothing from end x b p lo hi = absurd p
meets_between (From f) (Range g u) from end x b p lo hi = lt-ltb (max g f) u (omega arith)
meets_between (From f) (From g) from end x b p lo hi = refl

-- the least of two lists

pub least-append : (P : ℕ × Span → Type 0) (xs ys : List (ℕ × Span)) (a b : Option ℕ) → LeastAmong P xs a → LeastAmong P ys b → LeastAmong P (xs ++ ys) (lesser_of a b)
least-append P xs ys None None l r = λ kept c p. elim (Contains-append_cases xs ys kept c) [ inl h ↦ l kept h p | inr h ↦ r kept h p ]
least-append P xs ys None (Some b) l r = (
  (r.0.0, Contains-append_right xs ys _ r.0.1, r.0.2),
  λ kept c p. elim (Contains-append_cases xs ys kept c) [ inl h ↦ absurd (l kept h p) | inr h ↦ r.1 kept h p ],
)
least-append P xs ys (Some a) None l r = (
  (l.0.0, Contains-append_left xs ys _ l.0.1, l.0.2),
  λ kept c p. elim (Contains-append_cases xs ys kept c) [ inl h ↦ l.1 kept h p | inr h ↦ absurd (r kept h p) ],
)
least-append P xs ys (Some a) (Some b) l r = elim (cases_lt b a) [
  | inl lt ↦ let e : min a b ≡ b = omega arith in rw e (
    (r.0.0, Contains-append_right xs ys _ r.0.1, r.0.2),
    λ kept c p. elim (Contains-append_cases xs ys kept c) [ inl h ↦ let k = l.1 kept h p in omega arith | inr h ↦ r.1 kept h p ],
  )
  | inr ge ↦ let e : min a b ≡ a = omega arith in rw e (
    (l.0.0, Contains-append_left xs ys _ l.0.1, l.0.2),
    λ kept c p. elim (Contains-append_cases xs ys kept c) [ inl h ↦ l.1 kept h p | inr h ↦ let k = r.1 kept h p in omega arith ],
  )
]

-- a pair of the list is a node's
pub kept-found : (nodes : List StoredNode) (ns : List ℕ) (kept : ℕ × Span) → Contains (kept_of nodes ns) kept →
    (n : ℕ) × (0 < times n ns) × (kept ≡ kept_at nodes n)
kept-found nodes [] kept c = absurd (omega (arith, c.1))
kept-found nodes (n ∷ ns) kept (zero, h, e) = (n, let t = times-here n ns in omega arith, sym e)
kept-found nodes (n ∷ ns) kept (suc k, h, e) =
    let f = kept-found nodes ns kept (k, omega arith, e) in
    let g = f.1 in (f.0, omega arith, f.2)

-- no pair of a list of nodes is asked for where no node's is
pub none-kept : (nodes : List StoredNode) (P : ℕ × Span → Type 0) (ns : List ℕ) → ((n : ℕ) → 0 < times n ns → P (kept_at nodes n) → ⊥) →
    (kept : ℕ × Span) → Contains (kept_of nodes ns) kept → P kept → ⊥
none-kept nodes P ns none kept c p = let f = kept-found nodes ns kept c in
    none f.0 f.1 (subst P f.2 p)

-- how far a tree reaches
pub reach_bound : (nodes : List StoredNode) (t : NodeTree) (n : ℕ) → Stands nodes t → 0 < times n (numbers_of t) →
    end_of (stored_at nodes n).node.span ≤ end_under nodes (root_of t)
reach_bound nodes Empty n s h = absurd (omega arith)
reach_bound nodes (Fork at l r) n s h =
    let e = counted_fork n at (numbers_of l) (numbers_of r) in
    let le : (stored_at nodes at).node.left_end ≡ end_under nodes (root_of l) = ap (λ v. v.node.left_end) s.1 in
    let re : (stored_at nodes at).node.right_end ≡ end_under nodes (root_of r) = ap (λ v. v.node.right_end) s.1 in
    elim (cases_lt 0 (times n (numbers_of l))) [
      | inl left ↦ let k = reach_bound nodes l n s.3 left in omega arith
      | inr not_left ↦ elim (cases_lt 0 (times n (numbers_of r))) [
        | inl right ↦ let k = reach_bound nodes r n s.4 right in omega arith
        | inr not_right ↦ elim (eqb_tells n at) [
          | inl same ↦ let k : end_of (stored_at nodes n).node.span ≡ end_of (stored_at nodes at).node.span = ap (λ w. end_of (stored_at nodes w).node.span) same.1 in omega arith
          | inr other ↦ let none : times n (at ∷ []) ≡ 0 = rw other.0 refl in absurd (omega arith)
        ]
      ]
    ]

-- a tree that reaches past a number has a node whose span ends past it
pub reaching : (nodes : List StoredNode) (t : NodeTree) (from : ℕ) → Stands nodes t → from < end_under nodes (root_of t) →
    (n : ℕ) × (0 < times n (numbers_of t)) × (from < end_of (stored_at nodes n).node.span)
reaching nodes Empty from s h = absurd (omega arith)
reaching nodes (Fork at l r) from s h =
    let le : (stored_at nodes at).node.left_end ≡ end_under nodes (root_of l) = ap (λ v. v.node.left_end) s.1 in
    let re : (stored_at nodes at).node.right_end ≡ end_under nodes (root_of r) = ap (λ v. v.node.right_end) s.1 in
    elim (cases_lt from (end_under nodes (root_of l))) [
      | inl left ↦ let k = reaching nodes l from s.3 left in let p = k.1 in
          (k.0, let e = counted_fork k.0 at (numbers_of l) (numbers_of r) in omega arith, k.2)
      | inr not_left ↦ elim (cases_lt from (end_under nodes (root_of r))) [
        | inl right ↦ let k = reaching nodes r from s.4 right in let p = k.1 in
            (k.0, let e = counted_fork k.0 at (numbers_of l) (numbers_of r) in omega arith, k.2)
        | inr not_right ↦ (at, let e = counted_fork at at (numbers_of l) (numbers_of r) in let o = times-here at [] in omega arith, omega arith)
      ]
    ]

-- the order of the ranks is the order of the starts
pub above-starts : (nodes : List StoredNode) (at n : ℕ) (ns : List ℕ) → Above (rank nodes) at ns → 0 < times n ns →
    (stored_at nodes n).node.place < 2 ^ 64 → start_of (stored_at nodes at).node.span ≤ start_of (stored_at nodes n).node.span
above-starts nodes at n [] a h p = absurd (omega arith)
above-starts nodes at n (m ∷ ms) a h p = elim (eqb_tells n m) [
  | inl same ↦ let P : ℕ → Type 0 = λ w. rank nodes at < rank nodes w in let k = subst P (sym same.1) a.0 in omega arith
  | inr other ↦ let e : times n (m ∷ ms) ≡ 0 + times n ms = rw other.0 refl in above-starts nodes at n ms a.1 (omega arith) p
]

pub below-starts : (nodes : List StoredNode) (at n : ℕ) (ns : List ℕ) → Below (rank nodes) ns at → 0 < times n ns →
    (stored_at nodes at).node.place < 2 ^ 64 → start_of (stored_at nodes n).node.span ≤ start_of (stored_at nodes at).node.span
below-starts nodes at n [] a h p = absurd (omega arith)
below-starts nodes at n (m ∷ ms) a h p = elim (eqb_tells n m) [
  | inl same ↦ let P : ℕ → Type 0 = λ w. rank nodes w < rank nodes at in let k = subst P (sym same.1) a.0 in omega arith
  | inr other ↦ let e : times n (m ∷ ms) ≡ 0 + times n ms = rw other.0 refl in below-starts nodes at n ms a.1 (omega arith) p
]

-- counts of overlaps
pub count-append : (asked : Span) (xs ys : List (ℕ × Span)) → overlap_count asked (xs ++ ys) ≡ overlap_count asked xs + overlap_count asked ys
count-append asked xs ys = sum_by-append (λ kept. cond (meets asked kept.1) 1 0) xs ys

pub count-one : (nodes : List StoredNode) (asked : Span) (n : ℕ) (ns : List ℕ) → 0 < times n ns → meets asked (stored_at nodes n).node.span ≡ true →
    0 < overlap_count asked (kept_of nodes ns)
count-one nodes asked n [] h e = absurd (omega arith)
count-one nodes asked n (m ∷ ms) h e =
    let both : overlap_count asked (kept_of nodes (m ∷ ms)) ≡ overlap_count asked (kept_at nodes m ∷ []) + overlap_count asked (kept_of nodes ms) =
    count-append asked (kept_at nodes m ∷ []) (kept_of nodes ms) in
    elim (eqb_tells n m) [
      | inl same ↦ let k : meets asked (stored_at nodes m).node.span ≡ true = ap (λ w. meets asked (stored_at nodes w).node.span) (sym same.1) ∙ e in
          let one : overlap_count asked (kept_at nodes m ∷ []) ≡ 0 + 1 = ap (λ b. 0 + cond b 1 0) k in omega arith
      | inr other ↦ let f : times n (m ∷ ms) ≡ 0 + times n ms = rw other.0 refl in
          let r = count-one nodes asked n ms (omega arith) e in omega arith
    ]

-- ONE NODE

-- the pair of the whole tree's list
pub kept_fork : (nodes : List StoredNode) (at : ℕ) (l r : List ℕ) → kept_of nodes (l ++ at ∷ r) ≡ kept_of nodes l ++ kept_at nodes at ∷ kept_of nodes r
kept_fork nodes at l r = map-append (kept_at nodes) l (at ∷ r)

pub least-none : (a : Option ℕ) → lesser_of a None ≡ a
least-none None = refl
least-none (Some a) = refl

bound_left : (s k kl h hl : ℕ) → s ≤ (kl + 1) * hl → kl ≤ k → hl < h → s + 1 ≤ (k + 1) * h
bound_left s k kl h hl b le lt =
    let x = mul-le (kl + 1) hl (k + 1) hl (omega arith) (omega arith) in
    let y = mul-le (k + 1) (hl + 1) (k + 1) h (omega arith) (omega arith) in
    let z : (k + 1) * (hl + 1) ≡ (k + 1) * hl + (k + 1) = grind arith in
    omega arith

bound_both : (sl sr k kl kr h hl hr : ℕ) → sl ≤ kl * hl → sr ≤ (kr + 1) * hr → kl + kr ≤ k → hl < h → hr < h → sl + sr + 1 ≤ (k + 1) * h
bound_both sl sr k kl kr zero hl hr b c le lt lt2 = absurd (omega arith)
bound_both sl sr k kl kr (suc m) hl hr b c le lt lt2 =
    let x = mul-le kl hl kl m (omega arith) (omega arith) in
    let y = mul-le (kr + 1) hr (kr + 1) m (omega arith) (omega arith) in
    let z = mul-le (kl + kr + 1) (m + 1) (k + 1) (suc m) (omega arith) (omega arith) in
    let w : (kl + kr + 1) * (m + 1) ≡ kl * m + (kr + 1) * m + kl + kr + 1 = grind arith in
    omega arith

bound_early : (sl sr k kl kr h hl hr : ℕ) → sl ≤ kl * hl → sr ≤ kr * hr → kl + kr ≤ k → 0 < k → hl < h → hr < h → sl + sr + 1 ≤ k * h
bound_early sl sr k kl kr zero hl hr b c le pos lt lt2 = absurd (omega arith)
bound_early sl sr zero kl kr (suc m) hl hr b c le pos lt lt2 = absurd (omega arith)
bound_early sl sr (suc k) kl kr (suc m) hl hr b c le pos lt lt2 =
    let x = mul-le kl hl kl m (omega arith) (omega arith) in
    let y = mul-le kr hr kr m (omega arith) (omega arith) in
    let z = mul-le (kl + kr) m (suc k) m (omega arith) (omega arith) in
    let w : (kl + kr) * m ≡ kl * m + kr * m = grind arith in
    let v : (suc k) * (suc m) ≡ (suc k) * m + suc k = grind arith in
    omega arith

pub pruned : (search : Search) (store : SpanStore) (at : Option ℕ) (reach steps : ℕ) (t : NodeTree) → CanSearch search store at reach t →
    reach ≤ search.from → steps ≡ 0 → Finds search store at reach steps None t
pruned search store at reach steps t can le is = record {
  least = none-kept store.nodes.items (IsAsked search) (numbers_of t) (λ n p a.
      let b = reach_bound store.nodes.items t n can.2.tree.stands p in
      let e : end_under store.nodes.items (root_of t) ≡ end_under store.nodes.items at = ap (end_under store.nodes.items) can.2.tree.root in
      let c = can.1 in
      too_early search.relation search.asked (stored_at store.nodes.items n).node.span search.from search.end can.0 (can.2.spans n p).0 (can.2.spans n p).1 (omega arith) a.2);
  bound = omega arith;
  early = λ r e. omega arith;
}

pub nothing_there : (search : Search) (store : SpanStore) (at : Option ℕ) (reach steps : ℕ) (t : NodeTree) → CanSearch search store at reach t →
    at ≡ None → steps ≡ 0 → Finds search store at reach steps None t
nothing_there search store at reach steps t can is zero_steps =
    let e : numbers_of t ≡ [] = empty_of t (can.2.tree.root ∙ is) in
    record {
      least = none-kept store.nodes.items (IsAsked search) (numbers_of t) (λ n p a. let f : times n (numbers_of t) ≡ 0 = ap (times n) e in omega arith);
      bound = omega arith;
      early = λ r e. omega arith;
    }

-- the node that a link names is there
pub node_there : (store : SpanStore) (at : ℕ) (t : NodeTree) → IsTree store.nodes.items (Some at) t → node_of store at ≡ Some (stored_at store.nodes.items at).node
node_there store at t i =
    let op = open_tree store.nodes.items at (stored_at store.nodes.items at) t refl i in
    let tall = op.2.height in
    let got : slice_get store.nodes.items at ≡ Some (stored_at store.nodes.items at) = slice_get-get_or store.nodes.items at no_node op.2.here in
    let high : nat_eq (stored_at store.nodes.items at).height 0 ≡ false = elim (eqb_tells (stored_at store.nodes.items at).height 0) [
      | inl hit ↦ let e = hit.1 in absurd (omega arith)
      | inr miss ↦ miss.0
    ] in
    rw (got, high) refl

-- the two sides of a searchable tree
pub record Sided (search : Search) (store : SpanStore) (at : ℕ) (node : SpanNode) (reach : ℕ) (t l r : NodeTree) : Type 0 where
  pub open_t : Open store.nodes.items at (stored_at store.nodes.items at) t l r
  pub left : CanSearch search store node.left node.left_end l
  pub right : CanSearch search store node.right node.right_end r
  pub left_reach : node.left_end ≡ end_under store.nodes.items node.left
  pub right_reach : node.right_end ≡ end_under store.nodes.items node.right
  pub own_fits : IsBounded node.span × HasPositions node.span × (node.place < 2 ^ 64)
  pub here : node ≡ (stored_at store.nodes.items at).node

pub sided : (search : Search) (store : SpanStore) (at : ℕ) (link : Option ℕ) (node : SpanNode) (reach : ℕ) (t : NodeTree) → CanSearch search store link reach t →
    link ≡ Some at → node ≡ (stored_at store.nodes.items at).node → (l r : NodeTree) × Sided search store at node reach t l r
sided search store at link node reach t can isl is =
    let nodes : List StoredNode = store.nodes.items in
    let P : Option ℕ → Type 0 = λ w. IsTree nodes w t in
    let tree : IsTree nodes (Some at) t = subst P isl can.2.tree in
    let op = open_tree nodes at (stored_at nodes at) t refl tree in
    let l = op.0 in let r = op.1 in let o = op.2 in
    let Q : NodeTree → Type 0 = λ w. Stands nodes w in
    let stands : Stands nodes (Fork at l r) = subst Q o.is tree.stands in
    let in_t : (n : ℕ) → times n (numbers_of t) ≡ times n (numbers_of l) + times n (at ∷ []) + times n (numbers_of r) = λ n.
    ap (λ w. times n (numbers_of w)) o.is ∙ counted_fork n at (numbers_of l) (numbers_of r) in
    let le : (stored_at nodes at).node.left_end ≡ end_under nodes (stored_at nodes at).node.left = ap (λ v. v.node.left_end) stands.1 ∙ ap (end_under nodes) o.left.root in
    let re : (stored_at nodes at).node.right_end ≡ end_under nodes (stored_at nodes at).node.right = ap (λ v. v.node.right_end) stands.1 ∙ ap (end_under nodes) o.right.root in
    let one = times-here at [] in
    let here = in_t at in
    let S : SpanNode → Type 0 = λ w. Sided search store at w reach t l r in (
      l,
      r,
      subst S (sym is) (record {
        open_t = o;
        left = (
          can.0,
          omega arith,
          record {
            tree = o.left;
            spans = λ n p. can.2.spans n (let e = in_t n in omega arith);
            places = λ n p. can.2.places n (let e = in_t n in omega arith);
          },
        );
        right = (
          can.0,
          omega arith,
          record {
            tree = o.right;
            spans = λ n p. can.2.spans n (let e = in_t n in omega arith);
            places = λ n p. can.2.places n (let e = in_t n in omega arith);
          },
        );
        left_reach = le;
        right_reach = re;
        own_fits = ((can.2.spans at (omega arith)).0, (can.2.spans at (omega arith)).1, can.2.places at (omega arith));
        here = refl;
      }),
    )

-- the list of the whole tree, in its parts
pub kept_whole : (nodes : List StoredNode) (at : ℕ) (t l r : NodeTree) → t ≡ Fork at l r →
    kept_of nodes (numbers_of t) ≡ kept_of nodes (numbers_of l) ++ kept_of nodes (at ∷ numbers_of r)
kept_whole nodes at t l r is = ap (λ w. kept_of nodes (numbers_of w)) is ∙ map-append (kept_at nodes) (numbers_of l) (at ∷ numbers_of r)

pub finds_left : (search : Search) (store : SpanStore) (at : ℕ) (link : Option ℕ) (node : SpanNode) (reach sl steps : ℕ) (a : Option ℕ) (t l r : NodeTree) →
    CanSearch search store link reach t → link ≡ Some at → Sided search store at node reach t l r → Finds search store node.left node.left_end sl a l →
    search.end ≤ start_of node.span → steps ≡ sl + 1 → Finds search store link reach steps a t
finds_left search store at link node reach sl steps a t l r can isl s f late is =
    let nodes : List StoredNode = store.nodes.items in
    let P : ℕ × Span → Type 0 = IsAsked search in
    let o = s.open_t in
    let start : start_of node.span ≡ start_of (stored_at nodes at).node.span = ap (λ w. start_of w.span) s.here in
    let above : Above (rank nodes) at (numbers_of r) = (Ascends-back (rank nodes) (numbers_of l) (at ∷ numbers_of r) o.ascends).0 in
    let none : (kept : ℕ × Span) → Contains (kept_of nodes (at ∷ numbers_of r)) kept → P kept → ⊥ =
    none-kept nodes P (at ∷ numbers_of r) (λ n p q. elim (eqb_tells n at) [
      | inl same ↦ let F : SpanNode → Type 0 = λ w. IsBounded w.span × HasPositions w.span in
          let fits : IsBounded (stored_at nodes at).node.span × HasPositions (stored_at nodes at).node.span = subst F s.here (s.own_fits.0, s.own_fits.1) in
          let Q : ℕ → Type 0 = λ w. P (kept_at nodes w) in
          let k = subst Q same.1 q in
          too_late search.relation search.asked (stored_at nodes at).node.span search.from search.end can.0 fits.0 fits.1 (omega arith) k.2
      | inr other ↦ let e : times n (at ∷ numbers_of r) ≡ 0 + times n (numbers_of r) = rw other.0 refl in
          let p2 : 0 < times n (numbers_of r) = omega arith in
          let fits = s.right.2.spans n p2 in
          let up = above-starts nodes at n (numbers_of r) above p2 (s.right.2.places n p2) in
          too_late search.relation search.asked (stored_at nodes n).node.span search.from search.end can.0 fits.0 fits.1 (omega arith) q.2
    ]) in
    let both : LeastAmong P (kept_of nodes (numbers_of l) ++ kept_of nodes (at ∷ numbers_of r)) (lesser_of a None) =
    least-append P (kept_of nodes (numbers_of l)) (kept_of nodes (at ∷ numbers_of r)) a None f.least none in
    let M : Option ℕ → Type 0 = λ w. LeastAmong P (kept_of nodes (numbers_of l) ++ kept_of nodes (at ∷ numbers_of r)) w in
    let N : List (ℕ × Span) → Type 0 = λ w. LeastAmong P w a in
    let whole = kept_whole nodes at t l r o.is in
    let count : overlap_count search.asked (kept_of nodes (numbers_of t)) ≡ overlap_count search.asked (kept_of nodes (numbers_of l)) + overlap_count search.asked (kept_of nodes (at ∷ numbers_of r)) =
    ap (overlap_count search.asked) whole ∙ count-append search.asked (kept_of nodes (numbers_of l)) (kept_of nodes (at ∷ numbers_of r)) in
    let tall = o.height in
    let node_left : height_under nodes node.left ≡ height_under nodes (stored_at nodes at).node.left = ap (λ w. height_under nodes w.left) s.here in
    let h : height_under nodes link ≡ height_under nodes (Some at) = ap (height_under nodes) isl in
    let b = bound_left sl (overlap_count search.asked (kept_of nodes (numbers_of t))) (overlap_count search.asked (kept_of nodes (numbers_of l)))
    (height_under nodes link) (height_under nodes node.left) f.bound (omega arith) (omega arith) in
    record {
      least = subst N (sym whole) (subst M (least-none a) both);
      bound = let B : ℕ → Type 0 = λ w. w ≤ (overlap_count search.asked (kept_of nodes (numbers_of t)) + 1) * height_under nodes link in subst B (sym is) b;
      early = λ e before. let one = times-here at [] in
          let c : times at (numbers_of t) ≡ times at (numbers_of l) + times at (at ∷ []) + times at (numbers_of r) =
          ap (λ w. times at (numbers_of w)) o.is ∙ counted_fork at at (numbers_of l) (numbers_of r) in
          let k = before at (omega arith) in absurd (omega arith);
    }

pub finds_both : (search : Search) (store : SpanStore) (at : ℕ) (link : Option ℕ) (node : SpanNode) (reach sl sr steps : ℕ) (a own b : Option ℕ) (t l r : NodeTree) →
    CanSearch search store link reach t → link ≡ Some at → Sided search store at node reach t l r →
    Finds search store node.left node.left_end sl a l → Finds search store node.right node.right_end sr b r →
    LeastAmong (IsAsked search) ((node.place, node.span) ∷ []) own → search.from < reach →
    start_of node.span < search.end → steps ≡ sl + sr + 1 → Finds search store link reach steps (lesser_of a (lesser_of own b)) t
finds_both search store at link node reach sl sr steps a own b t l r can isl s f g mine past early is =
    let nodes : List StoredNode = store.nodes.items in
    let P : ℕ × Span → Type 0 = IsAsked search in
    let o = s.open_t in
    let start : start_of node.span ≡ start_of (stored_at nodes at).node.span = ap (λ w. start_of w.span) s.here in
    let O : SpanNode → Type 0 = λ w. LeastAmong P ((w.place, w.span) ∷ []) own in
    let mine2 : LeastAmong P (kept_at nodes at ∷ []) own = subst O s.here mine in
    let right2 : LeastAmong P (kept_of nodes (at ∷ numbers_of r)) (lesser_of own b) =
    least-append P (kept_at nodes at ∷ []) (kept_of nodes (numbers_of r)) own b mine2 g.least in
    let both = least-append P (kept_of nodes (numbers_of l)) (kept_of nodes (at ∷ numbers_of r)) a (lesser_of own b) f.least right2 in
    let N : List (ℕ × Span) → Type 0 = λ w. LeastAmong P w (lesser_of a (lesser_of own b)) in
    let whole = kept_whole nodes at t l r o.is in
    let kt : ℕ = overlap_count search.asked (kept_of nodes (numbers_of t)) in
    let kl : ℕ = overlap_count search.asked (kept_of nodes (numbers_of l)) in
    let kr : ℕ = overlap_count search.asked (kept_of nodes (numbers_of r)) in
    let count : kt ≡ kl + overlap_count search.asked (kept_of nodes (at ∷ numbers_of r)) =
    ap (overlap_count search.asked) whole ∙ count-append search.asked (kept_of nodes (numbers_of l)) (kept_of nodes (at ∷ numbers_of r)) in
    let count2 : overlap_count search.asked (kept_of nodes (at ∷ numbers_of r)) ≡ overlap_count search.asked (kept_at nodes at ∷ []) + kr =
    count-append search.asked (kept_at nodes at ∷ []) (kept_of nodes (numbers_of r)) in
    let tall = o.height in
    let node_left : height_under nodes node.left ≡ height_under nodes (stored_at nodes at).node.left = ap (λ w. height_under nodes w.left) s.here in
    let node_right : height_under nodes node.right ≡ height_under nodes (stored_at nodes at).node.right = ap (λ w. height_under nodes w.right) s.here in
    let h : height_under nodes link ≡ height_under nodes (Some at) = ap (height_under nodes) isl in
    let below : Below (rank nodes) (numbers_of l) at = Ascends-below (rank nodes) (numbers_of l) at (numbers_of r) o.ascends in
    let R : SpanNode → Type 0 = λ w. w.place < 2 ^ 64 in
    let place_fits : (stored_at nodes at).node.place < 2 ^ 64 = subst R s.here s.own_fits.2 in
    let left_early : StartsBefore store l search.end = λ n p.
    let up = below-starts nodes at n (numbers_of l) below p place_fits in omega arith in
    let fe = f.early s.left_reach left_early in
    let b1 = bound_both sl sr kt kl kr (height_under nodes link) (height_under nodes node.left) (height_under nodes node.right) fe g.bound (omega arith) (omega arith) (omega arith) in
    let in_t : (n : ℕ) → times n (numbers_of t) ≡ times n (numbers_of l) + times n (at ∷ []) + times n (numbers_of r) = λ n.
    ap (λ w. times n (numbers_of w)) o.is ∙ counted_fork n at (numbers_of l) (numbers_of r) in
    record {
      least = subst N (sym whole) both;
      bound = let B : ℕ → Type 0 = λ w. w ≤ (kt + 1) * height_under nodes link in subst B (sym is) b1;
      early = λ e before.
          let ge = g.early s.right_reach (λ n p. before n (let c = in_t n in omega arith)) in
          let e2 : end_under nodes (root_of t) ≡ end_under nodes link = ap (end_under nodes) can.2.tree.root in
          let far = reaching nodes t search.from can.2.tree.stands (omega arith) in
          let fits = can.2.spans far.0 far.1 in
          let hit = meets_between search.asked (stored_at nodes far.0).node.span search.from search.end can.0 fits.0 fits.1 far.2 (before far.0 far.1) in
          let pos = count-one nodes search.asked far.0 (numbers_of t) far.1 hit in
          let b2 = bound_early sl sr kt kl kr (height_under nodes link) (height_under nodes node.left) (height_under nodes node.right) fe ge (omega arith) pos (omega arith) (omega arith) in
          let B : ℕ → Type 0 = λ w. w ≤ kt * height_under nodes link in subst B (sym is) b2;
    }

-- what the store answers for the number of a link
pub node_known : (store : SpanStore) (at : ℕ) (link : Option ℕ) (t : NodeTree) (got : Option SpanNode) (node : SpanNode) → got ≡ node_of store at →
    got ≡ Some node → link ≡ Some at → IsTree store.nodes.items link t → node ≡ (stored_at store.nodes.items at).node
node_known store at link t got node is some isl i =
    let P : Option ℕ → Type 0 = λ w. IsTree store.nodes.items w t in
    let there = node_there store at t (subst P isl i) in cc (is, some, there)

pub node_missing : (store : SpanStore) (at : ℕ) (link : Option ℕ) (t : NodeTree) (got : Option SpanNode) → got ≡ node_of store at →
    got ≡ None → link ≡ Some at → IsTree store.nodes.items link t → ⊥
node_missing store at link t got is none isl i =
    let P : Option ℕ → Type 0 = λ w. IsTree store.nodes.items w t in
    let there = node_there store at t (subst P isl i) in cc (is, none, there)

-- a side is lower than the whole
pub side_lower : (search : Search) (store : SpanStore) (at : ℕ) (link : Option ℕ) (node : SpanNode) (reach : ℕ) (t l r : NodeTree) → link ≡ Some at →
    Sided search store at node reach t l r →
    (height_under store.nodes.items node.left < height_under store.nodes.items link) × (height_under store.nodes.items node.right < height_under store.nodes.items link)
side_lower search store at link node reach t l r isl s =
    let nodes : List StoredNode = store.nodes.items in
    let tall = s.open_t.height in
    let a : height_under nodes node.left ≡ height_under nodes (stored_at nodes at).node.left = ap (λ w. height_under nodes w.left) s.here in
    let b : height_under nodes node.right ≡ height_under nodes (stored_at nodes at).node.right = ap (λ w. height_under nodes w.right) s.here in
    let h : height_under nodes link ≡ height_under nodes (Some at) = ap (height_under nodes) isl in
    (omega arith, omega arith)
