-- The list that the tree shows, and what is asked of it.
use Rattle.std.proofs.Common.{◌≡◌, ◌≢◌, ℕ, ◌+◌, ◌-◌, ◌*◌, ◌^◌, ◌<◌, ◌≤◌, zero, suc, Option, None, Some, List, [], ◌∷◌, ◌++◌, max, length, refl, sym, ◌∙◌, ap, subst, arith, inl, inr, true, false, nat_eq, length-append, ◌⊎◌}
use Rattle.std.specs.Prelude.{Contains, IsSome, IsSomeAnd, slice_get, is_some, IfSome}
use Rattle.std.specs.HashMap as hash
use Rattle.std.proofs.Math.Nat.{pow-le-pow_right, pow-suc, pow-zero}
use Rattle.std.proofs.lemmas.Nat.{mul-le}
use native.Mathlib.Numerals.{unary_clauses}
use Rattle.std.proofs.lemmas.Bool.{cases_lt}
use Rattle.std.proofs.lemmas.Bool.Decides.{eqb_tells}
use Rattle.std.proofs.lemmas.Option.{slice_get-get_or}
use Rattle.cfs_file.specs.declared.span.Span.{Span}
use Rattle.cfs_file.specs.declared.span.Span.TheVariants.{Nothing, Range, From}
use Rattle.cfs_file.specs.Span.{Overlap, Covers}
use Rattle.std.proofs.lemmas.List.{length-map}
use Rattle.cfs_tree.specs.declared.search.Relation.{Relation}
use Rattle.cfs_tree.specs.declared.search.Relation.TheVariants as relations
use Rattle.cfs_tree.specs.declared.search.Search.{Search}
use Rattle.cfs_tree.specs.declared.store.stored_node.StoredNode.{StoredNode}
use Rattle.cfs_tree.specs.declared.store.SpanStore.{SpanStore}
use Rattle.cfs_tree.specs.Nodes.{stored_at, height_under, end_under, end_of, no_node}
use Rattle.cfs_tree.specs.Shape.{NodeTree, Empty, Fork, root_of, numbers_of, Stands, times, DifferByAtMost}
use Rattle.cfs_tree.specs.Spans.{span_at, without_place, IsLeast, IsBounded, HasPositions, OverlapsBetween, CoveredBetween, IsWithinBound, overlap_count}
use Rattle.cfs_tree.specs.Holding.{kept_at, kept_of, tree_under, Holds}
use Rattle.cfs_tree.specs.Store.{span_of}
use Rattle.cfs_tree.specs.Search.{IsAsked, LeastAmong, IsSearchOf, CanSearch, IsSearchable, IsExtent, Relates}
use Rattle.cfs_tree.proofs.Standing.{times-here}
use Rattle.cfs_tree.proofs.Kept.{tree_under-is}
use Rattle.cfs_tree.proofs.Removing.{numbers_within}
use Rattle.cfs_tree.proofs.Searching.{kept-found, reaching}

-- a tree that stands in the store is the one that it shows
pub shown : (store : SpanStore) (root : Option ℕ) (u : NodeTree) → Holds store root u → tree_under store.nodes.items root ≡ u
shown store root u h = tree_under-is store.nodes.items root u h.tree.root h.tree.stands

pub closes : (store : SpanStore) (root : Option ℕ) (u : NodeTree) → Holds store root u → Holds store root (tree_under store.nodes.items root)
closes store root u h = let P : NodeTree → Type 0 = λ w. Holds store root w in subst P (sym (shown store root u h)) h

pub shows : (store : SpanStore) (root : Option ℕ) (u : NodeTree) → Holds store root u →
    kept_of store.nodes.items (numbers_of (tree_under store.nodes.items root)) ≡ kept_of store.nodes.items (numbers_of u)
shows store root u h = ap (λ w. kept_of store.nodes.items (numbers_of w)) (shown store root u h)

-- the span that the list has for a place is the one that the index leads to

lookup-none : (nodes : List StoredNode) (place : ℕ) (ns : List ℕ) → ((n : ℕ) → 0 < times n ns → (stored_at nodes n).node.place ≢ place) →
    span_at (kept_of nodes ns) place ≡ None
lookup-none nodes place [] none = refl
lookup-none nodes place (n ∷ ns) none = elim (eqb_tells place (stored_at nodes n).node.place) [
  | inl hit ↦ absurd (none n (let t = times-here n ns in omega arith) (sym hit.1))
  | inr miss ↦ let r = lookup-none nodes place ns (λ k p. none k (omega arith)) in rw (miss.0, r) refl
]

lookup-some : (nodes : List StoredNode) (place n : ℕ) (ns : List ℕ) → 0 < times n ns → (stored_at nodes n).node.place ≡ place →
    ((m : ℕ) → 0 < times m ns → (stored_at nodes m).node.place ≡ place → m ≡ n) → span_at (kept_of nodes ns) place ≡ Some (stored_at nodes n).node.span
lookup-some nodes place n [] p is only = absurd (omega arith)
lookup-some nodes place n (m ∷ ms) p is only = elim (eqb_tells place (stored_at nodes m).node.place) [
  | inl hit ↦ let e = only m (let t = times-here m ms in omega arith) (sym hit.1) in rw (hit.0, e) refl
  | inr miss ↦ elim (eqb_tells n m) [
    | inl same ↦ absurd (miss.1 (sym is ∙ ap (λ w. (stored_at nodes w).node.place) same.1))
    | inr other ↦ let c : times n (m ∷ ms) ≡ 0 + times n ms = rw other.0 refl in
        let r = lookup-some nodes place n ms (omega arith) is (λ k q e. only k (omega arith) e) in rw (miss.0, r) refl
  ]
]

option_cases : (o : Option ℕ) → (o ≡ None) ⊎ ((n : ℕ) × (o ≡ Some n))
option_cases None = inl refl
option_cases (Some n) = inr (n, refl)

pub span_at-is : (store : SpanStore) (root : Option ℕ) (t : NodeTree) → Holds store root t → (place : ℕ) →
    span_at (kept_of store.nodes.items (numbers_of t)) place ≡ span_of store place
span_at-is store root t h place =
    let nodes : List StoredNode = store.nodes.items in
    elim (option_cases (hash.get nat_eq store.numbers place)) [
      | inl none ↦ rw none (lookup-none nodes place (numbers_of t) (λ n p e.
          let f = h.found n p in
          let k : hash.get nat_eq store.numbers (stored_at nodes n).node.place ≡ None = ap (hash.get nat_eq store.numbers) e ∙ none in cc (f, k)))
      | inr some ↦ let n = some.0 in let l = h.listed place n some.1 in
          let within = numbers_within nodes t n h.tree.stands l.0 in
          let got : slice_get nodes n ≡ Some (stored_at nodes n) = slice_get-get_or nodes n no_node within in
          let is = lookup-some nodes place n (numbers_of t) l.0 l.1 (λ m p e.
          let f = h.found m p in
          let k : hash.get nat_eq store.numbers (stored_at nodes m).node.place ≡ Some n = ap (hash.get nat_eq store.numbers) e ∙ some.1 in cc (f, k)) in
          rw (some.1, got) is
    ]

-- a place is in the index exactly where the list has it
pub unkept-is : (store : SpanStore) (root : Option ℕ) (t : NodeTree) → Holds store root t → (place : ℕ) →
    span_at (kept_of store.nodes.items (numbers_of t)) place ≡ None → hash.get nat_eq store.numbers place ≡ None
unkept-is store root t h place e =
    let is = span_at-is store root t h place in
    elim (option_cases (hash.get nat_eq store.numbers place)) [
      | inl none ↦ none
      | inr some ↦ let l = h.listed place some.0 some.1 in
          let within = numbers_within store.nodes.items t some.0 h.tree.stands l.0 in
          let got : slice_get store.nodes.items some.0 ≡ Some (stored_at store.nodes.items some.0) = slice_get-get_or store.nodes.items some.0 no_node within in
          let k : span_of store place ≡ Some (stored_at store.nodes.items some.0).node.span = rw (some.1, got) refl in
          absurd (cc (e, is, k))
    ]

kept-contains : (nodes : List StoredNode) (n : ℕ) (ns : List ℕ) → 0 < times n ns → Contains (kept_of nodes ns) (kept_at nodes n)
kept-contains nodes n [] p = absurd (omega arith)
kept-contains nodes n (m ∷ ms) p = elim (eqb_tells n m) [
  | inl same ↦ (zero, omega arith, ap (kept_at nodes) (sym same.1))
  | inr other ↦ let c : times n (m ∷ ms) ≡ 0 + times n ms = rw other.0 refl in
      let r = kept-contains nodes n ms (omega arith) in
      let h = r.1 in (suc r.0, omega arith, r.2)
]

-- the pairs of the list are the places with their spans
pub contains-at : (store : SpanStore) (root : Option ℕ) (t : NodeTree) → Holds store root t → (kept : ℕ × Span) →
    Contains (kept_of store.nodes.items (numbers_of t)) kept → span_at (kept_of store.nodes.items (numbers_of t)) kept.0 ≡ Some kept.1
contains-at store root t h kept c =
    let nodes : List StoredNode = store.nodes.items in
    let f = kept-found nodes (numbers_of t) kept c in
    let P : ℕ × Span → Type 0 = λ w. span_at (kept_of nodes (numbers_of t)) w.0 ≡ Some w.1 in
    subst P (sym f.2) (lookup-some nodes (stored_at nodes f.0).node.place f.0 (numbers_of t) f.1 refl (λ m p e.
    let a = h.found m p in let b = h.found f.0 f.1 in
    let k : hash.get nat_eq store.numbers (stored_at nodes m).node.place ≡ hash.get nat_eq store.numbers (stored_at nodes f.0).node.place = ap (hash.get nat_eq store.numbers) e in cc (a, b, k)))

pub at-contains : (store : SpanStore) (root : Option ℕ) (t : NodeTree) → Holds store root t → (place : ℕ) (span : Span) →
    span_at (kept_of store.nodes.items (numbers_of t)) place ≡ Some span → Contains (kept_of store.nodes.items (numbers_of t)) (place, span)
at-contains store root t h place span e =
    let nodes : List StoredNode = store.nodes.items in
    let is = span_at-is store root t h place in
    elim (option_cases (hash.get nat_eq store.numbers place)) [
      | inl none ↦ let k : span_of store place ≡ None = rw none refl in absurd (cc (e, is, k))
      | inr some ↦ let n = some.0 in let l = h.listed place n some.1 in
          let within = numbers_within nodes t n h.tree.stands l.0 in
          let got : slice_get nodes n ≡ Some (stored_at nodes n) = slice_get-get_or nodes n no_node within in
          let k : span_of store place ≡ Some (stored_at nodes n).node.span = rw (some.1, got) refl in
          let s : (stored_at nodes n).node.span ≡ span = cc (e, is, k) in
          let P : ℕ × Span → Type 0 = λ w. Contains (kept_of nodes (numbers_of t)) w in
          let pair : kept_at nodes n ≡ (place, span) = rw (l.1, s) refl in
          subst P pair (kept-contains nodes n (numbers_of t) l.0)
    ]

-- the height

pub square : (a : ℕ) → a ^ 2 ≡ a * a
square a = let e : 1 * a ≡ a = omega arith in pow-suc a 1 ∙ ap (λ w. w * a) (pow-suc a 0 ∙ ap (λ w. w * a) (pow-zero a) ∙ e)

quarter : (g : ℕ) → 2 ^ suc (suc g) ≡ 4 * 2 ^ g
quarter g = simp unary_clauses (omega arith)

quad : (g m : ℕ) → 2 ^ g ≤ m * m → 2 ^ suc (suc g) ≤ (m + m) * (m + m)
quad g m h = let e = quarter g in let f : (m + m) * (m + m) ≡ 4 * (m * m) = grind arith in omega arith

step_above : (hl hr a b : ℕ) → DifferByAtMost 1 hl hr → 2 ^ hl ≤ a * a → 2 ^ hr ≤ b * b → 1 ≤ max hl hr → 2 ^ (max hl hr + 1) ≤ (a + b) * (a + b)
step_above hl hr a b even l r pos =
    let g : ℕ = max hl hr - 1 in
    let is : max hl hr + 1 ≡ suc (suc g) = omega arith in
    let zero_two : 0 < 2 = omega arith in
    let low : 2 ^ g ≤ 2 ^ hl = pow-le-pow_right zero_two (omega arith) in
    let low2 : 2 ^ g ≤ 2 ^ hr = pow-le-pow_right zero_two (omega arith) in
    elim (cases_lt a b) [
      | inl lt ↦ let k = quad g a (omega arith) in let m = mul-le (a + a) (a + a) (a + b) (a + b) (omega arith) (omega arith) in rw is (omega arith)
      | inr ge ↦ let k = quad g b (omega arith) in let m = mul-le (b + b) (b + b) (a + b) (a + b) (omega arith) (omega arith) in rw is (omega arith)
    ]

height_step : (hl hr a b : ℕ) → DifferByAtMost 1 hl hr → 2 ^ hl ≤ a * a → 2 ^ hr ≤ b * b → 1 ≤ a → 1 ≤ b → 2 ^ (max hl hr + 1) ≤ (a + b) * (a + b)
height_step zero zero a b even l r p q = let e = mul-le 2 2 (a + b) (a + b) (omega arith) (omega arith) in omega arith
height_step zero (suc hr) a b even l r p q = step_above zero (suc hr) a b even l r (omega arith)
height_step (suc hl) hr a b even l r p q = step_above (suc hl) hr a b even l r (omega arith)

pub height_bound : (nodes : List StoredNode) (t : NodeTree) → Stands nodes t →
    2 ^ height_under nodes (root_of t) ≤ (length (numbers_of t) + 1) * (length (numbers_of t) + 1)
height_bound nodes Empty s = omega arith
height_bound nodes (Fork at l r) s =
    let tall : (stored_at nodes at).height ≡ max (height_under nodes (root_of l)) (height_under nodes (root_of r)) + 1 = ap (λ v. v.height) s.1 in
    let a = height_bound nodes l s.3 in
    let b = height_bound nodes r s.4 in
    let step = height_step (height_under nodes (root_of l)) (height_under nodes (root_of r)) (length (numbers_of l) + 1) (length (numbers_of r) + 1) s.2 a b (omega arith) (omega arith) in
    let size : length (numbers_of l ++ at ∷ numbers_of r) + 1 ≡ (length (numbers_of l) + 1) + (length (numbers_of r) + 1) =
    let e = length-append (numbers_of l) (at ∷ numbers_of r) in omega arith in
    rw (tall, size) step

overlaps-as : (search : Search) (asked kept : Span) → search.relation ≡ relations.Overlaps → search.asked ≡ asked → Overlap asked kept → Relates search.relation search.asked kept
overlaps-as search asked kept is same o =
    let P : Relation → Type 0 = λ w. Relates w search.asked kept in let Q : Span → Type 0 = λ w. Overlap w kept in subst P (sym is) (subst Q (sym same) o)

as-overlaps : (search : Search) (asked kept : Span) → search.relation ≡ relations.Overlaps → search.asked ≡ asked → Relates search.relation search.asked kept → Overlap asked kept
as-overlaps search asked kept is same o =
    let P : Relation → Type 0 = λ w. Relates w search.asked kept in let Q : Span → Type 0 = λ w. Overlap w kept in subst Q same (subst P is o)

covers-as : (search : Search) (asked kept : Span) → search.relation ≡ relations.Covers → search.asked ≡ asked → Covers asked kept → Relates search.relation search.asked kept
covers-as search asked kept is same o =
    let P : Relation → Type 0 = λ w. Relates w search.asked kept in let Q : Span → Type 0 = λ w. Covers w kept in subst P (sym is) (subst Q (sym same) o)

as-covers : (search : Search) (asked kept : Span) → search.relation ≡ relations.Covers → search.asked ≡ asked → Relates search.relation search.asked kept → Covers asked kept
as-covers search asked kept is same o =
    let P : Relation → Type 0 = λ w. Relates w search.asked kept in let Q : Span → Type 0 = λ w. Covers w kept in subst Q same (subst P is o)

some_and : (o : Option Span) (R : Span → Type 0) → IsSomeAnd o R → (s : Span) × (o ≡ Some s) × R s
some_and None R h = absurd h
some_and (Some s) R h = (s, refl, h)

and_some : (o : Option Span) (s : Span) (R : Span → Type 0) → o ≡ Some s → R s → IsSomeAnd o R
and_some o s R e r = let P : Option Span → Type 0 = λ w. IsSomeAnd w R in subst P (sym e) r

-- the least of the pairs is the least of the places with their spans
least-as : (store : SpanStore) (root : Option ℕ) (t : NodeTree) → Holds store root t → (P : ℕ × Span → Type 0) (after before : ℕ) (R : Span → Type 0) →
    ((place : ℕ) (span : Span) → after < place → place < before → R span → P (place, span)) →
    ((place : ℕ) (span : Span) → P (place, span) → (after < place) × (place < before) × R span) → (result : Option ℕ) →
    LeastAmong P (kept_of store.nodes.items (numbers_of t)) result →
    IsLeast (λ place. (after < place) × (place < before) × IsSomeAnd (span_at (kept_of store.nodes.items (numbers_of t)) place) R) result
least-as store root t h P after before R to from None l = λ place q.
    let s = some_and _ R q.2 in
    l (place, s.0) (at-contains store root t h place s.0 s.1) (to place s.0 q.0 q.1 s.2)
least-as store root t h P after before R to from (Some least) l = (
  let a = from least l.0.0 l.0.2 in (a.0, a.1, and_some _ l.0.0 R (contains-at store root t h (least, l.0.0) l.0.1) a.2),
  λ place q. let s = some_and _ R q.2 in
      l.1 (place, s.0) (at-contains store root t h place s.0 s.1) (to place s.0 q.0 q.1 s.2),
)

-- the bound, of any search
pub within_bound : (store : SpanStore) (root : Option ℕ) (t : NodeTree) → Holds store root t → (asked : Span) (steps : ℕ) →
    steps ≤ (overlap_count asked (kept_of store.nodes.items (numbers_of t)) + 1) * height_under store.nodes.items root →
    IsWithinBound (kept_of store.nodes.items (numbers_of t)) asked steps
within_bound store root t h asked steps b =
    let high = height_bound store.nodes.items t h.tree.stands in
    let by : height_under store.nodes.items (root_of t) ≡ height_under store.nodes.items root = ap (height_under store.nodes.items) h.tree.root in
    let size : length (kept_of store.nodes.items (numbers_of t)) ≡ length (numbers_of t) = simp length-map in
    let k : ℕ = overlap_count asked (kept_of store.nodes.items (numbers_of t)) + 1 in
    let more = mul-le k (height_under store.nodes.items root) k (height_under store.nodes.items root + 1) (omega arith) (omega arith) in
    let P : ℕ → Type 0 = λ w. 2 ^ w ≤ (length (numbers_of t) + 1) * (length (numbers_of t) + 1) in
    let Q : ℕ → Type 0 = λ w. 2 ^ height_under store.nodes.items root ≤ (w + 1) ^ 2 in
    (height_under store.nodes.items root, subst Q (sym size) (rw (square (length (numbers_of t) + 1)) (subst P by high)), omega arith)

-- no span without positions is overlapped or covered by any
pub no_overlap : (asked kept : Span) → (HasPositions asked → ⊥) → Overlap asked kept → ⊥
no_overlap Nothing kept none o = o.1.0
no_overlap (Range f t) kept none o = none (let a = o.1.0.0 in let b = o.1.0.1 in omega arith)
no_overlap (From f) kept none o = none tt

pub no_cover : (asked kept : Span) → (HasPositions asked → ⊥) → HasPositions kept → Covers asked kept → ⊥
no_cover Nothing (Range g u) none p c = c g (omega arith, p)
no_cover Nothing (From g) none p c = c g (omega arith)
no_cover Nothing Nothing none p c = p
no_cover (Range f t) (Range g u) none p c = let k = c g (omega arith, p) in none (omega arith)
no_cover (Range f t) (From g) none p c = let k = c g (omega arith) in none (omega arith)
no_cover (Range f t) Nothing none p c = p
no_cover (From f) kept none p c = none tt

pub nothing_overlapped : (spans : List (ℕ × Span)) (asked : Span) (after before : ℕ) → (HasPositions asked → ⊥) → IsLeast (OverlapsBetween spans asked after before) None
nothing_overlapped spans asked after before none = λ place q. let s = some_and _ (λ kept. Overlap asked kept) q.2 in no_overlap asked s.0 none s.2

pub nothing_covered : (store : SpanStore) (root : Option ℕ) (t : NodeTree) → Holds store root t → (asked : Span) (after before : ℕ) → (HasPositions asked → ⊥) →
    IsLeast (CoveredBetween (kept_of store.nodes.items (numbers_of t)) asked after before) None
nothing_covered store root t h asked after before none = λ place q.
    let s = some_and _ (λ kept. Covers asked kept) q.2 in
    let c = at-contains store root t h place s.0 s.1 in
    let f = kept-found store.nodes.items (numbers_of t) (place, s.0) c in
    let P : ℕ × Span → Type 0 = λ w. HasPositions w.1 in
    no_cover asked s.0 none (subst P (sym f.2) (h.spans f.0 f.1).1) s.2

pub searchable : (store : SpanStore) (root : Option ℕ) (t : NodeTree) → Holds store root t → IsSearchable store root t
searchable store root t h = record { tree = h.tree; spans = h.spans; places = h.places }

end_fits : (asked : Span) → IsBounded asked → end_of asked ≤ 18446744073709551615
end_fits Nothing b = omega arith
end_fits (Range f t) b = let h = b.1 in omega arith
end_fits (From f) b = omega arith

pub reach_fits : (nodes : List StoredNode) (t : NodeTree) → Stands nodes t →
    ((n : ℕ) → 0 < times n (numbers_of t) → IsBounded (stored_at nodes n).node.span) → end_under nodes (root_of t) ≤ 18446744073709551615
reach_fits nodes t s b = elim (cases_lt 18446744073709551615 (end_under nodes (root_of t))) [
  | inl far ↦ let f = reaching nodes t 18446744073709551615 s far in
      let k = end_fits (stored_at nodes f.0).node.span (b f.0 f.1) in let g = f.2 in absurd (omega arith)
  | inr near ↦ near
]

pub can_search : (store : SpanStore) (root : Option ℕ) (t : NodeTree) → Holds store root t → (relation : Relation) (asked : Span) (after before : ℕ) (search : Search) →
    IsSearchOf relation asked after before search → CanSearch search store root 18446744073709551615 t
can_search store root t h relation asked after before search is =
    let P : Span → Type 0 = λ w. IsExtent w search.from search.end in
    let r = reach_fits store.nodes.items t h.tree.stands (λ n p. (h.spans n p).0) in
    let by : end_under store.nodes.items (root_of t) ≡ end_under store.nodes.items root = ap (end_under store.nodes.items) h.tree.root in
    (subst P (sym is.same_asked) is.extent, omega arith, searchable store root t h)

-- what a search finds, in the list's own words

pub overlap-least : (store : SpanStore) (root : Option ℕ) (t : NodeTree) → Holds store root t → (asked : Span) (after before : ℕ) (search : Search) →
    IsSearchOf relations.Overlaps asked after before search → (result : Option ℕ) →
    LeastAmong (IsAsked search) (kept_of store.nodes.items (numbers_of t)) result →
    IsLeast (OverlapsBetween (kept_of store.nodes.items (numbers_of t)) asked after before) result
overlap-least store root t h asked after before search is result l =
    least-as store root t h (IsAsked search) after before (λ kept. Overlap asked kept)
    (λ place span p q r. (rw is.same_after p, rw is.same_before q, overlaps-as search asked span is.same_relation is.same_asked r))
    (λ place span a. (rw (← is.same_after) a.0, rw (← is.same_before) a.1, as-overlaps search asked span is.same_relation is.same_asked a.2)) result l

pub covered-least : (store : SpanStore) (root : Option ℕ) (t : NodeTree) → Holds store root t → (asked : Span) (after before : ℕ) (search : Search) →
    IsSearchOf relations.Covers asked after before search → (result : Option ℕ) →
    LeastAmong (IsAsked search) (kept_of store.nodes.items (numbers_of t)) result →
    IsLeast (CoveredBetween (kept_of store.nodes.items (numbers_of t)) asked after before) result
covered-least store root t h asked after before search is result l =
    least-as store root t h (IsAsked search) after before (λ kept. Covers asked kept)
    (λ place span p q r. (rw is.same_after p, rw is.same_before q, covers-as search asked span is.same_relation is.same_asked r))
    (λ place span a. (rw (← is.same_after) a.0, rw (← is.same_before) a.1, as-covers search asked span is.same_relation is.same_asked a.2)) result l

-- a place that the index has not, or has

pub missing-is : (store : SpanStore) (root : Option ℕ) (t : NodeTree) → Holds store root t → (place : ℕ) → hash.get nat_eq store.numbers place ≡ None →
    span_at (kept_of store.nodes.items (numbers_of t)) place ≡ None
missing-is store root t h place e = span_at-is store root t h place ∙ rw e refl

pub present-is : (store : SpanStore) (root : Option ℕ) (t : NodeTree) → Holds store root t → (place : ℕ) → IsSome (hash.get nat_eq store.numbers place) →
    IsSome (span_at (kept_of store.nodes.items (numbers_of t)) place)
present-is store root t h place s =
    elim (option_cases (hash.get nat_eq store.numbers place)) [
      | inl none ↦ let k : false ≡ true = ap is_some (sym none) ∙ s in absurd (cc (k))
      | inr some ↦ let l = h.listed place some.0 some.1 in
          let within = numbers_within store.nodes.items t some.0 h.tree.stands l.0 in
          let got : slice_get store.nodes.items some.0 ≡ Some (stored_at store.nodes.items some.0) = slice_get-get_or store.nodes.items some.0 no_node within in
          let k : span_of store place ≡ Some (stored_at store.nodes.items some.0).node.span = rw (some.1, got) refl in
          ap is_some (span_at-is store root t h place ∙ k)
    ]

pub without_place-absent : (place : ℕ) (spans : List (ℕ × Span)) → span_at spans place ≡ None → without_place place spans ≡ spans
without_place-absent place [] e = refl
without_place-absent place (kept ∷ rest) e = elim (eqb_tells place kept.0) [
  | inl hit ↦ let k : span_at (kept ∷ rest) place ≡ Some kept.1 = rw hit.0 refl in absurd (cc (e, k))
  | inr miss ↦ let k : span_at (kept ∷ rest) place ≡ span_at rest place = rw miss.0 refl in
      let r = without_place-absent place rest (sym k ∙ e) in rw (miss.0, r) refl
]

-- a span that the tree keeps has positions and is bounded
pub found-fits : (store : SpanStore) (root : Option ℕ) (t : NodeTree) → Holds store root t → (place : ℕ) (result : Option Span) → result ≡ span_of store place →
    IfSome result (λ span. IsBounded span × HasPositions span)
found-fits store root t h place result e =
    let P : Option Span → Type 0 = λ w. IfSome w (λ span. IsBounded span × HasPositions span) in
    elim (option_cases (hash.get nat_eq store.numbers place)) [
      | inl none ↦ let k : span_of store place ≡ None = rw none refl in subst P (sym (e ∙ k)) tt
      | inr some ↦ let l = h.listed place some.0 some.1 in
          let within = numbers_within store.nodes.items t some.0 h.tree.stands l.0 in
          let got : slice_get store.nodes.items some.0 ≡ Some (stored_at store.nodes.items some.0) = slice_get-get_or store.nodes.items some.0 no_node within in
          let k : span_of store place ≡ Some (stored_at store.nodes.items some.0).node.span = rw (some.1, got) refl in
          subst P (sym (e ∙ k)) (h.spans some.0 l.0)
    ]
