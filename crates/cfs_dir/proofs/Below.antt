-- By how many names a node stands below another.
use Rattle.std.proofs.Common.{◌≡◌, ◌≢◌, ℕ, zero, suc, ◌+◌, ◌-◌, ◌<◌, ◌≤◌, List, [], ◌∷◌, ◌||◌, Bool, true, false, not, cond, inl, inr, refl, sym, ◌∙◌, ap, subst, arith, add-one}
use Rattle.std.specs.Prelude.{Option, Some, None, nat_eq}
use Rattle.std.specs.Option.{option_and_then, option_map}
use Rattle.std.proofs.lemmas.Bool.{cases_Bool, cond-true, cond-false, eq-eqb, ne_eqb, eqb-true, eqb-false}
use Rattle.cfs_dir.specs.declared.node.Node.{Node}
use Rattle.cfs_dir.specs.Namespace.{node_at, node_of, without}
use Rattle.std.specs.List.{list_any}
use Rattle.cfs_dir.specs.Rename.{is_too_deep, names_below, node_is_too_deep}
use Rattle.cfs_dir.specs.Table.{holds}
use Rattle.cfs_dir.specs.Tree.{leads_to_root}
use Rattle.cfs_dir.proofs.Members.{In, find-Some, find-None}
use Rattle.cfs_dir.proofs.Depth.{leads-cases, leads-root, leads-step, leads-zero}

abbrev pub one_more : Option ℕ → Option ℕ
one_more names = option_map (λ names. names + 1) names

abbrev pub below_found : ℕ → (ℕ → Option Node) → ℕ → Option Node → Option ℕ
below_found most find top found = one_more (option_and_then (λ (node : Node). names_below most find top node.parent) found)

pub below-own : (most : ℕ) (find : ℕ → Option Node) (top ino : ℕ) → ino ≡ top → names_below most find top ino ≡ Some 0
unfolding names_below
below-own zero find top ino e = cond-true (nat_eq ino top) (Some 0) None (eq-eqb ino top e)
below-own (suc most) find top ino e = cond-true (nat_eq ino top) (Some 0) (below_found most find top (find ino)) (eq-eqb ino top e)

pub below-zero : (find : ℕ → Option Node) (top ino : ℕ) → ino ≢ top → names_below 0 find top ino ≡ None
unfolding names_below
below-zero find top ino ne = cond-false (nat_eq ino top) (Some 0) None (ne_eqb ino top ne)

pub below-step : (most : ℕ) (find : ℕ → Option Node) (top ino : ℕ) → ino ≢ top
    → names_below (suc most) find top ino ≡ below_found most find top (find ino)
unfolding names_below
below-step most find top ino ne = cond-false (nat_eq ino top) (Some 0) (below_found most find top (find ino)) (ne_eqb ino top ne)

pub below-via : (most : ℕ) (find : ℕ → Option Node) (top ino : ℕ) (found : Option Node) → ino ≢ top → find ino ≡ found
    → names_below (suc most) find top ino ≡ below_found most find top found
below-via most find top ino found ne e = below-step most find top ino ne ∙ ap (λ o. below_found most find top o) e

-- it rests on what is found alone
pub below-same : (find other : ℕ → Option Node) → ((ino : ℕ) → find ino ≡ other ino) → (most top ino : ℕ)
    → names_below most find top ino ≡ names_below most other top ino
below-same find other same zero top ino = elim (cases_Bool (nat_eq ino top)) [
  | inl t ↦ let e = eqb-true ino top t in below-own 0 find top ino e ∙ sym (below-own 0 other top ino e)
  | inr f ↦ let ne = eqb-false ino top f in below-zero find top ino ne ∙ sym (below-zero other top ino ne)
]
below-same find other same (suc most) top ino = elim (cases_Bool (nat_eq ino top)) [
  | inl t ↦ let e = eqb-true ino top t in below-own (suc most) find top ino e ∙ sym (below-own (suc most) other top ino e)
  | inr f ↦
      let ne = eqb-false ino top f in
      below-via most find top ino (other ino) ne (same ino)
      ∙ elim (other ino) as (λ o. below_found most find top o ≡ below_found most other top o) [
        | None ↦ refl
        | Some node ↦ ap one_more (below-same find other same most top node.parent)
      ]
      ∙ sym (below-step most other top ino ne)
]

-- the loop that climbs: it stands at `above` after so many names
module _ (find : ℕ → Option Node) (top ino above names : ℕ)
    (h : names_below 16 find top ino ≡ option_map (λ n. n + names) (names_below (16 - names) find top above)) where
  pub climbed-here : above ≡ top → names_below 16 find top ino ≡ Some names
  climbed-here e =
      h ∙ ap (λ o. option_map (λ n. n + names) o) (below-own (16 - names) find top above e)
      ∙ (let zeroed : 0 + names ≡ names = omega arith in ap (λ n. Some n) zeroed)

  pub climbed-end : names ≡ 16 → above ≢ top → names_below 16 find top ino ≡ None
  climbed-end e ne =
      let none : 16 - names ≡ 0 = omega arith in
      h ∙ ap (λ o. option_map (λ n. n + names) o) (ap (λ m. names_below m find top above) none ∙ below-zero find top above ne)

  climbed : (found : Option Node) → names < 16 → above ≢ top → find above ≡ found
      → names_below 16 find top ino ≡ option_map (λ n. n + names) (below_found (16 - (names + 1)) find top found)
  climbed found lt ne e =
      let step : 16 - names ≡ suc (16 - (names + 1)) = omega arith in
      h ∙ ap (λ o. option_map (λ n. n + names) o)
      (ap (λ m. names_below m find top above) step ∙ below-via (16 - (names + 1)) find top above found ne e)

  pub climbed-lost : names < 16 → above ≢ top → find above ≡ None → names_below 16 find top ino ≡ None
  climbed-lost lt ne e = climbed None lt ne e

  pub climbed-next : (node : Node) → names < 16 → above ≢ top → find above ≡ Some node
      → names_below 16 find top ino ≡ option_map (λ n. n + (names + 1)) (names_below (16 - (names + 1)) find top node.parent)
  climbed-next node lt ne e =
      climbed (Some node) lt ne e
      ∙ elim (names_below (16 - (names + 1)) find top node.parent) as (λ o. option_map (λ n. n + names) (one_more o) ≡ option_map (λ n. n + (names + 1)) o) [
        | None ↦ refl
        | Some n ↦ let sums : (n + 1) + names ≡ n + (names + 1) = omega arith in ap (λ k. Some k) sums
      ]

pub climbed-start : (o : Option ℕ) → o ≡ option_map (λ n. n + 0) o
climbed-start None = refl
climbed-start (Some n) = let sum : n ≡ n + 0 = omega arith in ap (λ k. Some k) sum

-- no node stands below one that has no child
pub below-leaf : (most : ℕ) (nodes : List Node) (top ino : ℕ) → ((n : Node) → In nodes n → n.parent ≢ top) → ino ≢ top
    → names_below most (node_of nodes) top ino ≡ None
below-leaf zero nodes top ino leaf ne = below-zero (node_of nodes) top ino ne
below-leaf (suc most) nodes top ino leaf ne =
    elim (node_of nodes ino) as (λ o. node_of nodes ino ≡ o → names_below (suc most) (node_of nodes) top ino ≡ None) [
      | None ↦ λ was. below-via most (node_of nodes) top ino None ne was
      | Some node ↦ λ was.
          below-via most (node_of nodes) top ino (Some node) ne was
          ∙ ap one_more (below-leaf most nodes top node.parent leaf (leaf node (find-Some (λ n. nat_eq n.ino ino) nodes node was).0))
    ] refl

-- where a node is taken out in which none stands, every other stands as before
pub below-without : (most : ℕ) (nodes : List Node) (gone : Node) (top ino : ℕ)
    → ((i : ℕ) → i ≢ gone.ino → node_of (without gone.rec nodes) i ≡ node_of nodes i)
    → ((n : Node) → In nodes n → n.parent ≢ gone.ino) → ino ≢ gone.ino
    → names_below most (node_of (without gone.rec nodes)) top ino ≡ names_below most (node_of nodes) top ino
below-without zero nodes gone top ino kept leaf other = elim (cases_Bool (nat_eq ino top)) [
  | inl t ↦ let e = eqb-true ino top t in below-own 0 (node_of (without gone.rec nodes)) top ino e ∙ sym (below-own 0 (node_of nodes) top ino e)
  | inr f ↦ let ne = eqb-false ino top f in below-zero (node_of (without gone.rec nodes)) top ino ne ∙ sym (below-zero (node_of nodes) top ino ne)
]
below-without (suc most) nodes gone top ino kept leaf other = elim (cases_Bool (nat_eq ino top)) [
  | inl t ↦ let e = eqb-true ino top t in below-own (suc most) (node_of (without gone.rec nodes)) top ino e ∙ sym (below-own (suc most) (node_of nodes) top ino e)
  | inr f ↦
      let ne = eqb-false ino top f in
      below-via most (node_of (without gone.rec nodes)) top ino (node_of nodes ino) ne (kept ino other)
      ∙ elim (node_of nodes ino) as (λ o. node_of nodes ino ≡ o → below_found most (node_of (without gone.rec nodes)) top o ≡ below_found most (node_of nodes) top o) [
        | None ↦ λ was. refl
        | Some node ↦ λ was. ap one_more (below-without most nodes gone top node.parent kept leaf
            (leaf node (find-Some (λ n. nat_eq n.ino ino) nodes node was).0))
      ] refl
      ∙ sym (below-step most (node_of nodes) top ino ne)
]

-- a tree in which one node is moved: every other is found as before
module _ (nodes after : List Node) (top : ℕ) (kept : (ino : ℕ) (n : Node) → ino ≢ top → node_of nodes ino ≡ Some n → node_of after ino ≡ Some n) where
  leads_again : (steps ino : ℕ) (node : Node) → ino ≢ top → node_of nodes ino ≡ Some node → leads_to_root steps after node.parent ≡ true
      → leads_to_root (suc steps) after ino ≡ true
  leads_again steps ino node ne found h =
      let same : node.ino ≡ ino = eqb-true node.ino ino (find-Some (λ n. nat_eq n.ino ino) nodes node found).1 in
      subst (λ i. leads_to_root (suc steps) after i ≡ true) same
      (leads-step steps after node (ap (λ i. node_of after i) same ∙ kept ino node ne found) h)

  -- a node that does not stand below it leads to the root as before
  pub leads-apart : (most steps ino : ℕ) → steps ≤ most → names_below most (node_of nodes) top ino ≡ None → leads_to_root steps nodes ino ≡ true
      → leads_to_root steps after ino ≡ true
  leads-apart most zero ino le apart h = leads-root 0 after ino (leads-zero nodes ino h)
  leads-apart zero (suc steps) ino le apart h = absurd (omega arith)
  leads-apart (suc most) (suc steps) ino le apart h = elim (cases_Bool (nat_eq ino 1)) [
    | inl t ↦ leads-root (suc steps) after ino (eqb-true ino 1 t)
    | inr f ↦
        let w = leads-cases steps nodes ino h (eqb-false ino 1 f) in
        elim (cases_Bool (nat_eq ino top)) [
          | inl t ↦ absurd (let own = below-own (suc most) (node_of nodes) top ino (eqb-true ino top t) in cc)
          | inr g ↦
              let ne = eqb-false ino top g in
              let above : one_more (names_below most (node_of nodes) top w.0.parent) ≡ None =
              sym (below-via most (node_of nodes) top ino (Some w.0) ne w.1) ∙ apart in
              leads_again steps ino w.0 ne w.1 (leads-apart most steps w.0.parent (omega arith)
              (elim (names_below most (node_of nodes) top w.0.parent) as (λ o. one_more o ≡ None → o ≡ None) [
                | None ↦ λ e. refl
                | Some n ↦ λ e. absurd (cc)
              ] above) w.2)
        ]
  ]

  -- one that stands below it leads there, and from there to the root
  pub leads-below : (most names steps ino : ℕ) → names_below most (node_of nodes) top ino ≡ Some names → leads_to_root steps after top ≡ true
      → leads_to_root (steps + names) after ino ≡ true
  leads-below zero names steps ino below h = elim (cases_Bool (nat_eq ino top)) [
    | inl t ↦
        let e = eqb-true ino top t in
        let none : 0 ≡ names = let own = below-own 0 (node_of nodes) top ino e in cc in
        let sum : steps ≡ steps + names = omega arith in
        subst (λ n. leads_to_root n after ino ≡ true) sum (subst (λ i. leads_to_root steps after i ≡ true) (sym e) h)
    | inr f ↦ absurd (let zeroed = below-zero (node_of nodes) top ino (eqb-false ino top f) in cc)
  ]
  leads-below (suc most) names steps ino below h = elim (cases_Bool (nat_eq ino top)) [
    | inl t ↦
        let e = eqb-true ino top t in
        let none : 0 ≡ names = let own = below-own (suc most) (node_of nodes) top ino e in cc in
        let sum : steps ≡ steps + names = omega arith in
        subst (λ n. leads_to_root n after ino ≡ true) sum (subst (λ i. leads_to_root steps after i ≡ true) (sym e) h)
    | inr f ↦
        let ne = eqb-false ino top f in
        elim (node_of nodes ino) as (λ o. node_of nodes ino ≡ o → leads_to_root (steps + names) after ino ≡ true) [
          | None ↦ λ was. absurd (let lost = below-via most (node_of nodes) top ino None ne was in cc)
          | Some node ↦ λ was.
              let above : one_more (names_below most (node_of nodes) top node.parent) ≡ Some names =
              sym (below-via most (node_of nodes) top ino (Some node) ne was) ∙ below in
              elim (names_below most (node_of nodes) top node.parent) as (λ o. names_below most (node_of nodes) top node.parent ≡ o → one_more o ≡ Some names
              → leads_to_root (steps + names) after ino ≡ true) [
                | None ↦ λ is e. absurd (cc)
                | Some n ↦ λ is e.
                    let one : n + 1 ≡ names = cc in
                    let sums : suc (steps + n) ≡ steps + names = omega arith in
                    subst (λ k. leads_to_root k after ino ≡ true) sums
                    (leads_again (steps + n) ino node ne was (leads-below most n steps node.parent is h))
              ] refl above
        ] refl
  ]

pub deep-same : (find other : ℕ → Option Node) → ((ino : ℕ) → find ino ≡ other ino) → (top names : ℕ) (slots : List (Option Node))
    → list_any (holds (node_is_too_deep find top names)) slots ≡ list_any (holds (node_is_too_deep other top names)) slots
deep-same find other same top names [] = refl
deep-same find other same top names (None ∷ slots) = deep-same find other same top names slots
deep-same find other same top names (Some node ∷ slots) =
    ap (λ below. is_too_deep names below || list_any (holds (node_is_too_deep find top names)) slots) (below-same find other same 16 top node.ino)
    ∙ ap (λ rest. node_is_too_deep other top names node || rest) (deep-same find other same top names slots)
