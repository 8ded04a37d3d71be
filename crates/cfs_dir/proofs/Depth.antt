-- How far the root is above a node, in a tree with one node more or one less.
use Rattle.std.proofs.Common.{◌≡◌, ◌≢◌, ℕ, zero, suc, ◌+◌, List, true, false, not, inl, inr, refl, sym, ◌∙◌, ap, subst, arith}
use Rattle.std.specs.Prelude.{Some, None, nat_eq}
use Rattle.std.specs.Option.{option_map_or}
use Rattle.std.proofs.lemmas.Bool.{cases_Bool, cond-true, cond-false, eq-eqb, ne_eqb, eqb-true, eqb-false}
use Rattle.cfs_dir.specs.declared.node.Node.{Node}
use Rattle.cfs_dir.specs.Namespace.{node_at, node_of, placed, without}
use Rattle.cfs_dir.specs.Tree.{leads_to_root}
use Rattle.cfs_dir.proofs.Members.{In, find-Some, find-placed_other, find-filter_kept}

-- where a number leads to the root by one step more: it is the root's, or its node's parent leads there
pub leads-cases : (steps : ℕ) (nodes : List Node) (ino : ℕ) → leads_to_root (suc steps) nodes ino ≡ true → ino ≢ 1
    → (node : Node) × (node_of nodes ino ≡ Some node) × (leads_to_root steps nodes node.parent ≡ true)
unfolding leads_to_root
leads-cases steps nodes ino h ne =
    let rest : option_map_or (λ (node : Node). leads_to_root steps nodes node.parent) (node_of nodes ino) false ≡ true =
    sym (cond-false (nat_eq ino 1) true (option_map_or (λ (node : Node). leads_to_root steps nodes node.parent) (node_of nodes ino) false) (ne_eqb ino 1 ne)) ∙ h in
    elim (node_of nodes ino) as (λ o. node_of nodes ino ≡ o → option_map_or (λ (node : Node). leads_to_root steps nodes node.parent) o false ≡ true
    → (node : Node) × (o ≡ Some node) × (leads_to_root steps nodes node.parent ≡ true)) [
      | None ↦ λ was e. absurd (cc)
      | Some node ↦ λ was e. (node, refl, e)
    ] refl rest

pub leads-root : (steps : ℕ) (nodes : List Node) (ino : ℕ) → ino ≡ 1 → leads_to_root steps nodes ino ≡ true
unfolding leads_to_root
leads-root zero nodes ino e = eq-eqb ino 1 e
leads-root (suc steps) nodes ino e =
    cond-true (nat_eq ino 1) true (option_map_or (λ (node : Node). leads_to_root steps nodes node.parent) (node_of nodes ino) false) (eq-eqb ino 1 e)

pub leads-step : (steps : ℕ) (nodes : List Node) (node : Node) → node_of nodes node.ino ≡ Some node → leads_to_root steps nodes node.parent ≡ true
    → leads_to_root (suc steps) nodes node.ino ≡ true
unfolding leads_to_root
leads-step steps nodes node found h = elim (cases_Bool (nat_eq node.ino 1)) [
  | inl t ↦ cond-true (nat_eq node.ino 1) true (option_map_or (λ (n : Node). leads_to_root steps nodes n.parent) (node_of nodes node.ino) false) t
  | inr f ↦ cond-false (nat_eq node.ino 1) true (option_map_or (λ (n : Node). leads_to_root steps nodes n.parent) (node_of nodes node.ino) false) f
      ∙ ap (λ o. option_map_or (λ (n : Node). leads_to_root steps nodes n.parent) o false) found ∙ h
]

pub leads-zero : (nodes : List Node) (ino : ℕ) → leads_to_root 0 nodes ino ≡ true → ino ≡ 1
unfolding leads_to_root
leads-zero nodes ino h = eqb-true ino 1 h

pub leads-more : (steps : ℕ) (nodes : List Node) (ino : ℕ) → leads_to_root steps nodes ino ≡ true → leads_to_root (suc steps) nodes ino ≡ true
leads-more zero nodes ino h = leads-root 1 nodes ino (leads-zero nodes ino h)
leads-more (suc steps) nodes ino h = elim (cases_Bool (nat_eq ino 1)) [
  | inl t ↦ leads-root (suc (suc steps)) nodes ino (eqb-true ino 1 t)
  | inr f ↦
      let w = leads-cases steps nodes ino h (eqb-false ino 1 f) in
      let found = w.1 in
      let same : w.0.ino ≡ ino = eqb-true w.0.ino ino (find-Some (λ n. nat_eq n.ino ino) nodes w.0 found).1 in
      subst (λ i. leads_to_root (suc (suc steps)) nodes i ≡ true) same
      (leads-step (suc steps) nodes w.0 (subst (λ i. node_of nodes i ≡ Some w.0) (sym same) found) (leads-more steps nodes w.0.parent w.2))
]

pub leads-le : (steps more : ℕ) (nodes : List Node) (ino : ℕ) → leads_to_root steps nodes ino ≡ true → leads_to_root (steps + more) nodes ino ≡ true
leads-le steps zero nodes ino h = subst (λ n. leads_to_root n nodes ino ≡ true) (let e : steps ≡ steps + 0 = omega arith in e) h
leads-le steps (suc more) nodes ino h =
    subst (λ n. leads_to_root n nodes ino ≡ true) (let e : suc (steps + more) ≡ steps + suc more = omega arith in e)
    (leads-more (steps + more) nodes ino (leads-le steps more nodes ino h))

-- a new node takes no way to the root away
pub leads-placed : (steps : ℕ) (nodes : List Node) (node : Node) (ino : ℕ) → node_of nodes node.ino ≡ None
    → leads_to_root steps nodes ino ≡ true → leads_to_root steps (placed node nodes) ino ≡ true
leads-placed zero nodes node ino free h = leads-root 0 (placed node nodes) ino (leads-zero nodes ino h)
leads-placed (suc steps) nodes node ino free h = elim (cases_Bool (nat_eq ino 1)) [
  | inl t ↦ leads-root (suc steps) (placed node nodes) ino (eqb-true ino 1 t)
  | inr f ↦
      let w = leads-cases steps nodes ino h (eqb-false ino 1 f) in
      let found = w.1 in
      let same : w.0.ino ≡ ino = eqb-true w.0.ino ino (find-Some (λ n. nat_eq n.ino ino) nodes w.0 found).1 in
      let other : nat_eq node.ino ino ≡ false = ne_eqb node.ino ino (λ e.
      let clash = sym found ∙ ap (λ i. node_of nodes i) (sym e) ∙ free in cc) in
      let still : node_of (placed node nodes) w.0.ino ≡ Some w.0 =
      ap (λ i. node_of (placed node nodes) i) same ∙ find-placed_other (λ n. nat_eq n.ino ino) node nodes other ∙ found in
      subst (λ i. leads_to_root (suc steps) (placed node nodes) i ≡ true) same
      (leads-step steps (placed node nodes) w.0 still (leads-placed steps nodes node w.0.parent free w.2))
]

-- nor does the removal of a node in which none stands
pub leads-without : (steps : ℕ) (nodes : List Node) (node : Node) (ino : ℕ) → node_at nodes node.rec ≡ Some node
    → ((n : Node) → In nodes n → node_at nodes n.rec ≡ Some n) → ((n : Node) → In nodes n → n.parent ≢ node.ino) → ino ≢ node.ino
    → leads_to_root steps nodes ino ≡ true → leads_to_root steps (without node.rec nodes) ino ≡ true
leads-without zero nodes node ino at each leaf other h = leads-root 0 (without node.rec nodes) ino (leads-zero nodes ino h)
leads-without (suc steps) nodes node ino at each leaf other h = elim (cases_Bool (nat_eq ino 1)) [
  | inl t ↦ leads-root (suc steps) (without node.rec nodes) ino (eqb-true ino 1 t)
  | inr f ↦
      let w = leads-cases steps nodes ino h (eqb-false ino 1 f) in
      let found = w.1 in
      let r = find-Some (λ n. nat_eq n.ino ino) nodes w.0 found in
      let same : w.0.ino ≡ ino = eqb-true w.0.ino ino r.1 in
      let kept : not (nat_eq w.0.rec node.rec) ≡ true = ap not (ne_eqb w.0.rec node.rec (λ e.
      let clash : Some w.0 ≡ Some node = sym (each w.0 r.0) ∙ ap (λ i. node_at nodes i) e ∙ at in
      let one : w.0 ≡ node = cc in other (sym same ∙ ap (λ (n : Node). n.ino) one))) in
      let still : node_of (without node.rec nodes) w.0.ino ≡ Some w.0 =
      ap (λ i. node_of (without node.rec nodes) i) same
      ∙ find-filter_kept (λ n. nat_eq n.ino ino) (λ n. not (nat_eq n.rec node.rec)) nodes w.0 found kept in
      subst (λ i. leads_to_root (suc steps) (without node.rec nodes) i ≡ true) same
      (leads-step steps (without node.rec nodes) w.0 still
      (leads-without steps nodes node w.0.parent at each leaf (leaf w.0 r.0) w.2))
]
