-- The node of each record after a node has joined, left or moved.
use Rattle.std.proofs.Common.{ℕ, ◌≡◌, ◌≢◌, List, [], ◌∷◌, Bool, true, false, cond, not, Some, None, inl, inr, refl, sym, ◌∙◌, ap}
use Rattle.std.specs.Prelude.{nat_eq}
use Rattle.std.proofs.lemmas.Bool.{cases_Bool, cond-false, cond-true, eq-eqb, eqb-true, ne_eqb}
use Rattle.cfs_dir.specs.declared.node.Node.{Node}
use Rattle.cfs_dir.specs.Namespace.{node_at, placed, without}
use Rattle.cfs_dir.proofs.Members.{In-filter, find-none_of, find-placed_other, find-placed_same}

pub placed_same : (node : Node) (nodes : List Node) → node_at nodes node.rec ≡ None → node_at (placed node nodes) node.rec ≡ Some node
placed_same node nodes free = find-placed_same (λ n. nat_eq n.rec node.rec) node nodes (eq-eqb node.rec node.rec refl) free

pub placed_other : (node : Node) (nodes : List Node) (rec : ℕ) → rec ≢ node.rec → node_at (placed node nodes) rec ≡ node_at nodes rec
placed_other node nodes rec apart = find-placed_other (λ n. nat_eq n.rec rec) node nodes (ne_eqb node.rec rec (λ e. apart (sym e)))

-- what is not true is false
undone : (b : Bool) → not b ≡ true → b ≡ false
undone true e = absurd (cc)
undone false e = refl

pub without_same : (rec : ℕ) (nodes : List Node) → node_at (without rec nodes) rec ≡ None
without_same rec nodes = find-none_of (λ n. nat_eq n.rec rec) (without rec nodes)
    (λ n m. undone (nat_eq n.rec rec) (In-filter (λ n. not (nat_eq n.rec rec)) nodes n m).1)

pub without_other : (rec other : ℕ) (nodes : List Node) → other ≢ rec → node_at (without rec nodes) other ≡ node_at nodes other
without_other rec other [] apart = refl
without_other rec other (first ∷ rest) apart = elim (cases_Bool (nat_eq first.rec rec)) [
  | inl t ↦
      let gone : not (nat_eq first.rec rec) ≡ false = ap not t in
      let same : first.rec ≡ rec = eqb-true first.rec rec t in
      let not_it : nat_eq first.rec other ≡ false = ne_eqb first.rec other (λ e. apart (sym e ∙ same)) in
      ap (λ nodes. node_at nodes other) (cond-false (not (nat_eq first.rec rec)) (first ∷ without rec rest) (without rec rest) gone)
      ∙ without_other rec other rest apart
      ∙ sym (cond-false (nat_eq first.rec other) (Some first) (node_at rest other) not_it)
  | inr f ↦
      let kept : not (nat_eq first.rec rec) ≡ true = ap not f in
      ap (λ nodes. node_at nodes other) (cond-true (not (nat_eq first.rec rec)) (first ∷ without rec rest) (without rec rest) kept)
      ∙ ap (λ found. cond (nat_eq first.rec other) (Some first) found) (without_other rec other rest apart)
]
