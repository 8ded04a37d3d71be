-- What the look-ups by record, by inode number and by name find in a tree.
use Rattle.std.proofs.Common.{◌≡◌, ℕ, suc, ◌≤◌, List, [], ◌∷◌, inl, inr, refl, ◌∙◌, ap, subst, arith}
use Rattle.std.specs.Prelude.{Some, None, nat_eq}
use Rattle.std.specs.Option.{option_map}
use Rattle.std.proofs.lemmas.Bool.{cond-true, cond-false, eq-eqb, ne_eqb}
use Rattle.cfs_dir.specs.declared.node.Node.{Node}
use Rattle.cfs_dir.specs.Namespace.{node_at, child_of, is_child}
use Rattle.cfs_dir.specs.Tree.{AreAscendingFrom}
use Rattle.cfs_dir.proofs.Members.{In, find-Some}

pub rec-least : (least : ℕ) (nodes : List Node) (node : Node) → AreAscendingFrom least nodes → In nodes node → least ≤ node.rec
rec-least least [] node h m = absurd m
rec-least least (first ∷ rest) node h m = elim m [
  | inl same ↦ let r : first.rec ≡ node.rec = ap (λ (n : Node). n.rec) same in let low = h.0 in omega arith
  | inr deeper ↦ let r = rec-least (suc first.rec) rest node h.1 deeper in let low = h.0 in omega arith
]

-- each node is the one that its record finds
pub node_at-In : (least : ℕ) (nodes : List Node) (node : Node) → AreAscendingFrom least nodes → In nodes node
    → node_at nodes node.rec ≡ Some node
node_at-In least [] node h m = absurd m
node_at-In least (first ∷ rest) node h m = elim m [
  | inl same ↦ cond-true (nat_eq first.rec node.rec) (Some first) (node_at rest node.rec) (eq-eqb first.rec node.rec (ap (λ (n : Node). n.rec) same)) ∙ ap (λ n. Some n) same
  | inr deeper ↦
      let low : suc first.rec ≤ node.rec = rec-least (suc first.rec) rest node h.1 deeper in
      cond-false (nat_eq first.rec node.rec) (Some first) (node_at rest node.rec)
      (ne_eqb first.rec node.rec (λ e. let e' : first.rec ≡ node.rec = e in omega arith))
      ∙ node_at-In (suc first.rec) rest node h.1 deeper
]

-- a record that the index gives is that of the child
pub node_at-child : (nodes : List Node) (least parent : ℕ) (name : List ℕ) (rec : ℕ) → AreAscendingFrom least nodes
    → option_map (λ (node : Node). node.rec) (child_of nodes parent name) ≡ Some rec → node_at nodes rec ≡ child_of nodes parent name
node_at-child nodes least parent name rec h e =
    elim (child_of nodes parent name) as (λ o. child_of nodes parent name ≡ o → option_map (λ (node : Node). node.rec) o ≡ Some rec → node_at nodes rec ≡ o) [
      | None ↦ λ was e. absurd (cc)
      | Some node ↦ λ was e.
          let same : node.rec ≡ rec = cc in
          subst (λ r. node_at nodes r ≡ Some node) same (node_at-In least nodes node h (find-Some (is_child parent name) nodes node was).0)
    ] refl e

pub child_of-None : (nodes : List Node) (parent : ℕ) (name : List ℕ)
    → option_map (λ (node : Node). node.rec) (child_of nodes parent name) ≡ None → child_of nodes parent name ≡ None
child_of-None nodes parent name e =
    elim (child_of nodes parent name) as (λ o. option_map (λ (node : Node). node.rec) o ≡ None → o ≡ None) [
      | None ↦ λ e. refl
      | Some node ↦ λ e. absurd (cc)
    ] e
