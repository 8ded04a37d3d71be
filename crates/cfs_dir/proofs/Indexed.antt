-- The index after a node is placed or removed.
use Rattle.std.proofs.Common.{◌≡◌, ◌≢◌, ℕ, List, true, false, not, cond, inl, inr, refl, sym, ◌∙◌, ap}
use Rattle.std.specs.Prelude.{Option, Some, None, nat_eq}
use Rattle.std.specs.Option.{option_map}
use Rattle.std.specs.HashMap.{get}
use Rattle.std.proofs.lemmas.Bool.{cases_Bool, cond-true, cond-false, eq-eqb}
use Rattle.cfs_dir.specs.declared.child.Child.{Child}
use Rattle.cfs_dir.specs.declared.node.Node.{Node}
use Rattle.cfs_dir.specs.Namespace.{child_of, is_child, placed, without}
use Rattle.cfs_dir.specs.Tree.{IsTree}
pub use Rattle.cfs_dir.specs.Table.{IsUpdated, key_of}
use Rattle.cfs_dir.specs.Table.{Index, IsIndex, same_child}
use Rattle.cfs_dir.proofs.Members.{In, All-In, In-filter, find-Some, find-None, find-none_of, find-placed_other, find-placed_same, find-filter_kept, find-filter_gone}
use Rattle.cfs_dir.proofs.Grown.{is_child-parts}
use Rattle.cfs_dir.proofs.Shrunk.{kept-other}

pub IsIndex-placed : (nodes : List Node) (node : Node) (old new : Index) → child_of nodes node.parent node.name ≡ None
    → IsIndex nodes old → IsUpdated old new (key_of node) (Some node.rec) → IsIndex (placed node nodes) new
IsIndex-placed nodes node old new free index updated child = elim (cases_Bool (is_child child.parent child.name node)) [
  | inl t ↦
      let same = is_child-parts child.parent child.name node t in
      let none : child_of nodes child.parent child.name ≡ None =
      ap (λ i. child_of nodes i child.name) (sym same.0) ∙ ap (λ x. child_of nodes node.parent x) (sym same.1) ∙ free in
      updated child ∙ cond-true (same_child (key_of node) child) (Some node.rec) (get same_child old child) t
      ∙ ap (λ o. option_map (λ (n : Node). n.rec) o) (sym (find-placed_same (is_child child.parent child.name) node nodes t none))
  | inr f ↦
      updated child ∙ cond-false (same_child (key_of node) child) (Some node.rec) (get same_child old child) f ∙ index child
      ∙ ap (λ o. option_map (λ (n : Node). n.rec) o) (sym (find-placed_other (is_child child.parent child.name) node nodes f))
]

pub child_of-without : (nodes : List Node) (next : ℕ) (node : Node) (parent : ℕ) (name : List ℕ) → IsTree nodes next → In nodes node
    → is_child parent name node ≡ false → child_of (without node.rec nodes) parent name ≡ child_of nodes parent name
child_of-without nodes next node parent name tree stands f =
    elim (child_of nodes parent name) as (λ o. child_of nodes parent name ≡ o → child_of (without node.rec nodes) parent name ≡ o) [
      | None ↦ λ was. find-none_of (is_child parent name) (without node.rec nodes) (λ n m.
          find-None (is_child parent name) nodes n was (In-filter (λ n. not (nat_eq n.rec node.rec)) nodes n m).0)
      | Some other ↦ λ was.
          let r = find-Some (is_child parent name) nodes other was in
          let differs : other ≢ node = λ e. (let t = r.1 in let g = ap (is_child parent name) e in cc) in
          find-filter_kept (is_child parent name) (λ n. not (nat_eq n.rec node.rec)) nodes other was (kept-other nodes node other tree.ascending stands r.0 differs)
    ] refl

pub child_of-gone : (nodes : List Node) (next : ℕ) (node : Node) (parent : ℕ) (name : List ℕ) → IsTree nodes next → In nodes node
    → is_child parent name node ≡ true → child_of (without node.rec nodes) parent name ≡ None
child_of-gone nodes next node parent name tree stands t =
    let own = is_child-parts parent name node t in
    find-filter_gone (is_child parent name) (λ n. not (nat_eq n.rec node.rec)) nodes node (ap not (eq-eqb node.rec node.rec refl)) (λ other m h.
    let its = is_child-parts parent name other h in
    let once : (n : Node) → In nodes n → child_of nodes n.parent n.name ≡ Some n = λ n m. All-In (λ n. child_of nodes n.parent n.name ≡ Some n) nodes n tree.name_once m in
    let same : Some other ≡ Some node = sym (once other m) ∙ ap (λ i. child_of nodes i other.name) (its.0 ∙ sym own.0)
    ∙ ap (λ x. child_of nodes node.parent x) (its.1 ∙ sym own.1) ∙ once node stands in
    cc)

pub IsIndex-without : (nodes : List Node) (next : ℕ) (node : Node) (old new : Index) → IsTree nodes next → In nodes node
    → IsIndex nodes old → IsUpdated old new (key_of node) None → IsIndex (without node.rec nodes) new
IsIndex-without nodes next node old new tree stands index updated child = elim (cases_Bool (is_child child.parent child.name node)) [
  | inl t ↦
      updated child ∙ cond-true (same_child (key_of node) child) None (get same_child old child) t
      ∙ ap (λ o. option_map (λ (n : Node). n.rec) o) (sym (child_of-gone nodes next node child.parent child.name tree stands t))
  | inr f ↦
      updated child ∙ cond-false (same_child (key_of node) child) None (get same_child old child) f ∙ index child
      ∙ ap (λ o. option_map (λ (n : Node). n.rec) o) (sym (child_of-without nodes next node child.parent child.name tree stands f))
]
