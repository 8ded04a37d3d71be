-- A tree without a node in which none stands is a tree.
use Rattle.std.proofs.Common.{◌≡◌, ◌≢◌, ℕ, suc, ◌≤◌, ◌<◌, ◌^◌, List, [], ◌∷◌, Bool, true, false, not, inl, inr, sym, ◌∙◌, ap, arith}
use Rattle.std.specs.Prelude.{Some, IsSomeAnd, nat_eq}
use Rattle.std.proofs.lemmas.Bool.{cases_Bool, cond-true, cond-false, eq-eqb, ne_eqb, eqb-true, eqb-false, or_parts}
use Rattle.std.proofs.lemmas.List.Elements.{All-filter}
use Rattle.cfs_dir.specs.declared.kind.Kind.TheVariants.{Directory, File}
use Rattle.cfs_dir.specs.declared.node.Node.{Node}
use Rattle.cfs_dir.specs.Name.{IsNodeName}
use Rattle.cfs_dir.specs.Namespace.{node_at, node_of, child_of, is_child, has_child, without}
use Rattle.cfs_dir.specs.Tree.{AreAscendingFrom, IsTree, IsRoot, leads_to_root}
use Rattle.cfs_dir.proofs.Members.{In, All-In, All-from_In, In-filter, find-Some, find-filter_kept}
use Rattle.cfs_dir.proofs.Found.{node_at-In}
use Rattle.cfs_dir.proofs.Grown.{some_of, IsSomeAnd_from}
use Rattle.cfs_dir.proofs.Depth.{leads-without}

-- a node of the tree in which no node stands
pub record IsLeaf (nodes : List Node) (node : Node) : Type 0 where
  pub stands : In nodes node
  pub leaf : (n : Node) → In nodes n → n.parent ≢ node.ino

pub no_child : (nodes : List Node) (ino : ℕ) → has_child nodes ino ≡ false → (n : Node) → In nodes n → n.parent ≢ ino
no_child [] ino h n m e = absurd m
no_child (first ∷ rest) ino h n m e =
    let parts = or_parts (nat_eq first.parent ino) (has_child rest ino) h in
    elim m [
      | inl same ↦ eqb-false first.parent ino parts.0 (ap (λ (x : Node). x.parent) same ∙ e)
      | inr deeper ↦ no_child rest ino parts.1 n deeper e
    ]

-- no node stands in a file
pub file-leaf : (nodes : List Node) (next : ℕ) (node : Node) → IsTree nodes next → In nodes node → node.kind ≡ File → IsLeaf nodes node
file-leaf nodes next node tree stands file = record {
  stands = stands;
  leaf = λ n m e.
      let p = some_of (node_of nodes n.parent) (λ parent. parent.kind ≡ Directory)
      (All-In (λ n. IsSomeAnd (node_of nodes n.parent) (λ parent. parent.kind ≡ Directory)) nodes n tree.parents m) in
      let same : Some p.0 ≡ Some node = sym p.1 ∙ ap (λ i. node_of nodes i) e ∙ All-In (λ n. node_of nodes n.ino ≡ Some n) nodes node tree.number_once stands in
      let one : p.0 ≡ node = cc in
      (let clash : Directory ≡ File = sym p.2 ∙ ap (λ (n : Node). n.kind) one ∙ file in cc);
}

pub AreAscendingFrom-lower : (least lower : ℕ) (nodes : List Node) → AreAscendingFrom least nodes → lower ≤ least → AreAscendingFrom lower nodes
AreAscendingFrom-lower least lower [] h le = tt
AreAscendingFrom-lower least lower (first ∷ rest) h le = (let low = h.0 in omega arith, h.1)

pub AreAscendingFrom-without : (least : ℕ) (nodes : List Node) (rec : ℕ) → AreAscendingFrom least nodes → AreAscendingFrom least (without rec nodes)
AreAscendingFrom-without least [] rec h = tt
AreAscendingFrom-without least (first ∷ rest) rec h = elim (cases_Bool (not (nat_eq first.rec rec))) [
  | inl t ↦ rw (cond-true (not (nat_eq first.rec rec)) (first ∷ without rec rest) (without rec rest) t)
      (h.0, AreAscendingFrom-without (suc first.rec) rest rec h.1)
  | inr f ↦ rw (cond-false (not (nat_eq first.rec rec)) (first ∷ without rec rest) (without rec rest) f)
      (AreAscendingFrom-without least rest rec (AreAscendingFrom-lower (suc first.rec) least rest h.1 (let low = h.0 in omega arith)))
]

-- another node is kept
pub kept-other : (nodes : List Node) (node other : Node) → AreAscendingFrom 0 nodes → In nodes node → In nodes other → other ≢ node
    → not (nat_eq other.rec node.rec) ≡ true
kept-other nodes node other order stands also ne = ap not (ne_eqb other.rec node.rec (λ e.
    let same : Some other ≡ Some node = sym (node_at-In 0 nodes other order also) ∙ ap (λ i. node_at nodes i) e ∙ node_at-In 0 nodes node order stands in
    ne (cc)))

pub IsTree-without : (nodes : List Node) (next : ℕ) (node : Node) → IsTree nodes next → IsLeaf nodes node → IsTree (without node.rec nodes) next
IsTree-without nodes next node tree is =
    let order = tree.ascending in
    let keep : Node → Bool = λ n. not (nat_eq n.rec node.rec) in
    let old : (n : Node) → In (without node.rec nodes) n → In nodes n × (not (nat_eq n.rec node.rec) ≡ true) = λ n m. In-filter (λ n. not (nat_eq n.rec node.rec)) nodes n m in
    record {
      next_low = tree.next_low;
      next_high = tree.next_high;
      ascending = AreAscendingFrom-without 0 nodes node.rec order;
      records = All-filter (λ n. not (nat_eq n.rec node.rec)) (λ n. n.rec < 256) nodes tree.records;
      root =
          let r = some_of (node_at nodes 0) IsRoot tree.root in
          let stands = (find-Some (λ n. nat_eq n.rec 0) nodes r.0 r.1).0 in
          let other : r.0 ≢ node = λ e. is.leaf r.0 stands (r.2.parent ∙ sym r.2.ino ∙ ap (λ (n : Node). n.ino) e) in
          IsSomeAnd_from (node_at (without node.rec nodes) 0) r.0 IsRoot
          (find-filter_kept (λ n. nat_eq n.rec 0) (λ n. not (nat_eq n.rec node.rec)) nodes r.0 r.1 (kept-other nodes node r.0 order is.stands stands other)) r.2;
      numbers = All-filter (λ n. not (nat_eq n.rec node.rec)) (λ n. (1 ≤ n.ino) × (n.ino < next)) nodes tree.numbers;
      number_once = All-from_In (λ n. node_of (without node.rec nodes) n.ino ≡ Some n) (without node.rec nodes) (λ n m.
          let o = old n m in
          find-filter_kept (λ x. nat_eq x.ino n.ino) (λ x. not (nat_eq x.rec node.rec)) nodes n (All-In (λ n. node_of nodes n.ino ≡ Some n) nodes n tree.number_once o.0) o.1);
      modes = All-filter (λ n. not (nat_eq n.rec node.rec)) (λ n. n.mode ≤ 511) nodes tree.modes;
      owners = All-filter (λ n. not (nat_eq n.rec node.rec)) (λ n. (n.uid < 2 ^ 32) × (n.gid < 2 ^ 32)) nodes tree.owners;
      names = All-filter (λ n. not (nat_eq n.rec node.rec)) (λ n. n.ino ≢ 1 → IsNodeName n.name) nodes tree.names;
      name_once = All-from_In (λ n. child_of (without node.rec nodes) n.parent n.name ≡ Some n) (without node.rec nodes) (λ n m.
          let o = old n m in
          find-filter_kept (is_child n.parent n.name) (λ x. not (nat_eq x.rec node.rec)) nodes n (All-In (λ n. child_of nodes n.parent n.name ≡ Some n) nodes n tree.name_once o.0) o.1);
      parents = All-from_In (λ n. IsSomeAnd (node_of (without node.rec nodes) n.parent) (λ parent. parent.kind ≡ Directory)) (without node.rec nodes) (λ n m.
          let o = old n m in
          let p = some_of (node_of nodes n.parent) (λ parent. parent.kind ≡ Directory)
          (All-In (λ n. IsSomeAnd (node_of nodes n.parent) (λ parent. parent.kind ≡ Directory)) nodes n tree.parents o.0) in
          let found = find-Some (λ x. nat_eq x.ino n.parent) nodes p.0 p.1 in
          let other : p.0 ≢ node = λ e. is.leaf n o.0 (sym (eqb-true p.0.ino n.parent found.1) ∙ ap (λ (x : Node). x.ino) e) in
          IsSomeAnd_from (node_of (without node.rec nodes) n.parent) p.0 (λ parent. parent.kind ≡ Directory)
          (find-filter_kept (λ x. nat_eq x.ino n.parent) (λ x. not (nat_eq x.rec node.rec)) nodes p.0 p.1 (kept-other nodes node p.0 order is.stands found.0 other)) p.2);
      depths = All-from_In (λ n. leads_to_root 16 (without node.rec nodes) n.ino ≡ true) (without node.rec nodes) (λ n m.
          let o = old n m in
          let other : n.ino ≢ node.ino = λ e.
          (let same : Some n ≡ Some node = sym (All-In (λ n. node_of nodes n.ino ≡ Some n) nodes n tree.number_once o.0) ∙ ap (λ i. node_of nodes i) e
          ∙ All-In (λ n. node_of nodes n.ino ≡ Some n) nodes node tree.number_once is.stands in
          let one : n ≡ node = cc in
          let hit : nat_eq n.rec node.rec ≡ true = eq-eqb n.rec node.rec (ap (λ (x : Node). x.rec) one) in
          let gone = ap not hit in
          let kept = o.1 in cc) in
          leads-without 16 nodes node n.ino (node_at-In 0 nodes node order is.stands) (λ x s. node_at-In 0 nodes x order s) is.leaf other
          (All-In (λ n. leads_to_root 16 nodes n.ino ≡ true) nodes n tree.depths o.0));
    }
