-- A tree with one more node is a tree.
use Rattle.std.proofs.Common.{◌≡◌, ◌≢◌, ℕ, suc, ◌+◌, ◌≤◌, ◌<◌, ◌^◌, List, [], ◌∷◌, true, false, inl, inr, refl, sym, ◌∙◌, ap, subst, arith}
use Rattle.std.specs.Prelude.{Option, Some, None, IsSomeAnd, All, nat_eq, nat_lt}
use Rattle.std.specs.Str.{bytes_eq}
use Rattle.std.proofs.lemmas.Bool.{cases_Bool, cond-true, cond-false, eq-eqb, ne_eqb, eqb-true, ltb-true, ltb-false, and_parts, and_from}
use Rattle.std.proofs.lemmas.Slice.Eq.{bytes_eq-Decides}
use Rattle.cfs_dir.specs.declared.kind.Kind.TheVariants.{Directory}
use Rattle.cfs_dir.specs.declared.node.Node.{Node}
use Rattle.cfs_dir.specs.Name.{IsNodeName}
use Rattle.cfs_dir.specs.Namespace.{node_at, node_of, child_of, is_child, placed}
use Rattle.cfs_dir.specs.Tree.{AreAscendingFrom, IsTree, IsRoot, leads_to_root}
use Rattle.cfs_dir.proofs.Members.{In, All-In, All-from_In, In-placed, find-none_of, find-placed_other, find-placed_same}
use Rattle.cfs_dir.proofs.Depth.{leads-step, leads-placed}
use Rattle.cfs_dir.proofs.Walked.{IsPlace}

-- what a node has to be to join a tree
pub record IsNew (nodes : List Node) (next : ℕ) (directory node : Node) : Type 0 where
  pub place : IsPlace nodes 15 directory node.name None
  pub ino : node.ino ≡ next
  pub room : next < 2 ^ 32
  pub parent : node.parent ≡ directory.ino
  pub mode : node.mode ≤ 511
  pub uid : node.uid < 2 ^ 32
  pub gid : node.gid < 2 ^ 32
  pub rec : node.rec < 256
  pub free : node_at nodes node.rec ≡ None

pub some_of : {X : Type 0} (o : Option X) (P : X → Type 0) → IsSomeAnd o P → (x : X) × (o ≡ Some x) × P x
some_of None P h = absurd h
some_of (Some x) P h = (x, refl, h)

pub IsSomeAnd_from : {X : Type 0} (o : Option X) (x : X) (P : X → Type 0) → o ≡ Some x → P x → IsSomeAnd o P
IsSomeAnd_from o x P e h = subst (λ o. IsSomeAnd o P) (sym e) h

pub All-placed : (P : Node → Type 0) (node : Node) (nodes : List Node) → P node → ((n : Node) → In nodes n → P n) → All P (placed node nodes)
All-placed P node nodes own others = All-from_In P (placed node nodes) (λ n m. elim (In-placed node nodes n m) [
  | inl same ↦ subst P same own
  | inr old ↦ others n old
])

pub AreAscendingFrom-placed : (least : ℕ) (nodes : List Node) (node : Node) → AreAscendingFrom least nodes → least ≤ node.rec
    → node_at nodes node.rec ≡ None → AreAscendingFrom least (placed node nodes)
AreAscendingFrom-placed least [] node h low free = (low, tt)
AreAscendingFrom-placed least (first ∷ rest) node h low free = elim (cases_Bool (nat_lt first.rec node.rec)) [
  | inl t ↦
      let above : suc first.rec ≤ node.rec = ltb-true first.rec node.rec t in
      let other : nat_eq first.rec node.rec ≡ false = ne_eqb first.rec node.rec (λ e. let e' : first.rec ≡ node.rec = e in omega arith) in
      rw (cond-true (nat_lt first.rec node.rec) (first ∷ placed node rest) (node ∷ first ∷ rest) t) (
        h.0,
        AreAscendingFrom-placed (suc first.rec) rest node h.1 above
            (sym (cond-false (nat_eq first.rec node.rec) (Some first) (node_at rest node.rec) other) ∙ free),
      )
  | inr f ↦
      let below : node.rec ≤ first.rec = ltb-false first.rec node.rec f in
      let other : first.rec ≢ node.rec = λ e. (let hit = cond-true (nat_eq first.rec node.rec) (Some first) (node_at rest node.rec) (eq-eqb first.rec node.rec e) in cc) in
      let strict : suc node.rec ≤ first.rec = omega arith in
      rw (cond-false (nat_lt first.rec node.rec) (first ∷ placed node rest) (node ∷ first ∷ rest) f) (low, (strict, h.1))
]

-- no node has the next inode number
pub next-free : (nodes : List Node) (next : ℕ) → IsTree nodes next → node_of nodes next ≡ None
next-free nodes next tree = find-none_of (λ n. nat_eq n.ino next) nodes (λ n m. ne_eqb n.ino next (λ e.
    let e' : n.ino ≡ next = e in
    let below = All-In (λ n. (1 ≤ n.ino) × (n.ino < next)) nodes n tree.numbers m in
    omega arith))

pub is_child-own : (node : Node) → is_child node.parent node.name node ≡ true
is_child-own node = and_from (nat_eq node.parent node.parent) (bytes_eq node.name node.name)
    (eq-eqb node.parent node.parent refl) ((bytes_eq-Decides node.name node.name).1 refl)

pub is_child-parts : (parent : ℕ) (name : List ℕ) (node : Node) → is_child parent name node ≡ true → (node.parent ≡ parent) × (node.name ≡ name)
is_child-parts parent name node e =
    let both = and_parts (nat_eq node.parent parent) (bytes_eq node.name name) e in
    (eqb-true node.parent parent both.0, (bytes_eq-Decides node.name name).0 both.1)

-- an inode number that a node has is found as before
pub node_of-placed : (nodes : List Node) (next ino : ℕ) (node found : Node) → IsTree nodes next → node.ino ≡ next → node_of nodes ino ≡ Some found
    → node_of (placed node nodes) ino ≡ Some found
node_of-placed nodes next ino node found tree is e = find-placed_other (λ n. nat_eq n.ino ino) node nodes
    (ne_eqb node.ino ino (λ same. let clash = sym e ∙ ap (λ i. node_of nodes i) (sym same ∙ is) ∙ next-free nodes next tree in cc)) ∙ e

pub child_of-new : (nodes : List Node) (next : ℕ) (directory node : Node) → IsNew nodes next directory node → child_of nodes node.parent node.name ≡ None
child_of-new nodes next directory node new = ap (λ i. child_of nodes i node.name) new.parent ∙ sym new.place.found_is

pub IsTree-placed : (nodes : List Node) (next : ℕ) (directory node : Node) → IsTree nodes next → IsNew nodes next directory node
    → IsTree (placed node nodes) (next + 1)
IsTree-placed nodes next directory node tree new =
    let free = next-free nodes next tree in
    let unused : node_of nodes node.ino ≡ None = ap (λ i. node_of nodes i) new.ino ∙ free in
    let low = tree.next_low in
    let room = new.room in
    let is = new.ino in
    let good = new.place.directory_is in
    let directory_found : node_of nodes node.parent ≡ Some directory =
    ap (λ i. node_of nodes i) new.parent ∙ All-In (λ n. node_of nodes n.ino ≡ Some n) nodes directory tree.number_once good.stands in
    record {
      next_low = omega arith;
      next_high = omega arith;
      ascending = AreAscendingFrom-placed 0 nodes node tree.ascending (omega arith) new.free;
      records = All-placed (λ n. n.rec < 256) node nodes new.rec (λ n m. All-In (λ n. n.rec < 256) nodes n tree.records m);
      root =
          let r = some_of (node_at nodes 0) IsRoot tree.root in
          let other : nat_eq node.rec 0 ≡ false = ne_eqb node.rec 0 (λ e.
          let clash = sym r.1 ∙ ap (λ i. node_at nodes i) (sym e) ∙ new.free in cc) in
          IsSomeAnd_from (node_at (placed node nodes) 0) r.0 IsRoot (find-placed_other (λ n. nat_eq n.rec 0) node nodes other ∙ r.1) r.2;
      numbers = All-placed (λ n. (1 ≤ n.ino) × (n.ino < next + 1)) node nodes (omega arith, omega arith)
          (λ n m. let old = All-In (λ n. (1 ≤ n.ino) × (n.ino < next)) nodes n tree.numbers m in (old.0, omega arith));
      number_once = All-placed (λ n. node_of (placed node nodes) n.ino ≡ Some n) node nodes
          (find-placed_same (λ n. nat_eq n.ino node.ino) node nodes (eq-eqb node.ino node.ino refl) unused)
          (λ n m. node_of-placed nodes next n.ino node n tree new.ino (All-In (λ n. node_of nodes n.ino ≡ Some n) nodes n tree.number_once m));
      modes = All-placed (λ n. n.mode ≤ 511) node nodes new.mode (λ n m. All-In (λ n. n.mode ≤ 511) nodes n tree.modes m);
      owners = All-placed (λ n. (n.uid < 2 ^ 32) × (n.gid < 2 ^ 32)) node nodes (new.uid, new.gid)
          (λ n m. All-In (λ n. (n.uid < 2 ^ 32) × (n.gid < 2 ^ 32)) nodes n tree.owners m);
      names = All-placed (λ n. n.ino ≢ 1 → IsNodeName n.name) node nodes (λ _. new.place.named)
          (λ n m. All-In (λ n. n.ino ≢ 1 → IsNodeName n.name) nodes n tree.names m);
      name_once = All-placed (λ n. child_of (placed node nodes) n.parent n.name ≡ Some n) node nodes
          (find-placed_same (is_child node.parent node.name) node nodes (is_child-own node) (child_of-new nodes next directory node new))
          (λ n m.
          let found = All-In (λ n. child_of nodes n.parent n.name ≡ Some n) nodes n tree.name_once m in
          elim (cases_Bool (is_child n.parent n.name node)) [
            | inl t ↦
                let same = is_child-parts n.parent n.name node t in
                absurd (let clash = sym found ∙ ap (λ i. child_of nodes i n.name) (sym same.0) ∙ ap (λ x. child_of nodes node.parent x) (sym same.1)
                ∙ child_of-new nodes next directory node new in cc)
            | inr f ↦ find-placed_other (is_child n.parent n.name) node nodes f ∙ found
          ]);
      parents = All-placed (λ n. IsSomeAnd (node_of (placed node nodes) n.parent) (λ parent. parent.kind ≡ Directory)) node nodes
          (IsSomeAnd_from (node_of (placed node nodes) node.parent) directory (λ parent. parent.kind ≡ Directory)
          (node_of-placed nodes next node.parent node directory tree new.ino directory_found) good.kind)
          (λ n m.
          let p = some_of (node_of nodes n.parent) (λ parent. parent.kind ≡ Directory)
          (All-In (λ n. IsSomeAnd (node_of nodes n.parent) (λ parent. parent.kind ≡ Directory)) nodes n tree.parents m) in
          IsSomeAnd_from (node_of (placed node nodes) n.parent) p.0 (λ parent. parent.kind ≡ Directory)
          (node_of-placed nodes next n.parent node p.0 tree new.ino p.1) p.2);
      depths = All-placed (λ n. leads_to_root 16 (placed node nodes) n.ino ≡ true) node nodes
          (leads-step 15 (placed node nodes) node
          (find-placed_same (λ n. nat_eq n.ino node.ino) node nodes (eq-eqb node.ino node.ino refl) unused)
          (leads-placed 15 nodes node node.parent unused (subst (λ i. leads_to_root 15 nodes i ≡ true) (sym new.parent) good.depth)))
          (λ n m. leads-placed 16 nodes node n.ino unused (All-In (λ n. leads_to_root 16 nodes n.ino ≡ true) nodes n tree.depths m));
    }
