-- A tree in which a node has another place is a tree.
use Rattle.std.proofs.Common.{◌≡◌, ◌≢◌, ℕ, suc, ◌+◌, ◌-◌, ◌≤◌, ◌<◌, ◌^◌, List, [], length, Bool, true, false, not, inl, inr, refl, sym, ◌∙◌, ap, subst, arith}
use Rattle.std.specs.Prelude.{Option, Some, None, IsSomeAnd, All, nat_eq}
use Rattle.std.proofs.lemmas.Bool.{cases_Bool, eq-eqb, ne_eqb, eqb-true, eqb-false}
use Rattle.cfs_dir.specs.declared.kind.Kind.TheVariants.{Directory}
use Rattle.cfs_dir.specs.declared.node.Node.{Node}
use Rattle.cfs_dir.specs.Name.{IsNodeName}
use Rattle.cfs_dir.specs.Namespace.{node_at, node_of, child_of, is_child, placed, without}
use Rattle.cfs_dir.specs.Rename.{names_below}
use Rattle.cfs_dir.specs.Tree.{AreAscendingFrom, IsTree, IsRoot, leads_to_root}
use Rattle.cfs_dir.proofs.Below.{below-own, leads-apart, leads-below}
use Rattle.cfs_dir.proofs.Depth.{leads-step, leads-le}
use Rattle.cfs_dir.proofs.Found.{node_at-In}
use Rattle.cfs_dir.proofs.Grown.{AreAscendingFrom-placed, All-placed, IsSomeAnd_from, is_child-own, is_child-parts, some_of}
use Rattle.cfs_dir.proofs.Members.{In, All-In, In-filter, find-Some, find-none_of, find-filter_gone, find-filter_kept, find-placed_other, find-placed_same}
use Rattle.cfs_dir.proofs.Shrunk.{AreAscendingFrom-without, kept-other}
use Rattle.cfs_dir.proofs.Walked.{IsDirectoryIn}

-- a node with another directory and name
abbrev pub moved_node : Node → ℕ → List ℕ → Node
moved_node node parent name = record node { parent = parent; name = name }

-- what a place has to be to which a node moves, at a path of so many names
pub record IsGoal (nodes : List Node) (node directory : Node) (name : List ℕ) (names : ℕ) : Type 0 where
  pub stands : In nodes node
  pub named : node.name ≢ []
  pub directory_is : IsDirectoryIn nodes (names - 1) directory
  pub name_is : IsNodeName name
  pub some : 1 ≤ names
  pub few : names ≤ 16
  pub apart : names_below 16 (node_of nodes) node.ino directory.ino ≡ None
  pub short : (n : Node) (below : ℕ) → In nodes n → names_below 16 (node_of nodes) node.ino n.ino ≡ Some below → below + names ≤ 16
  pub free : child_of (without node.rec nodes) directory.ino name ≡ None

-- the root alone has no name
pub root-stays : (nodes : List Node) (next : ℕ) (node : Node) → IsTree nodes next → In nodes node → node.name ≢ [] → node.rec ≢ 0
root-stays nodes next node tree stands named e =
    let r = some_of (node_at nodes 0) IsRoot tree.root in
    let both : Some r.0 ≡ Some node = sym r.1 ∙ ap (λ i. node_at nodes i) (sym e) ∙ node_at-In 0 nodes node tree.ascending stands in
    let one : r.0 ≡ node = cc in
    named (ap (λ (n : Node). n.name) (sym one) ∙ r.2.name)

module _ (nodes : List Node) (next : ℕ) (node directory : Node) (name : List ℕ) (names : ℕ) (tree : IsTree nodes next)
    (h : IsGoal nodes node directory name names) where
  abbrev after : List Node
  after = placed (moved_node node directory.ino name) (without node.rec nodes)

  once : (n : Node) → In nodes n → node_of nodes n.ino ≡ Some n
  once n m = All-In (λ n. node_of nodes n.ino ≡ Some n) nodes n tree.number_once m

  same_number : (n : Node) → In nodes n → n.ino ≡ node.ino → n ≡ node
  same_number n m e = let both : Some n ≡ Some node = sym (once n m) ∙ ap (λ i. node_of nodes i) e ∙ once node h.stands in cc

  moved-root : node.rec ≢ 0
  moved-root = root-stays nodes next node tree h.stands h.named

  old : (n : Node) → In (without node.rec nodes) n → In nodes n × (not (nat_eq n.rec node.rec) ≡ true)
  old n m = In-filter (λ n. not (nat_eq n.rec node.rec)) nodes n m

  -- another node has another number
  other_number : (n : Node) → In (without node.rec nodes) n → n.ino ≢ node.ino
  other_number n m e =
      let o = old n m in
      let one = same_number n o.0 e in
      let hit = ap not (eq-eqb n.rec node.rec (ap (λ (x : Node). x.rec) one)) in
      let kept = o.1 in cc

  gone_number : node_of (without node.rec nodes) node.ino ≡ None
  gone_number = find-none_of (λ n. nat_eq n.ino node.ino) (without node.rec nodes) (λ n m. ne_eqb n.ino node.ino (other_number n m))

  gone_record : node_at (without node.rec nodes) node.rec ≡ None
  gone_record = find-none_of (λ n. nat_eq n.rec node.rec) (without node.rec nodes) (λ n m.
      ne_eqb n.rec node.rec (λ e. let hit = ap not (eq-eqb n.rec node.rec e) in let kept = (old n m).1 in cc))

  moved_found : node_of after node.ino ≡ Some (moved_node node directory.ino name)
  moved_found = find-placed_same (λ n. nat_eq n.ino node.ino) (moved_node node directory.ino name) (without node.rec nodes) (eq-eqb node.ino node.ino refl) gone_number

  -- every other number finds what it found
  kept_found : (ino : ℕ) (n : Node) → ino ≢ node.ino → node_of nodes ino ≡ Some n
      → node_of after ino ≡ Some n
  kept_found ino n ne found =
      let r = find-Some (λ n. nat_eq n.ino ino) nodes n found in
      let same : n.ino ≡ ino = eqb-true n.ino ino r.1 in
      find-placed_other (λ n. nat_eq n.ino ino) (moved_node node directory.ino name) (without node.rec nodes) (ne_eqb node.ino ino (λ e. ne (sym e)))
      ∙ find-filter_kept (λ n. nat_eq n.ino ino) (λ n. not (nat_eq n.rec node.rec)) nodes n found
      (kept-other nodes node n tree.ascending h.stands r.0 (λ e. ne (sym same ∙ ap (λ (x : Node). x.ino) e)))

  elsewhere : directory.ino ≢ node.ino
  elsewhere e = let own = below-own 16 (node_of nodes) node.ino directory.ino e in let apart = h.apart in (let clash = sym own ∙ apart in cc)

  directory_found : node_of after directory.ino ≡ Some directory
  directory_found = kept_found directory.ino directory elsewhere (once directory h.directory_is.stands)

  -- the node leads to the root by its new directory
  moved_leads : leads_to_root names after node.ino ≡ true
  moved_leads =
      let some = h.some in
      let few = h.few in
      let steps : suc (names - 1) ≡ names = omega arith in
      subst (λ k. leads_to_root k after node.ino ≡ true) steps
      (leads-step (names - 1) after (moved_node node directory.ino name) moved_found
      (leads-apart nodes after node.ino kept_found 16 (names - 1) directory.ino (omega arith) h.apart h.directory_is.depth))

  all_lead : (n : Node) → In nodes n → leads_to_root 16 after n.ino ≡ true
  all_lead n m = elim (names_below 16 (node_of nodes) node.ino n.ino) as (λ o. names_below 16 (node_of nodes) node.ino n.ino ≡ o
      → leads_to_root 16 after n.ino ≡ true) [
        | None ↦ λ is. leads-apart nodes after node.ino kept_found 16 16 n.ino (omega arith) is
            (All-In (λ n. leads_to_root 16 nodes n.ino ≡ true) nodes n tree.depths m)
        | Some below ↦ λ is.
            let short = h.short n below m is in
            let deep = leads-below nodes after node.ino kept_found 16 below names n.ino is moved_leads in
            let sum : (names + below) + (16 - (names + below)) ≡ 16 = omega arith in
            subst (λ k. leads_to_root k after n.ino ≡ true) sum
            (leads-le (names + below) (16 - (names + below)) after n.ino deep)
      ] refl

  placed_all : (P : Node → Type 0) → P (moved_node node directory.ino name) → ((n : Node) → In (without node.rec nodes) n → P n)
      → All P after
  placed_all P own others = All-placed P (moved_node node directory.ino name) (without node.rec nodes) own others

  pub IsTree-moved : IsTree after next
  IsTree-moved = record {
    next_low = tree.next_low;
    next_high = tree.next_high;
    ascending = AreAscendingFrom-placed 0 (without node.rec nodes) (moved_node node directory.ino name)
        (AreAscendingFrom-without 0 nodes node.rec tree.ascending) (omega arith) gone_record;
    records = placed_all (λ n. n.rec < 256) (All-In (λ n. n.rec < 256) nodes node tree.records h.stands)
        (λ n m. All-In (λ n. n.rec < 256) nodes n tree.records (old n m).0);
    root =
        let r = some_of (node_at nodes 0) IsRoot tree.root in
        let stands = (find-Some (λ n. nat_eq n.rec 0) nodes r.0 r.1).0 in
        let first : r.0.rec ≡ 0 = eqb-true r.0.rec 0 (find-Some (λ n. nat_eq n.rec 0) nodes r.0 r.1).1 in
        IsSomeAnd_from (node_at after 0) r.0 IsRoot
        (find-placed_other (λ n. nat_eq n.rec 0) (moved_node node directory.ino name) (without node.rec nodes) (ne_eqb node.rec 0 moved-root)
        ∙ find-filter_kept (λ n. nat_eq n.rec 0) (λ n. not (nat_eq n.rec node.rec)) nodes r.0 r.1
        (kept-other nodes node r.0 tree.ascending h.stands stands (λ e. moved-root (ap (λ (n : Node). n.rec) (sym e) ∙ first)))) r.2;
    numbers = placed_all (λ n. (1 ≤ n.ino) × (n.ino < next)) (All-In (λ n. (1 ≤ n.ino) × (n.ino < next)) nodes node tree.numbers h.stands)
        (λ n m. All-In (λ n. (1 ≤ n.ino) × (n.ino < next)) nodes n tree.numbers (old n m).0);
    number_once = placed_all (λ n. node_of after n.ino ≡ Some n) moved_found
        (λ n m. kept_found n.ino n (other_number n m) (once n (old n m).0));
    modes = placed_all (λ n. n.mode ≤ 511) (All-In (λ n. n.mode ≤ 511) nodes node tree.modes h.stands)
        (λ n m. All-In (λ n. n.mode ≤ 511) nodes n tree.modes (old n m).0);
    owners = placed_all (λ n. (n.uid < 2 ^ 32) × (n.gid < 2 ^ 32)) (All-In (λ n. (n.uid < 2 ^ 32) × (n.gid < 2 ^ 32)) nodes node tree.owners h.stands)
        (λ n m. All-In (λ n. (n.uid < 2 ^ 32) × (n.gid < 2 ^ 32)) nodes n tree.owners (old n m).0);
    names = placed_all (λ n. n.ino ≢ 1 → IsNodeName n.name) (λ _. h.name_is)
        (λ n m. All-In (λ n. n.ino ≢ 1 → IsNodeName n.name) nodes n tree.names (old n m).0);
    name_once = placed_all (λ n. child_of after n.parent n.name ≡ Some n)
        (find-placed_same (is_child directory.ino name) (moved_node node directory.ino name) (without node.rec nodes) (is_child-own (moved_node node directory.ino name)) h.free)
        (λ n m.
        let o = old n m in
        let found = find-filter_kept (is_child n.parent n.name) (λ x. not (nat_eq x.rec node.rec)) nodes n
        (All-In (λ n. child_of nodes n.parent n.name ≡ Some n) nodes n tree.name_once o.0) o.1 in
        elim (cases_Bool (is_child n.parent n.name (moved_node node directory.ino name))) [
          | inl t ↦
              let same = is_child-parts n.parent n.name (moved_node node directory.ino name) t in
              absurd (let clash = sym found ∙ ap (λ i. child_of (without node.rec nodes) i n.name) (sym same.0)
              ∙ ap (λ x. child_of (without node.rec nodes) directory.ino x) (sym same.1) ∙ h.free in cc)
          | inr f ↦ find-placed_other (is_child n.parent n.name) (moved_node node directory.ino name) (without node.rec nodes) f ∙ found
        ]);
    parents = placed_all (λ n. IsSomeAnd (node_of after n.parent) (λ parent. parent.kind ≡ Directory))
        (IsSomeAnd_from (node_of after directory.ino) directory (λ parent. parent.kind ≡ Directory) directory_found h.directory_is.kind)
        (λ n m.
        let p = some_of (node_of nodes n.parent) (λ parent. parent.kind ≡ Directory)
        (All-In (λ n. IsSomeAnd (node_of nodes n.parent) (λ parent. parent.kind ≡ Directory)) nodes n tree.parents (old n m).0) in
        elim (cases_Bool (nat_eq n.parent node.ino)) [
          | inl t ↦
              let same : n.parent ≡ node.ino = eqb-true n.parent node.ino t in
              let both : Some p.0 ≡ Some node = sym p.1 ∙ ap (λ i. node_of nodes i) same ∙ once node h.stands in
              let one : p.0 ≡ node = cc in
              IsSomeAnd_from (node_of after n.parent) (moved_node node directory.ino name) (λ parent. parent.kind ≡ Directory)
              (ap (λ i. node_of after i) same ∙ moved_found)
              (ap (λ (x : Node). x.kind) (sym one) ∙ p.2)
          | inr f ↦ IsSomeAnd_from (node_of after n.parent) p.0 (λ parent. parent.kind ≡ Directory)
              (kept_found n.parent p.0 (eqb-false n.parent node.ino f) p.1) p.2
        ]);
    depths = placed_all (λ n. leads_to_root 16 after n.ino ≡ true)
        (all_lead node h.stands) (λ n m. all_lead n (old n m).0);
  }
