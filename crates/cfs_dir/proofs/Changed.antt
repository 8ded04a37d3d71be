-- The table after a node has joined or left.
use Rattle.std.proofs.Common.{◌≡◌, ℕ, suc, ◌+◌, ◌≤◌, ◌<◌, ◌^◌, List, [], ◌∷◌, length, cond, false, not, inl, inr, refl, sym, ◌∙◌, ap, subst, arith}
use Rattle.std.proofs.Math.ListN.{set, length-set}
use Rattle.std.specs.Prelude.{All, Option, Some, None, Ok, is_some, nat_eq, nat_lt, slice_get}
use Rattle.std.specs.HashMap.{get, hash_map_len}
use Rattle.std.specs.Option.{option_and_then, option_map}
use Rattle.std.specs.Map.{lookup}
use Rattle.std.proofs.lemmas.Bool.{cases_Bool, cond-true, cond-false, eq-eqb, eqb-true, ne_eqb}
use Rattle.cfs_cred.specs.declared.credential.Credential.{Credential}
use Rattle.cfs_dir.specs.declared.node.Node.{Node}
use Rattle.cfs_dir.specs.declared.place.Place.TheVariants.{Entry}
use Rattle.cfs_dir.specs.Path.{ArePathNames}
use Rattle.cfs_dir.specs.Namespace.{Namespace, node_at, node_of, child_of, has_child, is_directory, placed, without, with_node, without_last}
use Rattle.cfs_dir.specs.Step.{place_of}
use Rattle.cfs_dir.specs.Table.{AreAtRecords, Index, IsIndex, IsIndexOf, IsRenamed, IsTable, nodes_of, same_child}
use Rattle.cfs_dir.specs.Tree.{AreAscendingFrom, CanBeTakenBack, CanJoin, CanLeave, IsTree}
use Rattle.cfs_dir.proofs.Found.{node_at-In, rec-least}
use Rattle.cfs_dir.proofs.Grown.{IsNew, IsTree-placed, child_of-new, next-free}
use Rattle.cfs_dir.proofs.Indexed.{IsUpdated, key_of, IsIndex-placed, IsIndex-without}
use Rattle.cfs_dir.proofs.Members.{In, All-In, In-filter, find-Some, find-none_of, find-placed_same}
use Rattle.cfs_dir.proofs.Numbers.{set-set}
use Rattle.cfs_dir.proofs.Shrunk.{IsLeaf, file-leaf, no_child, IsTree-without}
use Rattle.cfs_dir.proofs.Slots.{node_at-nodes_of, slot_is_node, nodes_of-set_some, nodes_of-set_none, AreAtRecords-set_some, AreAtRecords-set_none}
use Rattle.cfs_dir.proofs.Walked.{IsPlace, child-parts, is_directory-false, place_of-Entry}

-- what the fields of a tree are seen as
abbrev pub seen : List (Option Node) → ℕ → Namespace
seen slots next = record { nodes = nodes_of slots; next = next }

pub In-placed_own : (node : Node) (nodes : List Node) → In (placed node nodes) node
In-placed_own node [] = inl refl
In-placed_own node (first ∷ rest) = elim (cases_Bool (nat_lt first.rec node.rec)) [
  | inl t ↦ subst (λ zs. In zs node) (sym (cond-true (nat_lt first.rec node.rec) (first ∷ placed node rest) (node ∷ first ∷ rest) t)) (inr (In-placed_own node rest))
  | inr f ↦ subst (λ zs. In zs node) (sym (cond-false (nat_lt first.rec node.rec) (first ∷ placed node rest) (node ∷ first ∷ rest) f)) (inl refl)
]

-- the record of a node that joins or leaves is one of the slots'
pub joins-within : (namespace : Namespace) (node : Node) → CanJoin namespace node → node.rec < 256
joins-within namespace node joins = All-In (λ n. n.rec < 256) (placed node namespace.nodes) node joins.whole.records (In-placed_own node namespace.nodes)

pub stands-within : (slots : List (Option Node)) (index : Index) (next : ℕ) (namespace : Namespace) (node : Node) → IsTable slots index next
    → seen slots next ≡ namespace → node_at namespace.nodes node.rec ≡ Some node → node.rec < 256
stands-within slots index next namespace node table e stands =
    let at : node_at (nodes_of slots) node.rec ≡ Some node = ap (λ (v : Namespace). node_at v.nodes node.rec) e ∙ stands in
    All-In (λ n. n.rec < 256) (nodes_of slots) node table.tree.records (find-Some (λ n. nat_eq n.rec node.rec) (nodes_of slots) node at).0

pub nodes_of-joined : (slots : List (Option Node)) (index : Index) (next : ℕ) (node : Node) → IsTable slots index next → CanJoin (seen slots next) node
    → nodes_of (set slots node.rec (Some node)) ≡ placed node (nodes_of slots)
nodes_of-joined slots index next node table joins =
    let within = joins-within (seen slots next) node joins in
    let size = table.size in
    nodes_of-set_some 0 slots node.rec node table.at_records (omega arith)
    (sym (node_at-nodes_of 0 slots node.rec node.rec table.at_records (omega arith)) ∙ joins.free) (omega arith)

pub without-absent : (nodes : List Node) (rec : ℕ) → node_at nodes rec ≡ None → without rec nodes ≡ nodes
without-absent [] rec free = refl
without-absent (first ∷ rest) rec free = elim (cases_Bool (nat_eq first.rec rec)) [
  | inl t ↦ absurd (let hit = cond-true (nat_eq first.rec rec) (Some first) (node_at rest rec) t in cc)
  | inr f ↦
      cond-true (not (nat_eq first.rec rec)) (first ∷ without rec rest) (without rec rest) (ap not f)
      ∙ ap (λ ns. first ∷ ns) (without-absent rest rec (sym (cond-false (nat_eq first.rec rec) (Some first) (node_at rest rec) f) ∙ free))
]

pub length-placed : (node : Node) (nodes : List Node) → length (placed node nodes) ≡ suc (length nodes)
length-placed node [] = refl
length-placed node (first ∷ rest) = elim (cases_Bool (nat_lt first.rec node.rec)) [
  | inl t ↦ ap length (cond-true (nat_lt first.rec node.rec) (first ∷ placed node rest) (node ∷ first ∷ rest) t) ∙ ap (λ n. suc n) (length-placed node rest)
  | inr f ↦ ap length (cond-false (nat_lt first.rec node.rec) (first ∷ placed node rest) (node ∷ first ∷ rest) f)
]

pub length-without : (least : ℕ) (nodes : List Node) (node : Node) → AreAscendingFrom least nodes → In nodes node
    → suc (length (without node.rec nodes)) ≡ length nodes
length-without least [] node h m = absurd m
length-without least (first ∷ rest) node h m = elim m [
  | inl same ↦
      let at : first.rec ≡ node.rec = ap (λ (n : Node). n.rec) same in
      let free : node_at rest node.rec ≡ None = find-none_of (λ n. nat_eq n.rec node.rec) rest (λ n r.
      let low = rec-least (suc first.rec) rest n h.1 r in ne_eqb n.rec node.rec (λ e. let e' : n.rec ≡ node.rec = e in omega arith)) in
      ap (λ ns. suc (length ns))
      (cond-false (not (nat_eq first.rec node.rec)) (first ∷ without node.rec rest) (without node.rec rest) (ap not (eq-eqb first.rec node.rec at))
      ∙ without-absent rest node.rec free)
  | inr deeper ↦
      let low : suc first.rec ≤ node.rec = rec-least (suc first.rec) rest node h.1 deeper in
      ap (λ ns. suc (length ns))
      (cond-true (not (nat_eq first.rec node.rec)) (first ∷ without node.rec rest) (without node.rec rest)
      (ap not (ne_eqb first.rec node.rec (λ e. let e' : first.rec ≡ node.rec = e in omega arith))))
      ∙ ap (λ n. suc n) (length-without (suc first.rec) rest node h.1 deeper)
]

-- an index has one entry more or less
pub more-entries : (index new : Index) (was : Option ℕ) → was ≡ None → hash_map_len new ≡ hash_map_len index + cond (is_some was) 0 1
    → hash_map_len new ≡ suc (hash_map_len index)
more-entries index new None none len = omega arith
more-entries index new (Some rec) none len = absurd (cc)

pub fewer-entries : (index new : Index) (was : Option ℕ) (rec : ℕ) → was ≡ Some rec → hash_map_len new + cond (is_some was) 1 0 ≡ hash_map_len index
    → suc (hash_map_len new) ≡ hash_map_len index
fewer-entries index new None rec some len = absurd (cc)
fewer-entries index new (Some other) rec some len = omega arith

-- the index finds a node's own record
pub indexed-own : (nodes : List Node) (index : Index) (next : ℕ) (node : Node) → IsTree nodes next → In nodes node → IsIndex nodes index
    → get same_child index (key_of node) ≡ Some node.rec
indexed-own nodes index next node tree stands indexed =
    indexed (key_of node)
    ∙ ap (λ o. option_map (λ (n : Node). n.rec) o) (All-In (λ n. child_of nodes n.parent n.name ≡ Some n) nodes node tree.name_once stands)

-- an index with the same entries serves as well
pub IsTable-kept : (slots : List (Option Node)) (index new : Index) (next : ℕ) → IsTable slots index next → new.entries ≡ index.entries → IsTable slots new next
IsTable-kept slots index new next table same = record {
  size = table.size;
  at_records = table.at_records;
  tree = table.tree;
  indexed = λ child. ap (λ entries. lookup (same_child child) entries) same ∙ table.indexed child;
  count = ap length same ∙ table.count;
}

-- a node that joins has a free record and an unused number
pub joins-free : (slots : List (Option Node)) (index : Index) (next : ℕ) (namespace : Namespace) (node : Node) → IsTable slots index next
    → seen slots next ≡ namespace → CanJoin namespace node → option_and_then (λ slot. slot) (slice_get slots node.rec) ≡ None
joins-free slots index next namespace node table e joins =
    slot_is_node slots node.rec table.at_records ∙ ap (λ (v : Namespace). node_at v.nodes node.rec) e ∙ joins.free

pub joins-unused : (slots : List (Option Node)) (index : Index) (next : ℕ) (namespace : Namespace) (node : Node) → IsTable slots index next
    → seen slots next ≡ namespace → CanJoin namespace node → node_of (nodes_of slots) node.ino ≡ None
joins-unused slots index next namespace node table e joins =
    ap (λ i. node_of (nodes_of slots) i) (joins.number ∙ sym (ap (λ (v : Namespace). v.next) e)) ∙ next-free (nodes_of slots) next table.tree

pub IsTable-joined : (slots : List (Option Node)) (index new : Index) (next : ℕ) (after : List (Option Node)) (namespace : Namespace) (node : Node)
    → IsTable slots index next → seen slots next ≡ namespace → CanJoin namespace node → after ≡ set slots node.rec (Some node)
    → IsUpdated index new (key_of node) (Some node.rec) → (was : Option ℕ) → was ≡ get same_child index (key_of node)
    → hash_map_len new ≡ hash_map_len index + cond (is_some was) 0 1 → IsTable after new (next + 1)
IsTable-joined slots index new next after namespace node table e joins' same updated was found len =
    let joins : CanJoin (seen slots next) node = subst (λ v. CanJoin v node) (sym e) joins' in
    let nodes = nodes_of-joined slots index next node table joins in
    let none : was ≡ None = found ∙ table.indexed (key_of node) ∙ ap (λ o. option_map (λ (n : Node). n.rec) o) joins.unnamed in
    rw same (record {
      size = length-set slots node.rec (Some node) ∙ table.size;
      at_records = AreAtRecords-set_some 0 slots node.rec node table.at_records (omega arith);
      tree = subst (λ ns. IsTree ns (next + 1)) (sym nodes) joins.whole;
      indexed = λ child. IsIndex-placed (nodes_of slots) node index new joins.unnamed table.indexed updated child
          ∙ ap (λ ns. option_map (λ (n : Node). n.rec) (child_of ns child.parent child.name)) (sym nodes);
      count = more-entries index new was none len ∙ ap (λ n. suc n) table.count ∙ sym (length-placed node (nodes_of slots)) ∙ ap length (sym nodes);
    })

pub seen-joined : (slots : List (Option Node)) (index : Index) (next : ℕ) (after : List (Option Node)) (namespace : Namespace) (node : Node)
    → IsTable slots index next → seen slots next ≡ namespace → CanJoin namespace node → after ≡ set slots node.rec (Some node)
    → seen after (next + 1) ≡ with_node namespace node
seen-joined slots index next after namespace node table e joins same =
    ap (λ s. seen s (next + 1)) same
    ∙ ap (λ ns. record { nodes = ns; next = next + 1 }) (nodes_of-joined slots index next node table (subst (λ v. CanJoin v node) (sym e) joins))
    ∙ ap (λ v. with_node v node) e

pub nodes_of-left : (slots : List (Option Node)) (index : Index) (next : ℕ) (node : Node) → IsTable slots index next
    → nodes_of (set slots node.rec None) ≡ without node.rec (nodes_of slots)
nodes_of-left slots index next node table = nodes_of-set_none 0 slots node.rec node.rec table.at_records (omega arith)

pub IsTable-left : (slots : List (Option Node)) (index new : Index) (next then : ℕ) (after : List (Option Node)) (namespace : Namespace) (node : Node)
    → IsTable slots index next → seen slots next ≡ namespace → node_at namespace.nodes node.rec ≡ Some node
    → IsTree (without node.rec namespace.nodes) then → after ≡ set slots node.rec None
    → IsUpdated index new (key_of node) None → (was : Option ℕ) → was ≡ get same_child index (key_of node)
    → hash_map_len new + cond (is_some was) 1 0 ≡ hash_map_len index → IsTable after new then
IsTable-left slots index new next then after namespace node table e stands' whole same updated was found len =
    let nodes = nodes_of-left slots index next node table in
    let at : node_at (nodes_of slots) node.rec ≡ Some node = ap (λ (v : Namespace). node_at v.nodes node.rec) e ∙ stands' in
    let stands = (find-Some (λ n. nat_eq n.rec node.rec) (nodes_of slots) node at).0 in
    rw same (record {
      size = length-set slots node.rec None ∙ table.size;
      at_records = AreAtRecords-set_none 0 slots node.rec table.at_records;
      tree = subst (λ ns. IsTree ns then) (ap (λ (v : Namespace). without node.rec v.nodes) (sym e) ∙ sym nodes) whole;
      indexed = λ child. IsIndex-without (nodes_of slots) next node index new table.tree stands table.indexed updated child
          ∙ ap (λ ns. option_map (λ (n : Node). n.rec) (child_of ns child.parent child.name)) (sym nodes);
      count =
          let own = found ∙ indexed-own (nodes_of slots) index next node table.tree stands table.indexed in
          let fewer = fewer-entries index new was node.rec own len in
          let less = length-without 0 (nodes_of slots) node table.tree.ascending stands in
          let count = table.count in
          let rest : hash_map_len new ≡ length (without node.rec (nodes_of slots)) = omega arith in
          rest ∙ ap length (sym nodes);
    })

pub seen-left : (slots : List (Option Node)) (index : Index) (next then : ℕ) (after : List (Option Node)) (namespace : Namespace) (node : Node)
    → IsTable slots index next → seen slots next ≡ namespace → after ≡ set slots node.rec None
    → seen after then ≡ record { nodes = without node.rec namespace.nodes; next = then }
seen-left slots index next then after namespace node table e same =
    ap (λ s. seen s then) same
    ∙ ap (λ ns. record { nodes = ns; next = then }) (nodes_of-left slots index next node table ∙ ap (λ (v : Namespace). without node.rec v.nodes) e)

-- a node that has joined can be taken back, which gives the tree before
pub without-placed : (nodes : List Node) (node : Node) → node_at nodes node.rec ≡ None → without node.rec (placed node nodes) ≡ nodes
without-placed [] node free = cond-false (not (nat_eq node.rec node.rec)) (node ∷ []) [] (ap not (eq-eqb node.rec node.rec refl))
without-placed (first ∷ rest) node free = elim (cases_Bool (nat_eq first.rec node.rec)) [
  | inl t ↦ absurd (let hit = cond-true (nat_eq first.rec node.rec) (Some first) (node_at rest node.rec) t in cc)
  | inr f ↦ elim (cases_Bool (nat_lt first.rec node.rec)) [
    | inl t ↦
        ap (λ ns. without node.rec ns) (cond-true (nat_lt first.rec node.rec) (first ∷ placed node rest) (node ∷ first ∷ rest) t)
        ∙ cond-true (not (nat_eq first.rec node.rec)) (first ∷ without node.rec (placed node rest)) (without node.rec (placed node rest)) (ap not f)
        ∙ ap (λ ns. first ∷ ns) (without-placed rest node (sym (cond-false (nat_eq first.rec node.rec) (Some first) (node_at rest node.rec) f) ∙ free))
    | inr g ↦
        ap (λ ns. without node.rec ns) (cond-false (nat_lt first.rec node.rec) (first ∷ placed node rest) (node ∷ first ∷ rest) g)
        ∙ cond-false (not (nat_eq node.rec node.rec)) (node ∷ without node.rec (first ∷ rest)) (without node.rec (first ∷ rest)) (ap not (eq-eqb node.rec node.rec refl))
        ∙ without-absent (first ∷ rest) node.rec free
  ]
]

pub without_last-joined : (namespace : Namespace) (node : Node) → CanJoin namespace node → without_last (with_node namespace node) node ≡ namespace
without_last-joined namespace node joins =
    ap (λ ns. record { nodes = ns; next = node.ino }) (without-placed namespace.nodes node joins.free)
    ∙ ap (λ n. record { nodes = namespace.nodes; next = n }) joins.number

pub CanBeTakenBack-joined : (namespace : Namespace) (node : Node) → IsTree namespace.nodes namespace.next → CanJoin namespace node
    → CanBeTakenBack (with_node namespace node) node
CanBeTakenBack-joined namespace node tree joins = record {
  stands = find-placed_same (λ n. nat_eq n.rec node.rec) node namespace.nodes (eq-eqb node.rec node.rec refl) joins.free;
  whole = subst (λ (v : Namespace). IsTree v.nodes v.next) (sym (without_last-joined namespace node joins)) tree;
}

-- the same, for the fields of a tree
pub joined-undone : (slots : List (Option Node)) (index : Index) (next : ℕ) (after : List (Option Node)) (namespace : Namespace) (node : Node)
    → IsTable slots index next → seen slots next ≡ namespace → CanJoin namespace node → after ≡ set slots node.rec (Some node)
    → without_last (seen after (next + 1)) node ≡ namespace
joined-undone slots index next after namespace node table e joins same =
    ap (λ v. without_last v node) (seen-joined slots index next after namespace node table e joins same) ∙ without_last-joined namespace node joins

pub joined-undoable : (slots : List (Option Node)) (index : Index) (next : ℕ) (after : List (Option Node)) (namespace : Namespace) (node : Node)
    → IsTable slots index next → seen slots next ≡ namespace → CanJoin namespace node → after ≡ set slots node.rec (Some node)
    → CanBeTakenBack (seen after (next + 1)) node
joined-undoable slots index next after namespace node table e joins same =
    let tree : IsTree namespace.nodes namespace.next = subst (λ (v : Namespace). IsTree v.nodes v.next) e table.tree in
    subst (λ v. CanBeTakenBack v node) (sym (seen-joined slots index next after namespace node table e joins same)) (CanBeTakenBack-joined namespace node tree joins)

-- a leaf of the tree may leave it
pub CanLeave-leaf : (namespace : Namespace) (node : Node) → IsTree namespace.nodes namespace.next → IsLeaf namespace.nodes node → CanLeave namespace node
CanLeave-leaf namespace node tree leaf = record {
  stands = node_at-In 0 namespace.nodes node tree.ascending leaf.stands;
  whole = IsTree-without namespace.nodes namespace.next node tree leaf;
}

pub place-stands : (namespace : Namespace) (credential : Credential) (path : List (List ℕ)) (directory : Node) (name : List ℕ) (node : Node)
    → IsTree namespace.nodes namespace.next → ArePathNames path → place_of namespace.nodes credential path ≡ Ok (Entry directory name (Some node))
    → In namespace.nodes node
place-stands namespace credential path directory name node tree names e =
    let place = place_of-Entry namespace.nodes namespace.next credential path directory name (Some node) tree names e in
    (child-parts namespace.nodes directory.ino name node (sym place.found_is)).0

pub CanLeave-file : (namespace : Namespace) (credential : Credential) (path : List (List ℕ)) (directory : Node) (name : List ℕ) (file : Node)
    → IsTree namespace.nodes namespace.next → ArePathNames path → place_of namespace.nodes credential path ≡ Ok (Entry directory name (Some file))
    → is_directory file.kind ≡ false → CanLeave namespace file
CanLeave-file namespace credential path directory name file tree names e kind =
    CanLeave-leaf namespace file tree (file-leaf namespace.nodes namespace.next file tree
    (place-stands namespace credential path directory name file tree names e) (is_directory-false file.kind kind))

pub CanLeave-empty : (namespace : Namespace) (credential : Credential) (path : List (List ℕ)) (directory : Node) (name : List ℕ) (node : Node)
    → IsTree namespace.nodes namespace.next → ArePathNames path → place_of namespace.nodes credential path ≡ Ok (Entry directory name (Some node))
    → has_child namespace.nodes node.ino ≡ false → CanLeave namespace node
CanLeave-empty namespace credential path directory name node tree names e empty =
    CanLeave-leaf namespace node tree (record {
      stands = place-stands namespace credential path directory name node tree names e;
      leaf = no_child namespace.nodes node.ino empty;
    })

-- the node that a call makes may join the tree
pub CanJoin-new : (namespace : Namespace) (credential : Credential) (path : List (List ℕ)) (directory : Node) (name : List ℕ) (node : Node)
    → IsTree namespace.nodes namespace.next → ArePathNames path → place_of namespace.nodes credential path ≡ Ok (Entry directory name None)
    → node.ino ≡ namespace.next → namespace.next < 2 ^ 32 → node.parent ≡ directory.ino → node.name ≡ name
    → node.mode < 512 → node.uid < 2 ^ 32 → node.gid < 2 ^ 32 → node.rec < 256 → node_at namespace.nodes node.rec ≡ None
    → CanJoin namespace node
CanJoin-new namespace credential path directory name node tree names e ino room parent named mode uid gid rec free =
    let place = place_of-Entry namespace.nodes namespace.next credential path directory name None tree names e in
    let new : IsNew namespace.nodes namespace.next directory node = record {
      place = subst (λ n. IsPlace namespace.nodes 15 directory n None) (sym named) place;
      ino = ino;
      room = room;
      parent = parent;
      mode = omega arith;
      uid = uid;
      gid = gid;
      rec = rec;
      free = free;
    } in
    record {
      number = ino;
      free = free;
      unnamed = child_of-new namespace.nodes namespace.next directory node new;
      whole = IsTree-placed namespace.nodes namespace.next directory node tree new;
    }

-- a node is put in place of the one of its record
module _ (slots : List (Option Node)) (index : Index) (next : ℕ) (after : List (Option Node)) (namespace : Namespace) (node old : Node)
    (table : IsTable slots index next) (e : seen slots next ≡ namespace) (stands : node_at namespace.nodes node.rec ≡ Some old)
    (unnamed' : child_of (without node.rec namespace.nodes) node.parent node.name ≡ None)
    (whole' : IsTree (placed node (without node.rec namespace.nodes)) namespace.next) (same : after ≡ set slots node.rec (Some node)) where
  here : node_at (nodes_of slots) node.rec ≡ Some old
  here = ap (λ (v : Namespace). node_at v.nodes node.rec) e ∙ stands

  found : In (nodes_of slots) old × (old.rec ≡ node.rec)
  found = let r = find-Some (λ n. nat_eq n.rec node.rec) (nodes_of slots) old here in (r.0, eqb-true old.rec node.rec r.1)

  unnamed : child_of (without node.rec (nodes_of slots)) node.parent node.name ≡ None
  unnamed = ap (λ (v : Namespace). child_of (without node.rec v.nodes) node.parent node.name) e ∙ unnamed'

  whole : IsTree (placed node (without node.rec (nodes_of slots))) next
  whole = subst (λ (v : Namespace). IsTree (placed node (without node.rec v.nodes)) v.next) (sym e) whole'

  within : node.rec < 256
  within = subst (λ r. r < 256) found.1 (All-In (λ n. n.rec < 256) (nodes_of slots) old table.tree.records found.0)

  shut : node_at (without node.rec (nodes_of slots)) node.rec ≡ None
  shut = find-none_of (λ n. nat_eq n.rec node.rec) (without node.rec (nodes_of slots)) (λ n m.
      ne_eqb n.rec node.rec (λ at. let hit = ap not (eq-eqb n.rec node.rec at) in
      let kept = (In-filter (λ n. not (nat_eq n.rec node.rec)) (nodes_of slots) n m).1 in (let clash = sym hit ∙ kept in cc)))

  nodes_of-relocated : nodes_of (set slots node.rec (Some node)) ≡ placed node (without node.rec (nodes_of slots))
  nodes_of-relocated =
      let left = nodes_of-left slots index next node table in
      let at_records = AreAtRecords-set_none 0 slots node.rec table.at_records in
      let size = length-set slots node.rec None ∙ table.size in
      let lt = within in
      ap nodes_of (sym (set-set slots node.rec None (Some node)))
      ∙ nodes_of-set_some 0 (set slots node.rec None) node.rec node at_records (omega arith)
      (sym (node_at-nodes_of 0 (set slots node.rec None) node.rec node.rec at_records (omega arith)) ∙ ap (λ ns. node_at ns node.rec) left ∙ shut) (omega arith)
      ∙ ap (λ ns. placed node ns) left

  nodes_are : nodes_of after ≡ placed node (without node.rec (nodes_of slots))
  nodes_are = ap nodes_of same ∙ nodes_of-relocated

  at_records : AreAtRecords 0 after
  at_records = subst (λ s. AreAtRecords 0 s) (sym same) (AreAtRecords-set_some 0 slots node.rec node table.at_records (omega arith))

  size : length after ≡ 256
  size = ap length same ∙ length-set slots node.rec (Some node) ∙ table.size

  removed_index : (removed : Index) → IsUpdated index removed (key_of old) None → IsIndex (without node.rec (nodes_of slots)) removed
  removed_index removed updated = subst (λ r. IsIndex (without r (nodes_of slots)) removed) found.1
      (IsIndex-without (nodes_of slots) next old index removed table.tree found.0 table.indexed updated)

  pub IsRenamed-relocated : IsRenamed index after old node
  IsRenamed-relocated = record {
    size = size;
    at_records = at_records;
    name_once = subst (λ ns. All (λ n. child_of ns n.parent n.name ≡ Some n) ns) (sym nodes_are) whole.name_once;
    count = table.count ∙ sym (length-without 0 (nodes_of slots) old table.tree.ascending found.0)
        ∙ ap (λ r. suc (length (without r (nodes_of slots)))) found.1
        ∙ sym (length-placed node (without node.rec (nodes_of slots))) ∙ ap length (sym nodes_are);
    found = indexed-own (nodes_of slots) index next old table.tree found.0 table.indexed ∙ ap (λ r. Some r) found.1;
    shut = λ removed updated. removed_index removed updated (key_of node) ∙ ap (λ o. option_map (λ (n : Node). n.rec) o) unnamed;
    others = λ removed new one other. subst (λ ns. IsIndex ns new) (sym nodes_are)
        (IsIndex-placed (without node.rec (nodes_of slots)) node removed new unnamed (removed_index removed one) other);
  }

  pub IsTable-relocated : (new : Index) → IsIndexOf (nodes_of after) new → IsTable after new next
  IsTable-relocated new indexed = record {
    size = size;
    at_records = at_records;
    tree = subst (λ ns. IsTree ns next) (sym nodes_are) whole;
    indexed = indexed.indexed;
    count = indexed.count;
  }

  pub seen-relocated : seen after next ≡ record { nodes = placed node (without node.rec namespace.nodes); next = namespace.next }
  seen-relocated =
      ap (λ ns. record { nodes = ns; next = next }) nodes_are
      ∙ ap (λ (v : Namespace). record { nodes = placed node (without node.rec v.nodes); next = v.next }) e
