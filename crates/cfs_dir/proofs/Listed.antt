-- A table that is made of a list of nodes, one after another.
use Rattle.std.proofs.Common.{◌≡◌, ◌≢◌, ℕ, zero, suc, ◌+◌, ◌≤◌, ◌<◌, List, [], ◌∷◌, length, take, get_or, Bool, true, cond, inl, inr, refl, sym, ◌∙◌, ap, subst, arith, add-one, ◌^◌}
use Rattle.std.proofs.Math.ListN.{set, length-set}
use Rattle.std.specs.Prelude.{Option, Some, None, IsSomeAnd, find, is_some, nat_eq, nat_lt, replicate, slice_get}
use Rattle.std.specs.HashMap.{get, hash_map_len}
use Rattle.std.specs.Map.{lookup}
use Rattle.std.specs.Option.{option_and_then, option_map}
use Rattle.std.proofs.lemmas.Bool.{cases_Bool, cond-true, eqb-true, lt-ltb, ne_eqb}
use Rattle.std.proofs.lemmas.List.Elements.{All-cons, All-nil}
use Rattle.cfs_dir.specs.declared.kind.Kind.TheVariants.{Directory}
use Rattle.cfs_dir.specs.declared.node.Node.{Node}
use Rattle.cfs_dir.specs.Name.{IsNodeName}
use Rattle.cfs_dir.specs.Namespace.{node_at, node_of, child_of, is_child, placed}
use Rattle.cfs_dir.specs.Tree.{AreAscendingFrom, IsTree, leads_to_root, root_of}
use Rattle.cfs_dir.specs.Table.{AreListed, AreAtRecords, Index, IsTableOf, nodes_of, same_child}
use Rattle.cfs_dir.proofs.Changed.{length-placed, more-entries}
use Rattle.cfs_dir.proofs.Depth.{leads-root}
use Rattle.cfs_dir.proofs.Grown.{is_child-parts}
use Rattle.cfs_dir.proofs.Indexed.{IsUpdated, key_of, IsIndex-placed}
use Rattle.cfs_dir.proofs.Members.{In, All-In, find-none_of}
use Rattle.cfs_dir.proofs.Slots.{slot_at, slot_at-slice_get, slot_is_node, nodes_of-set_some, AreAtRecords-set_some}

pub nodes_of-empty : (n : ℕ) → nodes_of (replicate n None) ≡ []
nodes_of-empty zero = refl
nodes_of-empty (suc n) = nodes_of-empty n

pub AreAtRecords-empty : (n first : ℕ) → AreAtRecords first (replicate n None)
AreAtRecords-empty zero first = tt
AreAtRecords-empty (suc n) first = AreAtRecords-empty n (suc first)

-- each record is at least the least
pub rec-at : (least i : ℕ) (nodes : List Node) (d : Node) → AreAscendingFrom least nodes → i < length nodes → least ≤ (get_or nodes i d).rec
rec-at least i [] d h lt = absurd (omega arith)
rec-at least zero (first ∷ rest) d h lt = h.0
rec-at least (suc i) (first ∷ rest) d h lt = let deeper = rec-at (suc first.rec) i rest d h.1 (omega arith) in let low = h.0 in omega arith

-- the records of the nodes before one are below its own
pub rec-before : (least i : ℕ) (nodes : List Node) (d node : Node) → AreAscendingFrom least nodes → i < length nodes → In (take i nodes) node
    → node.rec < (get_or nodes i d).rec
rec-before least zero nodes d node h lt m = absurd m
rec-before least (suc i) [] d node h lt m = absurd m
rec-before least (suc i) (first ∷ rest) d node h lt m = elim m [
  | inl same ↦
      let above : suc first.rec ≤ (get_or rest i d).rec = rec-at (suc first.rec) i rest d h.1 (omega arith) in
      let r : first.rec ≡ node.rec = ap (λ (n : Node). n.rec) same in omega arith
  | inr deeper ↦ rec-before (suc first.rec) i rest d node h.1 (omega arith) deeper
]

pub placed-last : (least i : ℕ) (nodes : List Node) (d : Node) → AreAscendingFrom least nodes → i < length nodes
    → placed (get_or nodes i d) (take i nodes) ≡ take (suc i) nodes
placed-last least zero [] d h lt = absurd (omega arith)
placed-last least zero (first ∷ rest) d h lt = refl
placed-last least (suc i) [] d h lt = absurd (omega arith)
placed-last least (suc i) (first ∷ rest) d h lt =
    let above : suc first.rec ≤ (get_or rest i d).rec = rec-at (suc first.rec) i rest d h.1 (omega arith) in
    cond-true (nat_lt first.rec (get_or rest i d).rec) (first ∷ placed (get_or rest i d) (take i rest)) (get_or rest i d ∷ first ∷ take i rest)
    (lt-ltb first.rec (get_or rest i d).rec above)
    ∙ ap (λ ns. first ∷ ns) (placed-last (suc first.rec) i rest d h.1 (omega arith))

pub In-take : (i : ℕ) (nodes : List Node) (node : Node) → In (take i nodes) node → In nodes node
In-take zero nodes node m = absurd m
In-take (suc i) [] node m = absurd m
In-take (suc i) (first ∷ rest) node m = elim m [ inl same ↦ inl same | inr deeper ↦ inr (In-take i rest node deeper) ]

pub In-get_or : (i : ℕ) (nodes : List Node) (d : Node) → i < length nodes → In nodes (get_or nodes i d)
In-get_or i [] d lt = absurd (omega arith)
In-get_or zero (first ∷ rest) d lt = inl refl
In-get_or (suc i) (first ∷ rest) d lt = inr (In-get_or i rest d (omega arith))

-- nothing passes before the one node that passes
pub find-before : (p : Node → Bool) (i : ℕ) (nodes : List Node) (d : Node) → AreListed nodes → i < length nodes
    → ((n : Node) → In nodes n → p n ≡ true → Some n ≡ Some (get_or nodes i d)) → find p (take i nodes) ≡ None
find-before p i nodes d h lt only = find-none_of p (take i nodes) (λ n m.
    elim (cases_Bool (p n)) [
      | inl t ↦
          let both : Some n ≡ Some (get_or nodes i d) = only n (In-take i nodes n m) t in
          let one : n ≡ get_or nodes i d = cc in
          let below : n.rec < (get_or nodes i d).rec = rec-before 0 i nodes d n h.ascending lt m in
          let equal : n.rec ≡ (get_or nodes i d).rec = ap (λ (x : Node). x.rec) one in
          absurd (omega arith)
      | inr f ↦ f
    ])

-- no node before has the name
pub child_of-before : (i : ℕ) (nodes : List Node) (d : Node) → AreListed nodes → i < length nodes
    → child_of (take i nodes) (get_or nodes i d).parent (get_or nodes i d).name ≡ None
child_of-before i nodes d h lt = find-before (is_child (get_or nodes i d).parent (get_or nodes i d).name) i nodes d h lt (λ n m t.
    let same = is_child-parts (get_or nodes i d).parent (get_or nodes i d).name n t in
    let once : (x : Node) → In nodes x → child_of nodes x.parent x.name ≡ Some x = λ x s. All-In (λ x. child_of nodes x.parent x.name ≡ Some x) nodes x h.name_once s in
    sym (once n m) ∙ ap (λ p. child_of nodes p n.name) same.0
    ∙ ap (λ x. child_of nodes (get_or nodes i d).parent x) same.1 ∙ once (get_or nodes i d) (In-get_or i nodes d lt))

-- no node before has the inode number
pub node_of-before : (i : ℕ) (nodes : List Node) (d : Node) → AreListed nodes → i < length nodes
    → node_of (take i nodes) (get_or nodes i d).ino ≡ None
node_of-before i nodes d h lt = find-before (λ n. nat_eq n.ino (get_or nodes i d).ino) i nodes d h lt (λ n m t.
    let once : (x : Node) → In nodes x → node_of nodes x.ino ≡ Some x = λ x s. All-In (λ x. node_of nodes x.ino ≡ Some x) nodes x h.number_once s in
    sym (once n m) ∙ ap (λ k. node_of nodes k) (eqb-true n.ino (get_or nodes i d).ino t) ∙ once (get_or nodes i d) (In-get_or i nodes d lt))

pub IsTableOf-empty : (slots : List (Option Node)) (index : Index) → slots ≡ replicate 256 None → index.entries ≡ [] → IsTableOf slots index []
IsTableOf-empty slots index e empty = rw e (record {
  size = refl;
  at_records = AreAtRecords-empty 256 0;
  nodes_are = nodes_of-empty 256;
  indexed = λ child. ap (λ entries. lookup (same_child child) entries) empty;
  count = ap length empty;
})

-- the next node is put among those before it
module _ (slots : List (Option Node)) (index : Index) (nodes : List Node) (i : ℕ) (node : Node) (h : AreListed nodes) (lt : i < length nodes)
    (is : node ≡ get_or nodes i node) (table : IsTableOf slots index (take i nodes)) where
  pub next-within : node.rec < 256
  next-within = subst (λ (n : Node). n.rec < 256) (sym is) (All-In (λ n. n.rec < 256) nodes (get_or nodes i node) h.records (In-get_or i nodes node lt))

  pub next-free_record : node_at (take i nodes) node.rec ≡ None
  next-free_record = find-none_of (λ n. nat_eq n.rec node.rec) (take i nodes) (λ n m.
      let below = rec-before 0 i nodes node n h.ascending lt m in
      let same = ap (λ (x : Node). x.rec) is in
      ne_eqb n.rec node.rec (λ e. let e' : n.rec ≡ node.rec = e in omega arith))

  pub next-free : option_and_then (λ slot. slot) (slice_get slots node.rec) ≡ None
  next-free = slot_is_node slots node.rec table.at_records ∙ ap (λ ns. node_at ns node.rec) table.nodes_are ∙ next-free_record

  pub next-unused : node_of (nodes_of slots) node.ino ≡ None
  next-unused =
      ap (λ ns. node_of ns node.ino) table.nodes_are ∙ ap (λ (n : Node). node_of (take i nodes) n.ino) is ∙ node_of-before i nodes node h lt

  pub IsTableOf-next : (new : Index) (after : List (Option Node)) → after ≡ set slots node.rec (Some node)
      → IsUpdated index new (key_of node) (Some node.rec) → (was : Option ℕ) → was ≡ get same_child index (key_of node)
      → hash_map_len new ≡ hash_map_len index + cond (is_some was) 0 1 → IsTableOf after new (take (i + 1) nodes)
  IsTableOf-next new after same updated was found len =
      let within = next-within in
      let size = table.size in
      let empty : slot_at slots node.rec ≡ None = slot_at-slice_get slots node.rec ∙ next-free in
      let grown : placed node (take i nodes) ≡ take (i + 1) nodes =
      ap (λ n. placed n (take i nodes)) is ∙ placed-last 0 i nodes node h.ascending lt ∙ ap (λ k. take k nodes) (sym (add-one i)) in
      let unnamed : child_of (take i nodes) node.parent node.name ≡ None =
      ap (λ (n : Node). child_of (take i nodes) n.parent n.name) is ∙ child_of-before i nodes node h lt in
      let none : was ≡ None = found ∙ table.indexed (key_of node) ∙ ap (λ o. option_map (λ (n : Node). n.rec) o) unnamed in
      rw same (record {
        size = length-set slots node.rec (Some node) ∙ table.size;
        at_records = AreAtRecords-set_some 0 slots node.rec node table.at_records (omega arith);
        nodes_are = nodes_of-set_some 0 slots node.rec node table.at_records (omega arith) empty (omega arith)
            ∙ ap (λ ns. placed node ns) table.nodes_are ∙ grown;
        indexed = λ child. IsIndex-placed (take i nodes) node index new unnamed table.indexed updated child
            ∙ ap (λ ns. option_map (λ (n : Node). n.rec) (child_of ns child.parent child.name)) grown;
        count = more-entries index new was none len ∙ ap (λ n. suc n) table.count ∙ sym (length-placed node (take i nodes)) ∙ ap length grown;
      })

-- the root alone is a tree
pub IsTree-root : (mode uid gid next : ℕ) → mode ≤ 511 → uid < 2 ^ 32 → gid < 2 ^ 32 → 2 ≤ next → next ≤ 2 ^ 32
    → IsTree (root_of mode uid gid ∷ []) next
IsTree-root mode uid gid next m u g low high =
    record {
      next_low = low;
      next_high = high;
      ascending = (omega arith, tt);
      records = All-cons (λ n. n.rec < 256) (root_of mode uid gid) [] (omega arith) (All-nil (λ n. n.rec < 256));
      root = record { ino = refl; parent = refl; name = refl; kind = refl };
      numbers = All-cons (λ n. (1 ≤ n.ino) × (n.ino < next)) (root_of mode uid gid) [] (omega arith, omega arith) (All-nil (λ n. (1 ≤ n.ino) × (n.ino < next)));
      number_once = All-cons (λ n. node_of (root_of mode uid gid ∷ []) n.ino ≡ Some n) (root_of mode uid gid) [] refl (All-nil (λ n. node_of (root_of mode uid gid ∷ []) n.ino ≡ Some n));
      modes = All-cons (λ n. n.mode ≤ 511) (root_of mode uid gid) [] m (All-nil (λ n. n.mode ≤ 511));
      owners = All-cons (λ n. (n.uid < 2 ^ 32) × (n.gid < 2 ^ 32)) (root_of mode uid gid) [] (u, g) (All-nil (λ n. (n.uid < 2 ^ 32) × (n.gid < 2 ^ 32)));
      names = All-cons (λ n. n.ino ≢ 1 → IsNodeName n.name) (root_of mode uid gid) [] (λ ne. absurd (ne refl)) (All-nil (λ n. n.ino ≢ 1 → IsNodeName n.name));
      name_once = All-cons (λ n. child_of (root_of mode uid gid ∷ []) n.parent n.name ≡ Some n) (root_of mode uid gid) [] refl
          (All-nil (λ n. child_of (root_of mode uid gid ∷ []) n.parent n.name ≡ Some n));
      parents = All-cons (λ n. IsSomeAnd (node_of (root_of mode uid gid ∷ []) n.parent) (λ parent. parent.kind ≡ Directory)) (root_of mode uid gid) [] refl
          (All-nil (λ n. IsSomeAnd (node_of (root_of mode uid gid ∷ []) n.parent) (λ parent. parent.kind ≡ Directory)));
      depths = All-cons (λ n. leads_to_root 16 (root_of mode uid gid ∷ []) n.ino ≡ true) (root_of mode uid gid) []
          (leads-root 16 (root_of mode uid gid ∷ []) 1 refl) (All-nil (λ n. leads_to_root 16 (root_of mode uid gid ∷ []) n.ino ≡ true));
    }
