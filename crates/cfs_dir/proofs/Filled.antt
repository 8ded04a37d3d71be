-- An index that is filled record by record.
use Rattle.std.proofs.Common.{◌≡◌, ℕ, zero, suc, ◌+◌, ◌≤◌, ◌<◌, List, [], ◌∷◌, ◌++◌, length, take, cond, inl, inr, refl, sym, ◌∙◌, ap, subst, add-one, arith}
use Rattle.std.specs.Prelude.{All, Option, Some, None, is_some, nat_lt, slice_get}
use Rattle.std.specs.HashMap.{get, hash_map_len, spare}
use Rattle.std.specs.Option.{option_and_then, option_map}
use Rattle.std.proofs.lemmas.Bool.{cases_Bool, cond-true, lt-ltb}
use Rattle.cfs_dir.specs.declared.node.Node.{Node}
use Rattle.cfs_dir.specs.Namespace.{child_of, is_child, placed}
use Rattle.cfs_dir.specs.Table.{AreAtRecords, Index, IsIndex, IsIndexOf, IsRenamed, IsUpdated, key_of, nodes_of, same_child}
use Rattle.cfs_dir.specs.declared.child.Child.{Child}
use Rattle.cfs_dir.proofs.Changed.{fewer-entries, length-placed, more-entries}
use Rattle.cfs_dir.proofs.Indexed.{IsIndex-placed}
use Rattle.cfs_dir.proofs.Grown.{is_child-parts}
use Rattle.cfs_dir.proofs.Members.{In, All-In, find-none_of}

abbrev pub slot_in : List (Option Node) → ℕ → Option Node
slot_in slots i = option_and_then (λ slot. slot) (slice_get slots i)

pub take-none : (i : ℕ) (slots : List (Option Node)) → slot_in slots i ≡ None → nodes_of (take (suc i) slots) ≡ nodes_of (take i slots)
take-none zero [] e = refl
take-none (suc i) [] e = refl
take-none zero (None ∷ slots) e = refl
take-none zero (Some node ∷ slots) e = absurd (cc)
take-none (suc i) (None ∷ slots) e = take-none i slots e
take-none (suc i) (Some node ∷ slots) e = ap (λ ns. node ∷ ns) (take-none i slots e)

pub take-last : (i : ℕ) (slots : List (Option Node)) (node : Node) → slot_in slots i ≡ Some node
    → nodes_of (take (suc i) slots) ≡ nodes_of (take i slots) ++ node ∷ []
take-last i [] node e = absurd (cc)
take-last zero (None ∷ slots) node e = absurd (cc)
take-last zero (Some other ∷ slots) node e = let one : other ≡ node = cc in ap (λ n. n ∷ []) one
take-last (suc i) (None ∷ slots) node e = take-last i slots node e
take-last (suc i) (Some other ∷ slots) node e = ap (λ ns. other ∷ ns) (take-last i slots node e)

-- the node of a slot has the slot's record
slot-record : (first i : ℕ) (slots : List (Option Node)) (node : Node) → AreAtRecords first slots → slot_in slots i ≡ Some node
    → In (nodes_of slots) node × (node.rec ≡ first + i)
slot-record first i [] node h e = absurd (cc)
slot-record first zero (None ∷ slots) node h e = absurd (cc)
slot-record first zero (Some other ∷ slots) node h e =
    let one : other ≡ node = cc in
    let at : node.rec ≡ first = ap (λ (n : Node). n.rec) (sym one) ∙ h.0 in
    (inl one, omega arith)
slot-record first (suc i) (None ∷ slots) node h e = let r = slot-record (suc first) i slots node h e in (r.0, let at = r.1 in omega arith)
slot-record first (suc i) (Some other ∷ slots) node h e = let r = slot-record (suc first) i slots node h.1 e in (inr r.0, let at = r.1 in omega arith)

pub take-some : (first i : ℕ) (slots : List (Option Node)) (node : Node) → AreAtRecords first slots → slot_in slots i ≡ Some node
    → nodes_of (take (suc i) slots) ≡ placed node (nodes_of (take i slots))
take-some first i [] node h e = absurd (cc)
take-some first zero (None ∷ slots) node h e = absurd (cc)
take-some first zero (Some other ∷ slots) node h e = let one : other ≡ node = cc in ap (λ n. n ∷ []) one
take-some first (suc i) (None ∷ slots) node h e = take-some (suc first) i slots node h e
take-some first (suc i) (Some other ∷ slots) node h e =
    let own = h.0 in
    let at = (slot-record (suc first) i slots node h.1 e).1 in
    ap (λ ns. other ∷ ns) (take-some (suc first) i slots node h.1 e)
    ∙ sym (cond-true (nat_lt other.rec node.rec) (other ∷ placed node (nodes_of (take i slots))) (node ∷ other ∷ nodes_of (take i slots))
    (lt-ltb other.rec node.rec (omega arith)))

-- the nodes of the first slots are some of all, of lower records, and fewer
take-In : (first i : ℕ) (slots : List (Option Node)) (node : Node) → AreAtRecords first slots → In (nodes_of (take i slots)) node
    → In (nodes_of slots) node × (node.rec < first + i)
take-In first zero slots node h m = absurd m
take-In first (suc i) [] node h m = absurd m
take-In first (suc i) (None ∷ slots) node h m = let r = take-In (suc first) i slots node h m in (r.0, let lt = r.1 in omega arith)
take-In first (suc i) (Some other ∷ slots) node h m = elim m [
  | inl same ↦ let at : node.rec ≡ first = ap (λ (n : Node). n.rec) (sym same) ∙ h.0 in (inl same, omega arith)
  | inr deeper ↦ let r = take-In (suc first) i slots node h.1 deeper in (inr r.0, let lt = r.1 in omega arith)
]

pub take-fewer : (i : ℕ) (slots : List (Option Node)) (node : Node) → slot_in slots i ≡ Some node → length (nodes_of (take i slots)) < length (nodes_of slots)
take-fewer i [] node e = absurd (cc)
take-fewer zero (None ∷ slots) node e = absurd (cc)
take-fewer zero (Some other ∷ slots) node e = omega arith
take-fewer (suc i) (None ∷ slots) node e = take-fewer i slots node e
take-fewer (suc i) (Some other ∷ slots) node e = let deeper = take-fewer i slots node e in omega arith

-- no node of a lower record has the name
pub take-unnamed : (i : ℕ) (slots : List (Option Node)) (node : Node) → AreAtRecords 0 slots
    → All (λ n. child_of (nodes_of slots) n.parent n.name ≡ Some n) (nodes_of slots) → slot_in slots i ≡ Some node
    → child_of (nodes_of (take i slots)) node.parent node.name ≡ None
take-unnamed i slots node h once e =
    let own = slot-record 0 i slots node h e in
    let at = own.1 in
    find-none_of (is_child node.parent node.name) (nodes_of (take i slots)) (λ n m. elim (cases_Bool (is_child node.parent node.name n)) [
      | inl t ↦
          let r = take-In 0 i slots n h m in
          let lt = r.1 in
          let same = is_child-parts node.parent node.name n t in
          let both : Some n ≡ Some node = sym (All-In (λ n. child_of (nodes_of slots) n.parent n.name ≡ Some n) (nodes_of slots) n once r.0)
          ∙ ap (λ p. child_of (nodes_of slots) p n.name) same.0 ∙ ap (λ x. child_of (nodes_of slots) node.parent x) same.1
          ∙ All-In (λ n. child_of (nodes_of slots) n.parent n.name ≡ Some n) (nodes_of slots) node once own.0 in
          let one : n ≡ node = cc in
          let rec : n.rec ≡ node.rec = ap (λ (x : Node). x.rec) one in
          absurd (omega arith)
      | inr f ↦ f
    ])

-- the index has the nodes of the first slots, and room for the others
pub record IsFilled (slots : List (Option Node)) (index : Index) (i : ℕ) : Type 0 where
  pub indexed : IsIndex (nodes_of (take i slots)) index
  pub count : hash_map_len index ≡ length (nodes_of (take i slots))
  pub room : length (nodes_of slots) ≤ hash_map_len index + spare index

pub filled-none : (slots : List (Option Node)) (index : Index) (i : ℕ) → slot_in slots i ≡ None → IsFilled slots index i → IsFilled slots index (i + 1)
filled-none slots index i none filled =
    let same : nodes_of (take i slots) ≡ nodes_of (take (i + 1) slots) =
    sym (ap (λ k. nodes_of (take k slots)) (add-one i) ∙ take-none i slots none) in
    record {
      indexed = subst (λ ns. IsIndex ns index) same filled.indexed;
      count = filled.count ∙ ap length same;
      room = filled.room;
    }

pub filled-room : (slots : List (Option Node)) (index : Index) (i : ℕ) (node : Node) → slot_in slots i ≡ Some node → IsFilled slots index i → 0 < spare index
filled-room slots index i node some filled =
    let fewer = take-fewer i slots node some in
    let count = filled.count in
    let room = filled.room in
    omega arith

pub filled-some : (slots : List (Option Node)) (index new : Index) (i : ℕ) (node : Node) (key : Child) (was : Option ℕ) → AreAtRecords 0 slots
    → All (λ n. child_of (nodes_of slots) n.parent n.name ≡ Some n) (nodes_of slots) → slot_in slots i ≡ Some node → IsFilled slots index i
    → key ≡ key_of node → IsUpdated index new key (Some i) → was ≡ get same_child index key
    → hash_map_len new ≡ hash_map_len index + cond (is_some was) 0 1 → spare index ≤ spare new + 1 → IsFilled slots new (i + 1)
filled-some slots index new i node key was h once some filled keyed updated found len room =
    let at = (slot-record 0 i slots node h some).1 in
    let rec : i ≡ node.rec = omega arith in
    let unnamed = take-unnamed i slots node h once some in
    let same : placed node (nodes_of (take i slots)) ≡ nodes_of (take (i + 1) slots) =
    sym (ap (λ k. nodes_of (take k slots)) (add-one i) ∙ take-some 0 i slots node h some) in
    let none : was ≡ None = found ∙ ap (λ k. get same_child index k) keyed ∙ filled.indexed (key_of node)
    ∙ ap (λ o. option_map (λ (n : Node). n.rec) o) unnamed in
    let more = more-entries index new was none len in
    let spared = filled.room in
    let renewed : IsUpdated index new (key_of node) (Some node.rec) =
    subst (λ r. IsUpdated index new (key_of node) (Some r)) rec (subst (λ k. IsUpdated index new k (Some i)) keyed updated) in
    record {
      indexed = subst (λ ns. IsIndex ns new) same (IsIndex-placed (nodes_of (take i slots)) node index new unnamed filled.indexed renewed);
      count = more ∙ ap (λ n. suc n) filled.count ∙ sym (length-placed node (nodes_of (take i slots))) ∙ ap length same;
      room = omega arith;
    }

-- the index in which one key is another
pub IsIndexOf-renamed : (index removed new : Index) (slots : List (Option Node)) (old node : Node) (one other : Child) (was before : Option ℕ)
    → IsRenamed index slots old node → one ≡ key_of old → other ≡ key_of node → IsUpdated index removed one None → IsUpdated removed new other (Some node.rec)
    → was ≡ get same_child index one → hash_map_len removed + cond (is_some was) 1 0 ≡ hash_map_len index
    → before ≡ get same_child removed other → hash_map_len new ≡ hash_map_len removed + cond (is_some before) 0 1
    → IsIndexOf (nodes_of slots) new
IsIndexOf-renamed index removed new slots old node one other was before renamed is_old is_new first second was_is fewer before_is more =
    let first' = subst (λ k. IsUpdated index removed k None) is_old first in
    let second' = subst (λ k. IsUpdated removed new k (Some node.rec)) is_new second in
    let gone = fewer-entries index removed was node.rec (was_is ∙ ap (λ k. get same_child index k) is_old ∙ renamed.found) fewer in
    let here = more-entries removed new before (before_is ∙ ap (λ k. get same_child removed k) is_new ∙ renamed.shut removed first') more in
    let count = renamed.count in
    record { indexed = renamed.others removed new first' second'; count = omega arith }
