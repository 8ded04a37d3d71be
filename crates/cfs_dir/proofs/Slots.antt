-- The slots of a table, and the nodes that stand in them.
use Rattle.std.proofs.Common.{◌≡◌, ℕ, zero, suc, ◌+◌, ◌≤◌, ◌<◌, List, [], ◌∷◌, length, not, ◌||◌, refl, sym, ◌∙◌, ap, arith}
use Rattle.std.proofs.Math.ListN.{set}
use Rattle.std.specs.Prelude.{Bool, Option, Some, None, slice_get, nat_lt, nat_eq}
use Rattle.std.specs.List.{list_any}
use Rattle.std.specs.Option.{option_and_then}
use Rattle.std.proofs.lemmas.Bool.{eq-eqb, ne_eqb, lt-ltb, le-ltb, cond-true, cond-false}
use Rattle.cfs_dir.specs.declared.node.Node.{Node}
use Rattle.cfs_dir.specs.Namespace.{node_at, has_child, placed, without}
use Rattle.cfs_dir.specs.Tree.{AreAscendingFrom}
use Rattle.cfs_dir.specs.Table.{holds, nodes_of, stands_in, AreAtRecords}

-- the node of a record, by its place
abbrev pub slot_at : List (Option Node) → ℕ → Option Node
slot_at [] i = None
slot_at (slot ∷ slots) zero = slot
slot_at (slot ∷ slots) (suc i) = slot_at slots i

pub slot_at-slice_get : (slots : List (Option Node)) (i : ℕ) → slot_at slots i ≡ option_and_then (λ slot. slot) (slice_get slots i)
slot_at-slice_get [] i = refl
slot_at-slice_get (slot ∷ slots) zero = refl
slot_at-slice_get (slot ∷ slots) (suc i) = slot_at-slice_get slots i

-- no node stands at a record below the first
pub node_at-below : (first : ℕ) (slots : List (Option Node)) (rec : ℕ) → AreAtRecords first slots → rec < first
    → node_at (nodes_of slots) rec ≡ None
node_at-below first [] rec h lt = refl
node_at-below first (None ∷ slots) rec h lt = node_at-below (suc first) slots rec h (omega arith)
node_at-below first (Some node ∷ slots) rec h lt =
    cond-false (nat_eq node.rec rec) (Some node) (node_at (nodes_of slots) rec) (ne_eqb node.rec rec (λ e. let e' : node.rec ≡ rec = e in let at = h.0 in omega arith))
    ∙ node_at-below (suc first) slots rec h.1 (omega arith)

pub node_at-nodes_of : (first : ℕ) (slots : List (Option Node)) (i rec : ℕ) → AreAtRecords first slots → rec ≡ first + i
    → node_at (nodes_of slots) rec ≡ slot_at slots i
node_at-nodes_of first [] i rec h e = refl
node_at-nodes_of first (None ∷ slots) zero rec h e = node_at-below (suc first) slots rec h (omega arith)
node_at-nodes_of first (None ∷ slots) (suc i) rec h e = node_at-nodes_of (suc first) slots i rec h (omega arith)
node_at-nodes_of first (Some node ∷ slots) zero rec h e =
    cond-true (nat_eq node.rec rec) (Some node) (node_at (nodes_of slots) rec) (eq-eqb node.rec rec (let at = h.0 in omega arith))
node_at-nodes_of first (Some node ∷ slots) (suc i) rec h e =
    cond-false (nat_eq node.rec rec) (Some node) (node_at (nodes_of slots) rec) (ne_eqb node.rec rec (λ q. let q' : node.rec ≡ rec = q in let at = h.0 in omega arith))
    ∙ node_at-nodes_of (suc first) slots i rec h.1 (omega arith)

-- a node of a record below the first goes before all
pub placed-below : (first : ℕ) (slots : List (Option Node)) (node : Node) → AreAtRecords first slots → node.rec < first
    → placed node (nodes_of slots) ≡ node ∷ nodes_of slots
placed-below first [] node h lt = refl
placed-below first (None ∷ slots) node h lt = placed-below (suc first) slots node h (omega arith)
placed-below first (Some other ∷ slots) node h lt =
    cond-false (nat_lt other.rec node.rec) (other ∷ placed node (nodes_of slots)) (node ∷ other ∷ nodes_of slots)
    (le-ltb other.rec node.rec (let at = h.0 in omega arith))

pub nodes_of-set_some : (first : ℕ) (slots : List (Option Node)) (i : ℕ) (node : Node) → AreAtRecords first slots → i < length slots
    → slot_at slots i ≡ None → node.rec ≡ first + i → nodes_of (set slots i (Some node)) ≡ placed node (nodes_of slots)
nodes_of-set_some first [] i node h lt free e = absurd (omega arith)
nodes_of-set_some first (None ∷ slots) zero node h lt free e = sym (placed-below (suc first) slots node h (omega arith))
nodes_of-set_some first (None ∷ slots) (suc i) node h lt free e = nodes_of-set_some (suc first) slots i node h (omega arith) free (omega arith)
nodes_of-set_some first (Some other ∷ slots) zero node h lt free e = absurd (cc)
nodes_of-set_some first (Some other ∷ slots) (suc i) node h lt free e =
    ap (λ nodes. other ∷ nodes) (nodes_of-set_some (suc first) slots i node h.1 (omega arith) free (omega arith))
    ∙ sym (cond-true (nat_lt other.rec node.rec) (other ∷ placed node (nodes_of slots)) (node ∷ other ∷ nodes_of slots)
    (lt-ltb other.rec node.rec (let at = h.0 in omega arith)))

pub AreAtRecords-set_some : (first : ℕ) (slots : List (Option Node)) (i : ℕ) (node : Node) → AreAtRecords first slots
    → node.rec ≡ first + i → AreAtRecords first (set slots i (Some node))
AreAtRecords-set_some first [] i node h e = tt
AreAtRecords-set_some first (None ∷ slots) zero node h e = (omega arith, h)
AreAtRecords-set_some first (None ∷ slots) (suc i) node h e = AreAtRecords-set_some (suc first) slots i node h (omega arith)
AreAtRecords-set_some first (Some other ∷ slots) zero node h e = (omega arith, h.1)
AreAtRecords-set_some first (Some other ∷ slots) (suc i) node h e =
    (h.0, AreAtRecords-set_some (suc first) slots i node h.1 (omega arith))

-- dropping a record below the first drops nothing
pub without-below : (first : ℕ) (slots : List (Option Node)) (rec : ℕ) → AreAtRecords first slots → rec < first
    → without rec (nodes_of slots) ≡ nodes_of slots
without-below first [] rec h lt = refl
without-below first (None ∷ slots) rec h lt = without-below (suc first) slots rec h (omega arith)
without-below first (Some node ∷ slots) rec h lt =
    cond-true (not (nat_eq node.rec rec)) (node ∷ without rec (nodes_of slots)) (without rec (nodes_of slots))
    (ap not (ne_eqb node.rec rec (λ e. let e' : node.rec ≡ rec = e in let at = h.0 in omega arith)))
    ∙ ap (λ nodes. node ∷ nodes) (without-below (suc first) slots rec h.1 (omega arith))

pub nodes_of-set_none : (first : ℕ) (slots : List (Option Node)) (i rec : ℕ) → AreAtRecords first slots → rec ≡ first + i
    → nodes_of (set slots i None) ≡ without rec (nodes_of slots)
nodes_of-set_none first [] i rec h e = refl
nodes_of-set_none first (None ∷ slots) zero rec h e = sym (without-below (suc first) slots rec h (omega arith))
nodes_of-set_none first (None ∷ slots) (suc i) rec h e = nodes_of-set_none (suc first) slots i rec h (omega arith)
nodes_of-set_none first (Some node ∷ slots) zero rec h e =
    sym (cond-false (not (nat_eq node.rec rec)) (node ∷ without rec (nodes_of slots)) (without rec (nodes_of slots))
    (ap not (eq-eqb node.rec rec (let at = h.0 in omega arith)))
    ∙ without-below (suc first) slots rec h.1 (omega arith))
nodes_of-set_none first (Some node ∷ slots) (suc i) rec h e =
    ap (λ nodes. node ∷ nodes) (nodes_of-set_none (suc first) slots i rec h.1 (omega arith))
    ∙ sym (cond-true (not (nat_eq node.rec rec)) (node ∷ without rec (nodes_of slots)) (without rec (nodes_of slots))
    (ap not (ne_eqb node.rec rec (λ q. let q' : node.rec ≡ rec = q in let at = h.0 in omega arith))))

pub AreAtRecords-set_none : (first : ℕ) (slots : List (Option Node)) (i : ℕ) → AreAtRecords first slots
    → AreAtRecords first (set slots i None)
AreAtRecords-set_none first [] i h = tt
AreAtRecords-set_none first (None ∷ slots) zero h = h
AreAtRecords-set_none first (None ∷ slots) (suc i) h = AreAtRecords-set_none (suc first) slots i h
AreAtRecords-set_none first (Some node ∷ slots) zero h = h.1
AreAtRecords-set_none first (Some node ∷ slots) (suc i) h = (h.0, AreAtRecords-set_none (suc first) slots i h.1)

pub AreAscendingFrom-nodes_of : (first least : ℕ) (slots : List (Option Node)) → AreAtRecords first slots → least ≤ first
    → AreAscendingFrom least (nodes_of slots)
AreAscendingFrom-nodes_of first least [] h le = tt
AreAscendingFrom-nodes_of first least (None ∷ slots) h le = AreAscendingFrom-nodes_of (suc first) least slots h (omega arith)
AreAscendingFrom-nodes_of first least (Some node ∷ slots) h le =
    (let at = h.0 in omega arith, AreAscendingFrom-nodes_of (suc first) (suc node.rec) slots h.1 (let at = h.0 in omega arith))

pub slot_is_node : (slots : List (Option Node)) (rec : ℕ) → AreAtRecords 0 slots
    → option_and_then (λ slot. slot) (slice_get slots rec) ≡ node_at (nodes_of slots) rec
slot_is_node slots rec h = sym (slot_at-slice_get slots rec) ∙ sym (node_at-nodes_of 0 slots rec rec h (omega arith))

pub list_any-holds : (slots : List (Option Node)) (test : Node → Bool) → list_any (holds test) slots ≡ list_any test (nodes_of slots)
list_any-holds [] test = refl
list_any-holds (None ∷ slots) test = list_any-holds slots test
list_any-holds (Some node ∷ slots) test = ap (λ b. test node || b) (list_any-holds slots test)

pub list_any-stands_in : (slots : List (Option Node)) (parent : ℕ) → list_any (stands_in parent) slots ≡ has_child (nodes_of slots) parent
list_any-stands_in slots parent = list_any-holds slots (λ node. nat_eq node.parent parent)
