-- The nodes by number after one is put at its record or taken out.
use Rattle.std.proofs.Common.{◌≡◌, ◌≢◌, ℕ, zero, suc, ◌+◌, ◌<◌, List, [], ◌∷◌, length, map, get_or, ◌||◌, cond, ◌⊎◌, inl, inr, refl, sym, ◌∙◌, ap, subst, arith}
use Rattle.std.proofs.Math.ListN.{set, length-set}
use Rattle.std.specs.Result.{IsOk}
use Rattle.std.specs.Prelude.{Bool, Result, Ok, Err, IfOk, OnOk, OnErr, Option, Some, None, IsSomeAnd, replicate, nat_eq, slice_get}
use Rattle.std.specs.Option.{option_and_then}
use Rattle.std.specs.HashMap.{get}
use Rattle.std.specs.Map.{lookup}
use Rattle.std.specs.List.{list_any}
use Rattle.std.proofs.lemmas.Bool.{cases_Bool, cond-true, cond-false, eq-eqb, ne_eqb, eqb-true}
use Rattle.std.proofs.lemmas.List.{map-set}
use Rattle.cfs_dir.specs.declared.node.Node.{Node}
use Rattle.cfs_dir.specs.Namespace.{node_of}
use Rattle.cfs_dir.specs.Numbered.{NodeMap, slot_of, slots_of, FindsOwn, AreNumbered, IsAbsent, IsNumbered}
use Rattle.cfs_dir.specs.Table.{nodes_of}
use Rattle.cfs_dir.proofs.Grown.{some_of, IsSomeAnd_from}

-- the map finds a value at one number, and what it found before at every other
abbrev pub IsRenewed : NodeMap → NodeMap → ℕ → Option Node → Type 0
IsRenewed old new key value = (number : ℕ) → get nat_eq new number ≡ cond (nat_eq key number) value (get nat_eq old number)

-- a record has another inode number, or none
abbrev pub IsOther : ℕ → Option ℕ → Type 0
IsOther key None = Unit {0}
IsOther key (Some number) = key ≢ number

-- what no record has after a change, and this one had not before, no record had
pub IsAbsent-before : (i key : ℕ) (new d : Option ℕ) (numbers : List (Option ℕ)) → IsAbsent key (set numbers i new) → IsOther key (get_or numbers i d) → IsAbsent key numbers
IsAbsent-before i key new d [] absent other = tt
IsAbsent-before zero key None d (None ∷ numbers) absent other = absent
IsAbsent-before zero key None d (Some number ∷ numbers) absent other = (other, absent)
IsAbsent-before zero key (Some n) d (None ∷ numbers) absent other = absent.1
IsAbsent-before zero key (Some n) d (Some number ∷ numbers) absent other = (other, absent.1)
IsAbsent-before (suc i) key new d (None ∷ numbers) absent other = IsAbsent-before i key new d numbers absent other
IsAbsent-before (suc i) key new d (Some number ∷ numbers) absent other = (absent.0, IsAbsent-before i key new d numbers absent.1 other)

-- a number that a record got is another one
pub IsAbsent-put_at : (i key n : ℕ) (numbers : List (Option ℕ)) → i < length numbers → IsAbsent key (set numbers i (Some n)) → key ≢ n
IsAbsent-put_at i key n [] lt absent = absurd (omega arith)
IsAbsent-put_at zero key n (number ∷ numbers) lt absent = absent.0
IsAbsent-put_at (suc i) key n (None ∷ numbers) lt absent = IsAbsent-put_at i key n numbers (omega arith) absent
IsAbsent-put_at (suc i) key n (Some number ∷ numbers) lt absent = IsAbsent-put_at i key n numbers (omega arith) absent.1

-- a record whose number finds no node has none
pub IsOther-free : (by_number : NodeMap) (rec key : ℕ) (slot : Option ℕ) → FindsOwn by_number rec slot → slot_of by_number slot ≡ None → IsOther key slot
IsOther-free by_number rec key None own free = tt
IsOther-free by_number rec key (Some number) own free = absurd (subst (λ found. IsSomeAnd found (λ node. (node.ino ≡ number) × (node.rec ≡ rec))) free own)

pub IsOther-unused : (by_number : NodeMap) (first i key : ℕ) (numbers : List (Option ℕ)) → AreNumbered by_number first numbers
    → option_and_then (λ slot. slot) (slice_get (slots_of by_number numbers) i) ≡ None → IsOther key (get_or numbers i None)
IsOther-unused by_number first i key [] h free = tt
IsOther-unused by_number first zero key (number ∷ numbers) h free = IsOther-free by_number first key number h.0 free
IsOther-unused by_number first (suc i) key (number ∷ numbers) h free = IsOther-unused by_number (suc first) i key numbers h.1 free

pub IsOther-none : (key : ℕ) (slot : Option ℕ) → slot ≡ None → IsOther key slot
IsOther-none key slot none = rw none tt

pub IsOther-some : (key number : ℕ) (slot : Option ℕ) → slot ≡ Some number → key ≢ number → IsOther key slot
IsOther-some key number slot is other = rw is other

pub slots-empty : (slot : Option ℕ → Option Node) → slot None ≡ None → (n : ℕ) → map slot (replicate n None) ≡ replicate n None
slots-empty slot none zero = refl
slots-empty slot none (suc n) = ap (λ first. first ∷ map slot (replicate n None)) none ∙ ap (λ slots. None ∷ slots) (slots-empty slot none n)

pub AreNumbered-empty : (by_number : NodeMap) (n first : ℕ) → AreNumbered by_number first (replicate n None)
AreNumbered-empty by_number zero first = tt
AreNumbered-empty by_number (suc n) first = (tt, AreNumbered-empty by_number n (suc first))

-- a number that no node has is no record's
pub IsAbsent-unused : (by_number : NodeMap) (first key : ℕ) (numbers : List (Option ℕ)) → AreNumbered by_number first numbers
    → node_of (nodes_of (slots_of by_number numbers)) key ≡ None → IsAbsent key numbers
IsAbsent-unused by_number first key [] h unused = tt
IsAbsent-unused by_number first key (None ∷ numbers) h unused = IsAbsent-unused by_number (suc first) key numbers h.1 unused
IsAbsent-unused by_number first key (Some number ∷ numbers) h unused =
    let own = some_of (get nat_eq by_number number) (λ node. (node.ino ≡ number) × (node.rec ≡ first)) h.0 in
    let unused' : node_of (nodes_of (Some own.0 ∷ slots_of by_number numbers)) key ≡ None =
    ap (λ slot. node_of (nodes_of (slot ∷ slots_of by_number numbers)) key) (sym own.1) ∙ unused in
    elim (cases_Bool (nat_eq own.0.ino key)) [
      | inl t ↦ absurd (let hit = cond-true (nat_eq own.0.ino key) (Some own.0) (node_of (nodes_of (slots_of by_number numbers)) key) t in cc)
      | inr f ↦ (
        λ same. (let hit = eq-eqb own.0.ino key (own.2.0 ∙ sym same) in cc),
        IsAbsent-unused by_number (suc first) key numbers h.1
            (sym (cond-false (nat_eq own.0.ino key) (Some own.0) (node_of (nodes_of (slots_of by_number numbers)) key) f) ∙ unused'),
      )
    ]

-- a number whose node has an earlier record is no record's from here on
pub IsAbsent-earlier : (by_number : NodeMap) (first key : ℕ) (node : Node) (numbers : List (Option ℕ)) → AreNumbered by_number first numbers
    → get nat_eq by_number key ≡ Some node → node.rec < first → IsAbsent key numbers
IsAbsent-earlier by_number first key node [] h at lt = tt
IsAbsent-earlier by_number first key node (None ∷ numbers) h at lt = IsAbsent-earlier by_number (suc first) key node numbers h.1 at (omega arith)
IsAbsent-earlier by_number first key node (Some number ∷ numbers) h at lt =
    let own = some_of (get nat_eq by_number number) (λ node. (node.ino ≡ number) × (node.rec ≡ first)) h.0 in (
      λ same. (
          let one : Some node ≡ Some own.0 = sym at ∙ ap (λ k. get nat_eq by_number k) same ∙ own.1 in
          let equal : node ≡ own.0 = cc in
          let recs : node.rec ≡ first = ap (λ (n : Node). n.rec) equal ∙ own.2.1 in
          omega arith
          ),
      IsAbsent-earlier by_number (suc first) key node numbers h.1 at (omega arith),
    )

-- a number is its own record's alone
pub IsAbsent-taken : (by_number : NodeMap) (first i key : ℕ) (node : Node) (numbers : List (Option ℕ)) → AreNumbered by_number first numbers
    → get nat_eq by_number key ≡ Some node → node.rec ≡ first + i → IsAbsent key (set numbers i None)
IsAbsent-taken by_number first i key node [] h at e = tt
IsAbsent-taken by_number first zero key node (number ∷ numbers) h at e = IsAbsent-earlier by_number (suc first) key node numbers h.1 at (omega arith)
IsAbsent-taken by_number first (suc i) key node (None ∷ numbers) h at e = IsAbsent-taken by_number (suc first) i key node numbers h.1 at (omega arith)
IsAbsent-taken by_number first (suc i) key node (Some number ∷ numbers) h at e =
    let own = some_of (get nat_eq by_number number) (λ node. (node.ino ≡ number) × (node.rec ≡ first)) h.0 in (
      λ same. (
          let one : Some node ≡ Some own.0 = sym at ∙ ap (λ k. get nat_eq by_number k) same ∙ own.1 in
          let equal : node ≡ own.0 = cc in
          let recs : node.rec ≡ first = ap (λ (n : Node). n.rec) equal ∙ own.2.1 in
          omega arith
          ),
      IsAbsent-taken by_number (suc first) i key node numbers h.1 at (omega arith),
    )

pub get-other : (old new : NodeMap) (key : ℕ) (value : Option Node) (number : ℕ) → IsRenewed old new key value → key ≢ number
    → get nat_eq new number ≡ get nat_eq old number
get-other old new key value number renewed ne = renewed number ∙ cond-false (nat_eq key number) value (get nat_eq old number) (ne_eqb key number ne)

pub get-own : (old new : NodeMap) (key : ℕ) (value : Option Node) → IsRenewed old new key value → get nat_eq new key ≡ value
get-own old new key value renewed = renewed key ∙ cond-true (nat_eq key key) value (get nat_eq old key) (eq-eqb key key refl)

-- a change at a number that no record has shows in no slot
pub slots_of-same : (old new : NodeMap) (key : ℕ) (value : Option Node) (numbers : List (Option ℕ)) → IsRenewed old new key value
    → IsAbsent key numbers → slots_of new numbers ≡ slots_of old numbers
slots_of-same old new key value [] renewed absent = refl
slots_of-same old new key value (None ∷ numbers) renewed absent = ap (λ slots. None ∷ slots) (slots_of-same old new key value numbers renewed absent)
slots_of-same old new key value (Some number ∷ numbers) renewed absent =
    ap (λ slot. slot ∷ slots_of new numbers) (get-other old new key value number renewed absent.0)
    ∙ ap (λ slots. get nat_eq old number ∷ slots) (slots_of-same old new key value numbers renewed absent.1)

pub AreNumbered-same : (old new : NodeMap) (first key : ℕ) (value : Option Node) (numbers : List (Option ℕ)) → IsRenewed old new key value
    → IsAbsent key numbers → AreNumbered old first numbers → AreNumbered new first numbers
AreNumbered-same old new first key value [] renewed absent h = tt
AreNumbered-same old new first key value (None ∷ numbers) renewed absent h = (tt, AreNumbered-same old new (suc first) key value numbers renewed absent h.1)
AreNumbered-same old new first key value (Some number ∷ numbers) renewed absent h = (
  subst (λ slot. IsSomeAnd slot (λ node. (node.ino ≡ number) × (node.rec ≡ first))) (sym (get-other old new key value number renewed absent.0)) h.0,
  AreNumbered-same old new (suc first) key value numbers renewed absent.1 h.1,
)

pub AreNumbered-set : (by_number : NodeMap) (first i : ℕ) (number : Option ℕ) (numbers : List (Option ℕ)) → AreNumbered by_number first numbers
    → FindsOwn by_number (first + i) number → AreNumbered by_number first (set numbers i number)
AreNumbered-set by_number first i number [] h own = tt
AreNumbered-set by_number first zero number (other ∷ numbers) h own = (subst (λ rec. FindsOwn by_number rec number) (omega arith) own, h.1)
AreNumbered-set by_number first (suc i) number (other ∷ numbers) h own =
    (h.0, AreNumbered-set by_number (suc first) i number numbers h.1 (subst (λ rec. FindsOwn by_number rec number) (omega arith) own))

pub AreNumbered-kept : (old new : NodeMap) (first : ℕ) (numbers : List (Option ℕ)) → new.entries ≡ old.entries
    → AreNumbered old first numbers → AreNumbered new first numbers
AreNumbered-kept old new first [] same h = tt
AreNumbered-kept old new first (None ∷ numbers) same h = (tt, AreNumbered-kept old new (suc first) numbers same h.1)
AreNumbered-kept old new first (Some number ∷ numbers) same h = (
  subst (λ slot. IsSomeAnd slot (λ node. (node.ino ≡ number) × (node.rec ≡ first))) (ap (λ entries. lookup (nat_eq number) entries) (sym same)) h.0,
  AreNumbered-kept old new (suc first) numbers same h.1,
)

-- a map with the same entries serves as well
pub IsNumbered-kept : (old new : NodeMap) (numbers : List (Option ℕ)) → new.entries ≡ old.entries → IsNumbered old numbers → IsNumbered new numbers
IsNumbered-kept old new numbers same h = record {
  size = h.size;
  numbered = AreNumbered-kept old new 0 numbers same h.numbered;
  only = λ number absent. ap (λ entries. lookup (nat_eq number) entries) same ∙ h.only number absent;
}

pub IsNumbered-empty : (by_number : NodeMap) (numbers : List (Option ℕ)) → by_number.entries ≡ [] → numbers ≡ replicate 256 None → IsNumbered by_number numbers
IsNumbered-empty by_number numbers empty e = rw e (record {
  size = refl;
  numbered = AreNumbered-empty by_number 256 0;
  only = λ number absent. ap (λ entries. lookup (nat_eq number) entries) empty;
})

pub seen-empty : (slot : Option ℕ → Option Node) (numbers : List (Option ℕ)) → slot None ≡ None → numbers ≡ replicate 256 None
    → map slot numbers ≡ replicate 256 None
seen-empty slot numbers none e = ap (λ ns. map slot ns) e ∙ slots-empty slot none 256

-- a node of a number that no node has is put at its record
module _ (old new : NodeMap) (numbers : List (Option ℕ)) (slots : List (Option Node)) (node : Node) (h : IsNumbered old numbers)
    (seen : slots_of old numbers ≡ slots) (unused : node_of (nodes_of slots) node.ino ≡ None) (renewed : IsRenewed old new node.ino (Some node)) where
  pub IsAbsent-put : IsAbsent node.ino numbers
  IsAbsent-put = IsAbsent-unused old 0 node.ino numbers h.numbered (ap (λ s. node_of (nodes_of s) node.ino) seen ∙ unused)

  pub seen-put : slots_of new (set numbers node.rec (Some node.ino)) ≡ set slots node.rec (Some node)
  seen-put =
      map-set (slot_of new) numbers node.rec (Some node.ino)
      ∙ ap (λ slot. set (slots_of new numbers) node.rec slot) (get-own old new node.ino (Some node) renewed)
      ∙ ap (λ s. set s node.rec (Some node)) (slots_of-same old new node.ino (Some node) numbers renewed IsAbsent-put ∙ seen)

  pub IsNumbered-put : node.rec < 256 → option_and_then (λ slot. slot) (slice_get slots node.rec) ≡ None → IsNumbered new (set numbers node.rec (Some node.ino))
  IsNumbered-put short free = record {
    size = length-set numbers node.rec (Some node.ino) ∙ h.size;
    numbered = AreNumbered-set new 0 node.rec (Some node.ino) numbers (AreNumbered-same old new 0 node.ino (Some node) numbers renewed IsAbsent-put h.numbered)
        (IsSomeAnd_from (get nat_eq new node.ino) node (λ n. (n.ino ≡ node.ino) × (n.rec ≡ 0 + node.rec)) (get-own old new node.ino (Some node) renewed) (refl, omega arith));
    only = λ number absent.
        get-other old new node.ino (Some node) number renewed (λ same. IsAbsent-put_at node.rec number node.ino numbers (let size = h.size in omega arith) absent (sym same))
        ∙ h.only number (IsAbsent-before node.rec number (Some node.ino) None numbers absent
        (IsOther-unused old 0 node.rec number numbers h.numbered (ap (λ s. option_and_then (λ slot. slot) (slice_get s node.rec)) seen ∙ free)));
  }

-- the number of a record finds a node of that record
pub own-at : (by_number : NodeMap) (first i key : ℕ) (numbers : List (Option ℕ)) (d : Option ℕ) → AreNumbered by_number first numbers
    → i < length numbers → get_or numbers i d ≡ Some key → FindsOwn by_number (first + i) (Some key)
own-at by_number first i key [] d h lt e = absurd (omega arith)
own-at by_number first zero key (number ∷ numbers) d h lt e =
    subst (λ rec. FindsOwn by_number rec (Some key)) (omega arith) (subst (λ n. FindsOwn by_number first n) e h.0)
own-at by_number first (suc i) key (number ∷ numbers) d h lt e =
    subst (λ rec. FindsOwn by_number rec (Some key)) (omega arith) (own-at by_number (suc first) i key numbers d h.1 (omega arith) e)

-- the node of a record is taken out, where the record has none
module _ (old : NodeMap) (numbers : List (Option ℕ)) (slots : List (Option Node)) (rec : ℕ) (h : IsNumbered old numbers)
    (seen : slots_of old numbers ≡ slots) where
  pub seen-none : slots_of old (set numbers rec None) ≡ set slots rec None
  seen-none = map-set (slot_of old) numbers rec None ∙ ap (λ s. set s rec None) seen

  numbered-none : AreNumbered old 0 (set numbers rec None)
  numbered-none = AreNumbered-set old 0 rec None numbers h.numbered tt

  pub IsNumbered-none : (d : Option ℕ) → get_or numbers rec d ≡ None → IsNumbered old (set numbers rec None)
  IsNumbered-none d none = record {
    size = length-set numbers rec None ∙ h.size;
    numbered = numbered-none;
    only = λ number absent. h.only number (IsAbsent-before rec number None d numbers absent (IsOther-none number (get_or numbers rec d) none));
  }

  -- and where it has one
  module _ (new : NodeMap) (key : ℕ) (d : Option ℕ) (lt : rec < 256) (at : get_or numbers rec d ≡ Some key) (renewed : IsRenewed old new key None) where
    pub IsAbsent-own : IsAbsent key (set numbers rec None)
    IsAbsent-own =
        let size = h.size in
        let own = some_of (get nat_eq old key) (λ node. (node.ino ≡ key) × (node.rec ≡ 0 + rec)) (own-at old 0 rec key numbers d h.numbered (omega arith) at) in
        IsAbsent-taken old 0 rec key own.0 numbers h.numbered own.1 own.2.1

    pub seen-taken : slots_of new (set numbers rec None) ≡ set slots rec None
    seen-taken = slots_of-same old new key None (set numbers rec None) renewed IsAbsent-own ∙ seen-none

    pub IsNumbered-taken : IsNumbered new (set numbers rec None)
    IsNumbered-taken = record {
      size = length-set numbers rec None ∙ h.size;
      numbered = AreNumbered-same old new 0 key None (set numbers rec None) renewed IsAbsent-own numbered-none;
      only = λ number absent. elim (cases_Bool (nat_eq key number)) [
        | inl t ↦ renewed number ∙ cond-true (nat_eq key number) None (get nat_eq old number) t
        | inr f ↦ renewed number ∙ cond-false (nat_eq key number) None (get nat_eq old number) f
            ∙ h.only number (IsAbsent-before rec number None d numbers absent
            (IsOther-some number key (get_or numbers rec d) at (λ same. let hit = eq-eqb key number (sym same) in cc)))
      ];
    }

-- the node of a number is the one that the map finds
node_of-numbered : (by_number : NodeMap) (first key : ℕ) (numbers : List (Option ℕ)) → AreNumbered by_number first numbers
    → (node_of (nodes_of (slots_of by_number numbers)) key ≡ get nat_eq by_number key)
    ⊎ (IsAbsent key numbers × (node_of (nodes_of (slots_of by_number numbers)) key ≡ None))
node_of-numbered by_number first key [] h = inr (tt, refl)
node_of-numbered by_number first key (None ∷ numbers) h = node_of-numbered by_number (suc first) key numbers h.1
node_of-numbered by_number first key (Some number ∷ numbers) h =
    let own = some_of (get nat_eq by_number number) (λ node. (node.ino ≡ number) × (node.rec ≡ first)) h.0 in
    let others = node_of (nodes_of (slots_of by_number numbers)) key in
    let shape : node_of (nodes_of (slots_of by_number (Some number ∷ numbers))) key ≡ cond (nat_eq own.0.ino key) (Some own.0) others =
    ap (λ slot. node_of (nodes_of (slot ∷ slots_of by_number numbers)) key) own.1 in
    elim (cases_Bool (nat_eq own.0.ino key)) [
      | inl t ↦ inl (shape ∙ cond-true (nat_eq own.0.ino key) (Some own.0) others t ∙ sym own.1
          ∙ ap (λ k. get nat_eq by_number k) (sym own.2.0 ∙ eqb-true own.0.ino key t))
      | inr f ↦
          let passed = shape ∙ cond-false (nat_eq own.0.ino key) (Some own.0) others f in
          elim (node_of-numbered by_number (suc first) key numbers h.1) [
            | inl e ↦ inl (passed ∙ e)
            | inr absent ↦ inr ((λ same. (let hit = eq-eqb own.0.ino key (own.2.0 ∙ sym same) in cc), absent.0), passed ∙ absent.1)
          ]
    ]

pub get-numbered : (by_number : NodeMap) (numbers : List (Option ℕ)) → IsNumbered by_number numbers → (key : ℕ)
    → get nat_eq by_number key ≡ node_of (nodes_of (slots_of by_number numbers)) key
get-numbered by_number numbers h key = elim (node_of-numbered by_number 0 key numbers h.numbered) [
  | inl e ↦ sym e
  | inr absent ↦ h.only key absent.0 ∙ sym absent.1
]

-- the number of the node of a record
pub number-at : (by_number : NodeMap) (first i : ℕ) (numbers : List (Option ℕ)) (node : Node) → AreNumbered by_number first numbers
    → option_and_then (λ slot. slot) (slice_get (slots_of by_number numbers) i) ≡ Some node
    → (get_or numbers i None ≡ Some node.ino) × (i < length numbers) × (get nat_eq by_number node.ino ≡ Some node)
number-at by_number first i [] node h e = absurd (cc)
number-at by_number first zero (None ∷ numbers) node h e = absurd (cc)
number-at by_number first zero (Some number ∷ numbers) node h e =
    let own = some_of (get nat_eq by_number number) (λ node. (node.ino ≡ number) × (node.rec ≡ first)) h.0 in
    let same : Some own.0 ≡ Some node = sym own.1 ∙ e in
    let one : own.0 ≡ node = cc in
    let numbered : number ≡ node.ino = sym own.2.0 ∙ ap (λ (n : Node). n.ino) one in
    (ap (λ n. Some n) numbered, omega arith, ap (λ n. get nat_eq by_number n) (sym numbered) ∙ e)
number-at by_number first (suc i) (number ∷ numbers) node h e =
    let deeper = number-at by_number (suc first) i numbers node h.1 e in
    (deeper.0, omega arith, deeper.2)

set-again : (numbers : List (Option ℕ)) (i : ℕ) (value d : Option ℕ) → get_or numbers i d ≡ value → i < length numbers
    → set (set numbers i None) i value ≡ numbers
set-again [] i value d e lt = absurd (omega arith)
set-again (number ∷ numbers) zero value d e lt = ap (λ n. n ∷ numbers) (sym e)
set-again (number ∷ numbers) (suc i) value d e lt = ap (λ ns. number ∷ ns) (set-again numbers i value d e (omega arith))

pub set-set : {X : Type 0} (xs : List X) (i : ℕ) (one other : X) → set (set xs i one) i other ≡ set xs i other
set-set [] i one other = refl
set-set (x ∷ xs) zero one other = refl
set-set (x ∷ xs) (suc i) one other = ap (λ ys. x ∷ ys) (set-set xs i one other)

-- a call that a fact rules out has not failed
pub ok_unless : {T E : Type 0} (P : Type 0) (result : Result T E) → OnErr result P → (P → ⊥) → IsOk result
ok_unless P (Ok value) h never = refl
ok_unless P (Err refusal) h never = absurd (never h)

pub on_ok : {T E : Type 0} (P : Type 0) (result : Result T E) (value : T) → result ≡ Ok value → OnOk result P → P
on_ok P result value e h = subst (λ r. OnOk r P) e h

pub if_ok : {T E : Type 0} (P : T → Type 0) (result : Result T E) (value : T) → result ≡ Ok value → IfOk result P → P value
if_ok P result value e h = subst (λ r. IfOk r P) e h

-- a node is put in place of the one of its record, which has its number
module _ (old new : NodeMap) (numbers : List (Option ℕ)) (slots : List (Option Node)) (node was : Node) (h : IsNumbered old numbers)
    (seen : slots_of old numbers ≡ slots) (stands : option_and_then (λ slot. slot) (slice_get slots node.rec) ≡ Some was)
    (same : was.ino ≡ node.ino) where
  replaced-at : (get_or numbers node.rec None ≡ Some was.ino) × (node.rec < length numbers) × (get nat_eq old was.ino ≡ Some was)
  replaced-at = number-at old 0 node.rec numbers was h.numbered
      (ap (λ s. option_and_then (λ slot. slot) (slice_get s node.rec)) seen ∙ stands)

  at : get_or numbers node.rec None ≡ Some node.ino
  at = replaced-at.0 ∙ ap (λ n. Some n) same

  pub replaced-found : get nat_eq old node.ino ≡ Some was
  replaced-found = ap (λ n. get nat_eq old n) (sym same) ∙ replaced-at.2

  absent : IsAbsent node.ino (set numbers node.rec None)
  absent =
      let size = h.size in
      let own = some_of (get nat_eq old node.ino) (λ n. (n.ino ≡ node.ino) × (n.rec ≡ 0 + node.rec)) (own-at old 0 node.rec node.ino numbers None h.numbered (replaced-at.1) at) in
      IsAbsent-taken old 0 node.rec node.ino own.0 numbers h.numbered own.1 own.2.1

  module _ (renewed : IsRenewed old new node.ino (Some node)) where
    pub seen-replaced : slots_of new numbers ≡ set slots node.rec (Some node)
    seen-replaced =
        ap (λ ns. slots_of new ns) (sym (set-again numbers node.rec (Some node.ino) None at replaced-at.1))
        ∙ map-set (slot_of new) (set numbers node.rec None) node.rec (Some node.ino)
        ∙ ap (λ slot. set (slots_of new (set numbers node.rec None)) node.rec slot) (get-own old new node.ino (Some node) renewed)
        ∙ ap (λ s. set s node.rec (Some node)) (slots_of-same old new node.ino (Some node) (set numbers node.rec None) renewed absent
        ∙ seen-none old numbers slots node.rec h seen)
        ∙ set-set slots node.rec None (Some node)

    pub IsNumbered-replaced : IsNumbered new numbers
    IsNumbered-replaced = record {
      size = h.size;
      numbered = subst (λ ns. AreNumbered new 0 ns) (set-again numbers node.rec (Some node.ino) None at replaced-at.1)
          (AreNumbered-set new 0 node.rec (Some node.ino) (set numbers node.rec None)
          (AreNumbered-same old new 0 node.ino (Some node) (set numbers node.rec None) renewed absent (AreNumbered-set old 0 node.rec None numbers h.numbered tt))
          (IsSomeAnd_from (get nat_eq new node.ino) node (λ n. (n.ino ≡ node.ino) × (n.rec ≡ 0 + node.rec)) (get-own old new node.ino (Some node) renewed) (refl, omega arith)));
      only = λ number gone.
          get-other old new node.ino (Some node) number renewed
          (λ e. IsAbsent-put_at node.rec number node.ino (set numbers node.rec None) (let size = length-set numbers node.rec None in let within = replaced-at.1 in omega arith)
          (subst (λ ns. IsAbsent number ns) (sym (set-again numbers node.rec (Some node.ino) None at replaced-at.1)) gone) (sym e))
          ∙ h.only number gone;
    }

pub list_any-slots_of : (by_number : NodeMap) (test : Option Node → Bool) (numbers : List (Option ℕ))
    → list_any (λ number. test (slot_of by_number number)) numbers ≡ list_any test (slots_of by_number numbers)
list_any-slots_of by_number test [] = refl
list_any-slots_of by_number test (number ∷ numbers) =
    ap (λ b. test (slot_of by_number number) || b) (list_any-slots_of by_number test numbers)
