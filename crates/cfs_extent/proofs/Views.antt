-- What a map is seen as, after its lists have changed.
use Rattle.std.proofs.Common.{ℕ, ◌+◌, ◌-◌, ◌≡◌, ◌≢◌, ◌<◌, ◌≤◌, ◌⊎◌, arith, Bool, true, false, cond, List, All, Contains, Option, Some, None, IfNone, IfSome, OnSome, is_some, get_or, insert, length, min, remove, set, take, inl, inr, refl, sym, ap, ◌∙◌}
use Rattle.std.specs.FinMap as finite
use Rattle.std.specs.FinMap.{get-insert}
use Rattle.std.proofs.lemmas.Cmp.{nat_cmp_total}
use Rattle.std.specs.Option.{option_and_then}
use Rattle.std.proofs.lemmas.Bool.{cases_lt, false≢true}
use Rattle.std.proofs.lemmas.List.{get_or-take, get_or_default, length-set, length-take, set-get_or}
use Rattle.std.proofs.lemmas.List.Edits.{length-insert, length-remove}
use Rattle.std.proofs.lemmas.Option.{get_or_from_slice_get, slice_get_read, slice_get_within}
use Rattle.cfs_extent.specs.Extents.{Extents, IsNextFrom, block_at, extents_of}
use Rattle.cfs_extent.specs.Runs.{IsLowest, StandsAt}
use Rattle.cfs_extent.proofs.Held.{get_absent, get_there, tie-refl, has_key, key_has, held-insert, held-remove, held-set}

-- a file block that the map has not is not among its numbers
pub absent_number : {B : Type 0} (N : List ℕ) (V : List (Option B)) (room k : ℕ) →
    length N ≡ length V → finite.get (extents_of N V room).held k ≡ None → All (λ n. n ≢ k) N
absent_number N V room k len none i d lt e =
    absurd (false≢true
    (ap is_some (sym none)
    ∙ has_key N V k len (i, lt, get_or_default N i k d lt ∙ e)))

pub put_view : {B : Type 0} (N : List ℕ) (V : List (Option B)) (room i k : ℕ) (block : Option B) →
    length N ≡ length V → i ≤ length N → All (λ n. n ≢ k) N →
    extents_of (insert N i k) (insert V i block) room
    ≡ record {
      held = finite.insert (extents_of N V room).held k block;
      spare = (extents_of N V room).spare - 1;
    }
put_view N V room i k block len le absent =
    let e = held-insert N V i k block len absent in
    let s : room - length (insert V i block) ≡ room - length V - 1 =
    omega (arith, length-insert V i block (let l : i ≤ length V = omega arith in l)) in
    λ j. record { held = e j; spare = s j }

pub set_view : {B : Type 0} (N : List ℕ) (V : List (Option B)) (room i k : ℕ) (v w : Option B) →
    length N ≡ length V → StandsAt N i k → v ≡ get_or V i v →
    extents_of N (set V i w) room
    ≡ record {
      held = finite.insert (extents_of N V room).held k w;
      spare = (extents_of N V room).spare;
    }
set_view N V room i k v w len at is =
    let lt = slice_get_within N i k at.there in
    let e = held-set N V i k v w len at (slice_get_read V (length N) i v len lt is) in
    let s : room - length (set V i w) ≡ room - length V = ap (λ n. room - n) (length-set V i w) in
    λ j. record { held = e j; spare = s j }

pub remove_view : {B : Type 0} (N : List ℕ) (V : List (Option B)) (room i k : ℕ) (v : Option B) →
    length N ≡ length V → StandsAt N i k → v ≡ get_or V i v → length V ≤ room →
    extents_of (remove N i) (remove V i) room
    ≡ record {
      held = finite.remove (extents_of N V room).held k;
      spare = (extents_of N V room).spare + 1;
    }
remove_view N V room i k v len at is le =
    let lt = slice_get_within N i k at.there in
    let e = held-remove N V i k v len at (slice_get_read V (length N) i v len lt is) in
    let s : room - length (remove V i) ≡ room - length V + 1 =
    omega (arith, length-remove V i (omega arith)) in
    λ j. record { held = e j; spare = s j }

pub get_view : {B : Type 0} (N : List ℕ) (V : List (Option B)) (room i k : ℕ) (v : Option B) →
    length N ≡ length V → StandsAt N i k → v ≡ get_or V i v →
    finite.get (extents_of N V room).held k ≡ Some v
get_view N V room i k v len at is =
    let lt = slice_get_within N i k at.there in
    get_there N V i k v len at (slice_get_read V (length N) i v len lt is)

pub block_view : {B : Type 0} (N : List ℕ) (V : List (Option B)) (room i k : ℕ) (v : Option B) →
    length N ≡ length V → StandsAt N i k → v ≡ get_or V i v →
    block_at (extents_of N V room).held k ≡ v
block_view N V room i k v len at is =
    ap (option_and_then (λ block. block)) (get_view N V room i k v len at is)

pub block_absent : {B : Type 0} (N : List ℕ) (V : List (Option B)) (room k : ℕ) →
    All (λ n. n ≢ k) N → block_at (extents_of N V room).held k ≡ None
block_absent N V room k h = ap (option_and_then (λ block. block)) (get_absent N V k h)

-- an element that is written over by what stood there
pub set_same : {X : Type 0} (V : List X) (i : ℕ) (v : X) → v ≡ get_or V i v → set V i v ≡ V
set_same V i v is = ap (set V i) is ∙ set-get_or V i v

pub same_view : {B : Type 0} {N N' : List ℕ} {V V' : List (Option B)} {room room' : ℕ} → N' ≡ N →
    V' ≡ V → room' ≡ room → extents_of N' V' room' ≡ extents_of N V room
same_view n v r i = extents_of (n i) (v i) (r i)

pub min_same : (a a' b b' : ℕ) → a' ≡ a → b' ≡ b → min a' b' ≡ min a b
min_same a a' b b' e f i = min (e i) (f i)

not_true : (b : Bool) → (b ≡ true → ⊥) → b ≡ false
not_true true h = absurd (h refl)
not_true false h = refl

-- a number stands at one index
before_itself : (N : List ℕ) (i j k : ℕ) → StandsAt N i k → StandsAt N j k → i < j → ⊥
before_itself N i j k a b lt =
    let within : i < length N = slice_get_within N i k a.there in
    let here : get_or (take j N) i k ≡ k =
    get_or-take j N i k lt ∙ get_or_from_slice_get N i k k a.there in
    let less : get_or (take j N) i k < k = b.below i k (omega (arith, length-take j N)) in
    omega arith

pub one_place : (N : List ℕ) (i j k : ℕ) → StandsAt N i k → StandsAt N j k → i ≡ j
one_place N i j k a b =
    elim (cases_lt i j) [
      | inl lt ↦ absurd (before_itself N i j k a b lt)
      | inr ge ↦ elim (cases_lt j i) [
        | inl lt ↦ absurd (before_itself N j i k b a lt)
        | inr le ↦ omega arith
      ]
    ]

pub Contains-place : (N : List ℕ) (i k : ℕ) → StandsAt N i k → Contains N k
Contains-place N i k h = (i, slice_get_within N i k h.there, get_or_from_slice_get N i k k h.there)

-- the lowest number from another on is the lowest key from there on
pub next_is : {B : Type 0} (N : List ℕ) (V : List (Option B)) (room k next : ℕ) →
    length N ≡ length V → IsLowest N k next → IsNextFrom (extents_of N V room).held k next
next_is N V room k next len h = record {
  from = h.from;
  mapped = has_key N V next len h.there;
  lowest = λ q from below. not_true _ (λ has.
      elim (key_has N V (λ n. (n < k) ⊎ (next ≤ n)) q h.lowest has) [
        | inl lt ↦ absurd (omega arith)
        | inr le ↦ absurd (omega arith)
      ]);
}

pub none_from : {B : Type 0} (N : List ℕ) (V : List (Option B)) (room k : ℕ) →
    All (λ n. n < k) N → (q : ℕ) → k ≤ q →
    finite.contains_key (extents_of N V room).held q ≡ false
none_from N V room k h q le =
    not_true _ (λ has. let lt = key_has N V (λ n. n < k) q h has in absurd (omega arith))

pub on_some : {X : Type 0} (o : Option X) {P : Type 0} → P → OnSome o P
on_some None p = tt
on_some (Some x) p = p

pub if_none : {X : Type 0} (o : Option X) {P Q : Type 0} → IfNone o P → (P → Q) → IfNone o Q
if_none None p f = f p
if_none (Some x) p f = tt

pub none_of : {X : Type 0} (o : Option X) → is_some o ≡ false → o ≡ None
none_of None e = refl
none_of (Some x) e = absurd (false≢true (sym e))

-- whether a number was found is whether the map has it as a key
pub found_key : {B : Type 0} (N : List ℕ) (V : List (Option B)) (room k : ℕ) (o : Option ℕ) →
    length N ≡ length V → IfSome o (λ i. StandsAt N i k) → IfNone o (All (λ n. n ≢ k) N) →
    is_some o ≡ finite.contains_key (extents_of N V room).held k
found_key N V room k None len there absent = ap is_some (sym (get_absent N V k absent))
found_key N V room k (Some i) len there absent =
    sym (has_key N V k len (Contains-place N i k there))

is_out : {B : Type 0} (o : Option (Option B)) → None ≡ option_and_then (λ block. block) o →
    is_some o ≡ true → o ≡ Some None
is_out None e some = absurd (false≢true some)
is_out (Some None) e some = refl
is_out (Some (Some b)) e some = absurd (cc)

-- what `lend` leaves is out where it is mapped
pub out_after : {B : Type 0} (m n : Extents B) (k : ℕ) (o : Option B) → o ≡ block_at m.held k →
    OnSome o (n ≡ record { held = finite.insert m.held k None; spare = m.spare }) →
    IfNone o (n ≡ m) → finite.contains_key n.held k ≡ true → finite.get n.held k ≡ Some None
out_after m n k None e lent same has =
    is_out (finite.get n.held k) (e ∙ ap (λ x. block_at x.held k) (sym same)) has
out_after m n k (Some b) e lent same has =
    ap (λ x. finite.get x.held k) lent ∙ get-insert nat_cmp_total m.held k None k
    ∙ ap (λ t. cond t (Some None) (finite.get m.held k)) (tie-refl k)
