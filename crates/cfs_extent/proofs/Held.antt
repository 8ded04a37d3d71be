-- The finite map of numbers and what stands beside them.
use Rattle.std.proofs.Common.{ℕ, zero, suc, add-one, ◌+◌, ◌≡◌, ◌≢◌, ◌<◌, arith, Bool, true, false, cond, ◌&&◌, nat_lt, T, List, [], ◌∷◌, ◌++◌, All, Contains, Option, Some, None, is_some, slice_get, drop, get_or, insert, length, map, min, remove, set, take, refl, sym, ap, ◌∙◌, subst}
use Rattle.std.specs.List.{zip}
use Rattle.std.specs.FinMap as finite
use Rattle.std.specs.FinMap.{nat_cmp-IsAntisymmetric, same_map, get-from_entries, get-insert, get-remove, get-from_sorted, entries-from_sorted}
use Rattle.std.specs.FinMap.Entries.{below_all, find, is_sorted}
use Rattle.std.specs.Ordering.{eq_by_cmp, is_lt, nat_cmp}
use Rattle.std.proofs.lemmas.Bool.{false≢true}
use Rattle.std.proofs.lemmas.Bool.Decides.{nat_tests}
use Rattle.std.proofs.lemmas.Cmp.{nat_cmp_total}
use Rattle.std.proofs.lemmas.List.{append-nil, drop_more, length-take, set_split, take-append-drop}
use Rattle.std.proofs.lemmas.List.Elements.{All-head, All-tail, All-take, All-weaker}
use Rattle.std.proofs.lemmas.Option.{get_or_from_slice_get, slice_get_within}
use Rattle.cfs_extent.specs.Runs.{RisesFrom, StandsAt}

abbrev pub tie : ℕ → ℕ → Bool
tie q k = eq_by_cmp nat_cmp q k

tie-same : (q k : ℕ) → tie q k ≡ true → q ≡ k
tie-same q k e = grind (arith, nat_tests)

pub tie-refl : (k : ℕ) → tie k k ≡ true
tie-refl k = grind (arith, nat_tests)

tie-other : (q k : ℕ) → q ≢ k → tie q k ≡ false
tie-other q k ne = grind (arith, nat_tests)

zip-append : {X : Type 0} (A B : List ℕ) (U V : List X) → length A ≡ length U →
    zip (A ++ B) (U ++ V) ≡ zip A U ++ zip B V
zip-append [] B [] V e = refl
zip-append [] B (u ∷ U) V e = absurd (omega arith)
zip-append (a ∷ A) B [] V e = absurd (omega arith)
zip-append (a ∷ A) B (u ∷ U) V e = ap (λ l. (a, u) ∷ l) (zip-append A B U V (omega arith))

-- what stands beside a number in a list of pairs
abbrev look : {X : Type 0} → ℕ → List (ℕ × X) → Option X
look q es = find nat_cmp q es

look-absent : {X : Type 0} (q : ℕ) (A : List ℕ) (U : List X) (L : List (ℕ × X)) →
    All (λ n. n ≢ q) A → look q (zip A U ++ L) ≡ look q L
look-absent q [] U L h = refl
look-absent q (a ∷ A) [] L h = refl
look-absent q (a ∷ A) (u ∷ U) L h =
    let ne : a ≢ q = All-head (λ n. n ≢ q) a A h in
    ap (λ b. cond b (Some u) (look q (zip A U ++ L))) (tie-other q a (λ e. ne (sym e)))
    ∙ look-absent q A U L (All-tail (λ n. n ≢ q) a A h)

-- a front makes no difference
look-front : {X : Type 0} (q : ℕ) (E L M : List (ℕ × X)) → look q L ≡ look q M →
    look q (E ++ L) ≡ look q (E ++ M)
look-front q [] L M e = e
look-front q (x ∷ E) L M e = ap (λ o. cond (tie q x.0) (Some x.1) o) (look-front q E L M e)

-- a pair joins
look-joined : {X : Type 0} (q k : ℕ) (v : X) (A : List ℕ) (U : List X) (L : List (ℕ × X)) →
    All (λ n. n ≢ k) A →
    look q (zip A U ++ (k, v) ∷ L) ≡ cond (tie q k) (Some v) (look q (zip A U ++ L))
look-joined q k v A U L absent = go (tie q k) refl
  where
    go : (b : Bool) → tie q k ≡ b →
        look q (zip A U ++ (k, v) ∷ L) ≡ cond b (Some v) (look q (zip A U ++ L))
    go true e =
        let same : q ≡ k = tie-same q k e in
        let P : ℕ → Type 0 = λ n. All (λ m. m ≢ n) A in
        look-absent q A U ((k, v) ∷ L) (subst P (sym same) absent)
        ∙ ap (λ b. cond b (Some v) (look q L)) e
    go false e = look-front q (zip A U) ((k, v) ∷ L) L (ap (λ b. cond b (Some v) (look q L)) e)

-- a pair changes
look-changed : {X : Type 0} (q k : ℕ) (v w : X) (A : List ℕ) (U : List X) (L : List (ℕ × X)) →
    All (λ n. n ≢ k) A →
    look q (zip A U ++ (k, w) ∷ L)
    ≡ cond (tie q k) (Some w) (look q (zip A U ++ (k, v) ∷ L))
look-changed q k v w A U L absent = go (tie q k) refl
  where
    go : (b : Bool) → tie q k ≡ b →
        look q (zip A U ++ (k, w) ∷ L) ≡ cond b (Some w) (look q (zip A U ++ (k, v) ∷ L))
    go true e = look-joined q k w A U L absent ∙ ap (λ b. cond b (Some w) (look q (zip A U ++ L))) e
    go false e =
        look-front q (zip A U) ((k, w) ∷ L) ((k, v) ∷ L)
        (ap (λ b. cond b (Some w) (look q L)) e ∙ sym (ap (λ b. cond b (Some v) (look q L)) e))

-- a pair goes
look-gone : {X : Type 0} (q k : ℕ) (v : X) (A B : List ℕ) (U V : List X) →
    All (λ n. n ≢ k) A → All (λ n. n ≢ k) B →
    look q (zip A U ++ zip B V) ≡ cond (tie q k) None (look q (zip A U ++ (k, v) ∷ zip B V))
look-gone q k v A B U V absent behind = go (tie q k) refl
  where
    nothing : look k (zip B V) ≡ None
    nothing =
        ap (look k) (sym (append-nil (zip B V))) ∙ look-absent k B V [] behind

    go : (b : Bool) → tie q k ≡ b →
        look q (zip A U ++ zip B V) ≡ cond b None (look q (zip A U ++ (k, v) ∷ zip B V))
    go true e =
        let same : q ≡ k = tie-same q k e in
        let P : ℕ → Type 0 = λ n. look n (zip A U ++ zip B V) ≡ None in
        subst P (sym same) (look-absent k A U (zip B V) absent ∙ nothing)
    go false e =
        look-front q (zip A U) (zip B V) ((k, v) ∷ zip B V)
        (sym (ap (λ b. cond b (Some v) (look q (zip B V))) e))

-- the map of numbers and what stands beside them
abbrev pub held : {X : Type 0} → List ℕ → List X → finite.FinMap nat_cmp X
held N V = finite.from_entries (zip N V)

get-held : {X : Type 0} (N : List ℕ) (V : List X) (q : ℕ) → finite.get (held N V) q ≡ look q (zip N V)
get-held N V q = get-from_entries nat_cmp_total (zip N V) q

above_apart : (k : ℕ) (N : List ℕ) → All (λ n. k < n) N → All (λ n. n ≢ k) N
above_apart k N h = All-weaker (λ n. k < n) (λ n. n ≢ k) (λ x lt e. absurd (omega arith)) N h

below_apart : (k : ℕ) (N : List ℕ) → All (λ n. n < k) N → All (λ n. n ≢ k) N
below_apart k N h = All-weaker (λ n. n < k) (λ n. n ≢ k) (λ x lt e. absurd (omega arith)) N h

-- a list round the element at an index
parted : {X : Type 0} (V : List X) (i : ℕ) (v : X) → slice_get V i ≡ Some v →
    V ≡ take i V ++ v ∷ drop (i + 1) V
parted V i v e =
    sym (take-append-drop i V)
    ∙ ap (λ l. take i V ++ l)
    (drop_more V i v (slice_get_within V i v e)
    ∙ ap (λ x. x ∷ drop (i + 1) V) (get_or_from_slice_get V i v v e))

pairs : {X : Type 0} (N : List ℕ) (V : List X) (i k : ℕ) (v : X) → length N ≡ length V →
    slice_get N i ≡ Some k → slice_get V i ≡ Some v →
    zip N V ≡ zip (take i N) (take i V) ++ (k, v) ∷ zip (drop (i + 1) N) (drop (i + 1) V)
pairs N V i k v len there is =
    ap (λ n. zip n V) (parted N i k there)
    ∙ ap (λ w. zip (take i N ++ k ∷ drop (i + 1) N) w) (parted V i v is)
    ∙ zip-append (take i N) (k ∷ drop (i + 1) N) (take i V) (v ∷ drop (i + 1) V)
    (length-take i N ∙ ap (min i) len ∙ sym (length-take i V))

pub get_absent : {X : Type 0} (N : List ℕ) (V : List X) (k : ℕ) → All (λ n. n ≢ k) N →
    finite.get (held N V) k ≡ None
get_absent N V k h =
    get-held N V k ∙ ap (look k) (sym (append-nil (zip N V))) ∙ look-absent k N V [] h

pub get_there : {X : Type 0} (N : List ℕ) (V : List X) (i k : ℕ) (v : X) → length N ≡ length V →
    StandsAt N i k → slice_get V i ≡ Some v → finite.get (held N V) k ≡ Some v
get_there N V i k v len at is =
    get-held N V k ∙ ap (look k) (pairs N V i k v len at.there is)
    ∙ look-absent k (take i N) (take i V) _ (below_apart k (take i N) at.below)
    ∙ ap (λ b. cond b (Some v) (look k (zip (drop (i + 1) N) (drop (i + 1) V)))) (tie-refl k)

pub held-set : {X : Type 0} (N : List ℕ) (V : List X) (i k : ℕ) (v w : X) → length N ≡ length V →
    StandsAt N i k → slice_get V i ≡ Some v → held N (set V i w) ≡ finite.insert (held N V) k w
held-set N V i k v w len at is =
    same_map nat_cmp_total nat_cmp-IsAntisymmetric _ _ (λ q.
    get-held N (set V i w) q
    ∙ ap (look q) written
    ∙ look-changed q k v w (take i N) (take i V) _ (below_apart k (take i N) at.below)
    ∙ sym (get-insert nat_cmp_total (held N V) k w q
    ∙ ap (cond (tie q k) (Some w)) (get-held N V q ∙ ap (look q) (pairs N V i k v len at.there is))))
  where
    written : zip N (set V i w)
        ≡ zip (take i N) (take i V) ++ (k, w) ∷ zip (drop (i + 1) N) (drop (i + 1) V)
    written =
        ap (λ n. zip n (set V i w)) (parted N i k at.there)
        ∙ ap (λ l. zip (take i N ++ k ∷ drop (i + 1) N) l)
        (set_split V i w (slice_get_within V i v is)
        ∙ ap (λ n. take i V ++ w ∷ drop n V) (sym (add-one i)))
        ∙ zip-append (take i N) (k ∷ drop (i + 1) N) (take i V) (w ∷ drop (i + 1) V)
        (length-take i N ∙ ap (min i) len ∙ sym (length-take i V))

pub held-insert : {X : Type 0} (N : List ℕ) (V : List X) (i k : ℕ) (w : X) → length N ≡ length V →
    All (λ n. n ≢ k) N →
    held (insert N i k) (insert V i w) ≡ finite.insert (held N V) k w
held-insert N V i k w len absent =
    same_map nat_cmp_total nat_cmp-IsAntisymmetric _ _ (λ q.
    get-held (insert N i k) (insert V i w) q
    ∙ ap (look q) (zip-append (take i N) (k ∷ drop i N) (take i V) (w ∷ drop i V) even)
    ∙ look-joined q k w (take i N) (take i V) _ (All-take (λ n. n ≢ k) i N absent)
    ∙ sym (get-insert nat_cmp_total (held N V) k w q
    ∙ ap (cond (tie q k) (Some w)) (get-held N V q ∙ ap (look q) whole)))
  where
    even : length (take i N) ≡ length (take i V)
    even = length-take i N ∙ ap (min i) len ∙ sym (length-take i V)

    whole : zip N V ≡ zip (take i N) (take i V) ++ zip (drop i N) (drop i V)
    whole =
        ap (λ n. zip n V) (sym (take-append-drop i N))
        ∙ ap (λ l. zip (take i N ++ drop i N) l) (sym (take-append-drop i V))
        ∙ zip-append (take i N) (drop i N) (take i V) (drop i V) even

pub held-remove : {X : Type 0} (N : List ℕ) (V : List X) (i k : ℕ) (v : X) → length N ≡ length V →
    StandsAt N i k → slice_get V i ≡ Some v →
    held (remove N i) (remove V i) ≡ finite.remove (held N V) k
held-remove N V i k v len at is =
    same_map nat_cmp_total nat_cmp-IsAntisymmetric _ _ (λ q.
    get-held (remove N i) (remove V i) q
    ∙ ap (look q) rest
    ∙ look-gone q k v (take i N) (drop (i + 1) N) (take i V) (drop (i + 1) V)
    (below_apart k (take i N) at.below) (above_apart k (drop (i + 1) N) at.above)
    ∙ sym (get-remove nat_cmp_total (held N V) k q
    ∙ ap (cond (tie q k) None) (get-held N V q ∙ ap (look q) (pairs N V i k v len at.there is))))
  where
    rest : zip (remove N i) (remove V i)
        ≡ zip (take i N) (take i V) ++ zip (drop (i + 1) N) (drop (i + 1) V)
    rest =
        ap (λ n. zip (take i N ++ drop n N) (take i V ++ drop n V)) (sym (add-one i))
        ∙ zip-append (take i N) (drop (i + 1) N) (take i V) (drop (i + 1) V)
        (length-take i N ∙ ap (min i) len ∙ sym (length-take i V))

has_look : {X : Type 0} (N : List ℕ) (V : List X) (P : ℕ → Type 0) (q : ℕ) → All P N →
    is_some (look q (zip N V)) ≡ true → P q
has_look [] V P q h e = absurd (false≢true e)
has_look (n ∷ N) [] P q h e = absurd (false≢true e)
has_look (n ∷ N) (v ∷ V) P q h e =
    elim (tie q n) as (λ b. tie q n ≡ b → is_some (cond b (Some v) (look q (zip N V))) ≡ true → P q) [
      | true ↦ λ t e. subst P (sym (tie-same q n t)) (All-head P n N h)
      | false ↦ λ t e. has_look N V P q (All-tail P n N h) e
    ] refl e

-- what holds of all numbers holds of every key
pub key_has : {X : Type 0} (N : List ℕ) (V : List X) (P : ℕ → Type 0) (q : ℕ) → All P N →
    finite.contains_key (held N V) q ≡ true → P q
key_has N V P q h e = has_look N V P q h (ap is_some (sym (get-held N V q)) ∙ e)

look_has : {X : Type 0} (N : List ℕ) (V : List X) (q i : ℕ) → length N ≡ length V →
    i < length N → get_or N i q ≡ q → is_some (look q (zip N V)) ≡ true
look_has [] V q i len lt e = absurd (omega arith)
look_has (n ∷ N) [] q i len lt e = absurd (omega arith)
look_has (n ∷ N) (v ∷ V) q zero len lt e =
    let P : ℕ → Type 0 = λ m. tie q m ≡ true in
    ap (λ b. is_some (cond b (Some v) (look q (zip N V)))) (subst P (sym e) (tie-refl q))
look_has (n ∷ N) (v ∷ V) q (suc i) len lt e =
    elim (tie q n) as (λ b. is_some (cond b (Some v) (look q (zip N V))) ≡ true) [
      | true ↦ refl
      | false ↦ look_has N V q i (omega arith) (omega arith) e
    ]

pub has_key : {X : Type 0} (N : List ℕ) (V : List X) (q : ℕ) → length N ≡ length V →
    Contains N q → finite.contains_key (held N V) q ≡ true
has_key N V q len h =
    ap is_some (get-held N V q) ∙ look_has N V q h.0 len h.1 h.2

both : (a b : Bool) → T a → T b → T (a && b)
both true b p q = q
both false b p q = p

less_test : (k n : ℕ) → k < n → T (is_lt (nat_cmp k n))
less_test k n lt = let e : nat_lt k n ≡ true = grind (arith, nat_tests) in rw e tt

second : {X : Type 0} (N : List ℕ) (V : List X) → length N ≡ length V → map (λ e. e.1) (zip N V) ≡ V
second [] [] e = refl
second [] (v ∷ V) e = absurd (omega arith)
second (n ∷ N) [] e = absurd (omega arith)
second (n ∷ N) (v ∷ V) e = ap (λ l. v ∷ l) (second N V (omega arith))

-- the numbers ascend, so the map keeps what stands beside them in its order
below_all-rises : {X : Type 0} (k f : ℕ) (N : List ℕ) (V : List X) → k < f → RisesFrom f N →
    T (below_all nat_cmp k (zip N V))
below_all-rises k f [] V lt h = tt
below_all-rises k f (n ∷ N) [] lt h = tt
below_all-rises k f (n ∷ N) (v ∷ V) lt h =
    let low = h.0 in
    both _ _ (less_test k n (omega arith)) (below_all-rises k (n + 1) N V (omega arith) h.1)

is_sorted-rises : {X : Type 0} (f : ℕ) (N : List ℕ) (V : List X) → RisesFrom f N →
    T (is_sorted nat_cmp (zip N V))
is_sorted-rises f [] V h = tt
is_sorted-rises f (n ∷ N) [] h = tt
is_sorted-rises f (n ∷ N) (v ∷ V) h =
    both _ _ (below_all-rises n (n + 1) N V (omega arith) h.1) (is_sorted-rises (n + 1) N V h.1)

pub values-held : {X : Type 0} (N : List ℕ) (V : List X) → length N ≡ length V → RisesFrom 0 N →
    finite.values (held N V) ≡ V
values-held N V len h =
    let sorted = is_sorted-rises 0 N V h in
    ap finite.values
    (same_map nat_cmp_total nat_cmp-IsAntisymmetric (held N V) (finite.from_sorted (zip N V))
    (λ q. get-held N V q ∙ sym (get-from_sorted nat_cmp (zip N V) q sorted)))
    ∙ ap (map (λ e. e.1)) (entries-from_sorted nat_cmp (zip N V) sorted)
    ∙ second N V len
