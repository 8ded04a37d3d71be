-- What stands at the numbers of a queue.
use Rattle.std.proofs.Common.{ℕ, zero, suc, ◌+◌, ◌<◌, ◌≤◌, ◌≡◌, ◌∙◌, true, false, cond, Option, Some, None, List, [], ◌∷◌, ◌++◌, length, map, refl, sym, ap, arith, get_or}
use Rattle.std.proofs.Math.ListN.{set}
use Rattle.std.specs.List.{count_by, position, position_from, refill}
use Rattle.std.proofs.lemmas.List.{get_or-map, length-map, length-set, map-set}
use Rattle.std.proofs.lemmas.List.Quantifiers.{position-Some}
use Rattle.std.proofs.lemmas.Iterator.Adapters.{position_from-zero}
use Rattle.cfs_vec.proofs.CellLemmas.{refilled}
use Rattle.std.proofs.lemmas.List.Sums.{sum_by-cons}
use Rattle.cfs_queue.specs.Queue.{Held, free, out, is_free, free_in, places_in}
use Rattle.cfs_queue.specs.Taking.{TakesFirst, TakesMany, took_none, took_one}

none_step : {X : Type 0} (one : Held X) (i : ℕ) (o : Option ℕ) (held : List (Held X)) → cond (is_free one) (Some i) o ≡ None → (o ≡ None → free_in held ≡ [])
    → free_in (one ∷ held) ≡ []
none_step (free x) i o held e rest = cc
none_step (out place) i o held e rest = rest e

-- where no place passes, no slot is free
pub none_free : {A X : Type 0} (f : A → Held X) (i : ℕ) (rows : List A) → position_from (λ a. is_free (f a)) i rows ≡ None → free_in (map f rows) ≡ []
none_free f i [] e = refl
none_free f i (a ∷ rows) e = none_step (f a) i _ (map f rows) e (none_free f (i + 1) rows)

count_step : {X : Type 0} (one : Held X) (held : List (Held X)) → cond (is_free one) 1 0 + length (free_in held) ≡ length (free_in (one ∷ held))
count_step (free x) held = omega arith
count_step (out place) held = omega arith

pub count_is : {A X : Type 0} (f : A → Held X) (rows : List A) → count_by (λ a. is_free (f a)) rows ≡ length (free_in (map f rows))
count_is f [] = refl
count_is f (a ∷ rows) =
    sum_by-cons (λ b. cond (is_free (f b)) 1 0) a rows ∙ ap (λ n. cond (is_free (f a)) 1 0 + n) (count_is f rows) ∙ count_step (f a) (map f rows)

-- the first free slot is taken
pub free_at : {X : Type 0} (held : List (Held X)) (i : ℕ) (x : X) → i < length held → get_or held i (out 0) ≡ free x
    → ((k : ℕ) → k < i → is_free (get_or held k (out 0)) ≡ false) → free_in held ≡ x ∷ free_in (set held i (out 0))
free_at [] i x l is none = absurd (omega arith)
free_at (free y ∷ held) zero x l is none = let same : y ≡ x = cc in ap (λ z. z ∷ free_in held) same
free_at (out place ∷ held) zero x l is none = cc
free_at (free y ∷ held) (suc i) x l is none = let e : true ≡ false = none 0 (omega arith) in cc
free_at (out place ∷ held) (suc i) x l is none = free_at held i x (omega arith) is (λ k below. none (suc k) (omega arith))

-- the places

pub places_append : {X : Type 0} (a b : List (Held X)) → places_in (a ++ b) ≡ places_in a ++ places_in b
places_append [] b = refl
places_append (free x ∷ a) b = places_append a b
places_append (out place ∷ a) b = ap (λ l. place ∷ l) (places_append a b)

pub places_few : {X : Type 0} (held : List (Held X)) → length (places_in held) ≤ length held
places_few [] = omega arith
places_few (free x ∷ held) = omega (arith, places_few held)
places_few (out place ∷ held) = omega (arith, places_few held)

pub places_all : {X : Type 0} (held : List (Held X)) → free_in held ≡ [] → length (places_in held) ≡ length held
places_all [] e = refl
places_all (free x ∷ held) e = cc
places_all (out place ∷ held) e = ap (λ n. suc n) (places_all held e)

-- one more slot is taken
pub took_more : {X : Type 0} {old mid new : List (Held X)} {slots : List X} {slot : X} → TakesMany old slots mid → TakesFirst mid slot new → TakesMany old (slots ++ slot ∷ []) new
took_more took_none next = took_one next took_none
took_more (took_one first rest) next = took_one first (took_more rest next)

pub took_first : {X : Type 0} {old new : List (Held X)} {slots : List X} → TakesMany old slots new → free_in old ≡ slots ++ free_in new
took_first took_none = refl
took_first (took_one {slot = slot} first rest) = first.first ∙ ap (λ l. slot ∷ l) (took_first rest)

-- The rows of a queue, each seen by f.

pub none_found : {A X : Type 0} (f : A → Held X) (rows : List A) → position (λ a. is_free (f a)) rows ≡ None → free_in (map f rows) ≡ []
none_found f rows e = none_free f 0 rows (sym (position_from-zero (λ a. is_free (f a)) rows) ∙ e)

-- what stands at the place that was found
pub found_free : {A X : Type 0} (f : A → Held X) (rows : List A) (i : ℕ) (a : A) → position (λ b. is_free (f b)) rows ≡ Some i → a ≡ get_or rows i a
    → is_free (f a) ≡ true
found_free f rows i a e is = ap (λ b. is_free (f b)) is ∙ (position-Some (λ b. is_free (f b)) rows i a e).1

-- the slot that was found is taken, and b stands in its place
pub taken_at : {A X : Type 0} (f : A → Held X) (rows lent : List A) (i : ℕ) (a b : A) (x : X) → lent ≡ rows → position (λ c. is_free (f c)) rows ≡ Some i → a ≡ get_or lent i a
    → f a ≡ free x → f b ≡ out 0 → TakesFirst (map f rows) x (map f (refill (length rows) rows (set lent i b)))
taken_at {A} {X} f rows lent i a b x same e is was now =
    let at = position-Some (λ c. is_free (f c)) rows i a e in
    let written : refill (length rows) rows (set lent i b) ≡ set rows i b =
    ap (λ (l : List A). refill (length rows) rows (set l i b)) same ∙ refilled rows (set rows i b) (length-set rows i b) in
    let after : map f (refill (length rows) rows (set lent i b)) ≡ set (map f rows) i (out 0) =
    ap (λ l. map f l) written ∙ map-set f rows i b ∙ ap (λ o. set (map f rows) i o) now in
    let size : length (map f rows) ≡ length rows = length-map rows f in
    let within : i < length (map f rows) = omega (arith, at.0, size) in
    let there : get_or (map f rows) i (out 0) ≡ free x =
    get_or-map f rows i a (out 0) at.0 ∙ ap (λ c. f c) (ap (λ (l : List A). get_or l i a) (sym same) ∙ sym is) ∙ was in
    record {
      number = i;
      within = within;
      there = there;
      first = free_at (map f rows) i x within there
          (λ k below. ap (λ h. is_free h) (get_or-map f rows k a (out 0) (omega (arith, at.0, below))) ∙ at.2 k below)
          ∙ ap (λ h. x ∷ free_in h) (sym after);
      after = after;
    }

-- another stands at a place
pub put_at : {A X : Type 0} (f : A → Held X) (rows lent : List A) (i : ℕ) (b : A) → lent ≡ rows → map f (refill (length rows) rows (set lent i b)) ≡ set (map f rows) i (f b)
put_at {A} f rows lent i b same =
    ap (λ l. map f l) (ap (λ (l : List A). refill (length rows) rows (set l i b)) same ∙ refilled rows (set rows i b) (length-set rows i b)) ∙ map-set f rows i b

-- slots that are all free
pub free_map : {A X : Type 0} (f : A → X) (slots : List A) → map (λ a. free (f a)) slots ≡ map (λ x. free x) (map f slots)
free_map f [] = refl
free_map f (a ∷ slots) = ap (λ l. free (f a) ∷ l) (free_map f slots)
