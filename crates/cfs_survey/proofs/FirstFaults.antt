-- The first check that fails, of lists that are put together.
use Rattle.std.proofs.Common.{◌≡◌, ℕ, ◌+◌, ◌<◌, suc, zero, List, length, get_or, take, drop, [], ◌∷◌, ◌++◌, true, false, Bool, refl, sym, ◌∙◌, ap, arith}
use Rattle.std.specs.Prelude.{Option, Some, None, if◌then◌else◌}
use Rattle.std.specs.List.{flat_map, range_with_len}
use Rattle.std.specs.Option.{option_or}
use Rattle.std.proofs.lemmas.Grind.{flat_map-append, take_at_read}
use Rattle.std.proofs.lemmas.List.{take-append-drop}
use Rattle.cfs_image.specs.Checks.{Check, Damage, damage_of}
use Rattle.cfs_survey.specs.Faults.{checks_from}

-- behind checks that hold comes what the others name
pub behind_sound : (xs ys : List Check) → damage_of xs ≡ None → damage_of (xs ++ ys) ≡ damage_of ys
behind_sound [] ys h = refl
behind_sound (x ∷ xs) ys h = split x.holds (behind_sound xs ys) h
  where
    split : (holds : Bool) → (damage_of xs ≡ None → damage_of (xs ++ ys) ≡ damage_of ys)
        → (if holds then damage_of xs else Some x.damage) ≡ None
        → (if holds then damage_of (xs ++ ys) else Some x.damage) ≡ damage_of ys
    split true deeper e = deeper e
    split false deeper e = absurd (cc)

-- what comes behind a check that fails is not named
pub before_others : (xs ys : List Check) (damage : Damage) → damage_of xs ≡ Some damage → damage_of (xs ++ ys) ≡ Some damage
before_others [] ys damage h = absurd (cc)
before_others (x ∷ xs) ys damage h = split x.holds (before_others xs ys damage) h
  where
    split : (holds : Bool) → (damage_of xs ≡ Some damage → damage_of (xs ++ ys) ≡ Some damage)
        → (if holds then damage_of xs else Some x.damage) ≡ Some damage
        → (if holds then damage_of (xs ++ ys) else Some x.damage) ≡ Some damage
    split true deeper e = deeper e
    split false deeper e = e

-- a range of numbers with one more, and a range around one of its numbers
pub range_more : (from n at : ℕ) → from + n ≡ at → range_with_len from (n + 1) ≡ range_with_len from n ++ at ∷ []
range_more from zero at e = ap (λ x. x ∷ []) (let same : from ≡ at = omega arith in same)
range_more from (suc n) at e =
    let longer : suc n + 1 ≡ suc (n + 1) = omega arith in
    ap (range_with_len from) longer ∙ ap (λ rest. from ∷ rest) (range_more (from + 1) n at (omega arith))

pub range_around : (from k n at : ℕ) → from + k ≡ at → k < n → (rest : List ℕ) × (range_with_len from n ≡ range_with_len from k ++ at ∷ rest)
range_around from k zero at e below = absurd (omega arith)
range_around from zero (suc n) at e below =
    let same : from ≡ at = omega arith in
    (range_with_len (from + 1) n, ap (λ x. x ∷ range_with_len (from + 1) n) same)
range_around from (suc k) (suc n) at e below =
    let deeper = range_around (from + 1) k n at (omega arith) (omega arith) in
    (deeper.0, ap (λ rest. from ∷ rest) deeper.1)

-- checks in two parts: those of the second count where the first part holds
pub damage_append : (xs ys : List Check) → damage_of (xs ++ ys) ≡ option_or (damage_of xs) (damage_of ys)
damage_append [] ys = refl
damage_append (x ∷ xs) ys = split x.holds (damage_append xs ys)
  where
    split : (holds : Bool) → damage_of (xs ++ ys) ≡ option_or (damage_of xs) (damage_of ys)
        → (if holds then damage_of (xs ++ ys) else Some x.damage) ≡ option_or (if holds then damage_of xs else Some x.damage) (damage_of ys)
    split true deeper = deeper
    split false deeper = refl

-- both parts hold where the whole does
pub sound_parts : (xs ys : List Check) → damage_of (xs ++ ys) ≡ None → (damage_of xs ≡ None) × (damage_of ys ≡ None)
sound_parts xs ys sound = split (damage_of xs) (damage_of ys) (sym (damage_append xs ys) ∙ sound)
  where
    split : (x y : Option Damage) → option_or x y ≡ None → (x ≡ None) × (y ≡ None)
    split None y e = (refl, e)
    split (Some d) y e = absurd (cc)

-- a check that names nothing holds
pub passed : (x : Check) → damage_of (x ∷ []) ≡ None → x.holds ≡ true
passed x h = split x.holds h
  where
    split : (holds : Bool) → (if holds then None else Some x.damage) ≡ None → holds ≡ true
    split true e = refl
    split false e = absurd (cc)

-- no number's checks fail where there is no number
pub none_yet : (each : ℕ → List Check) (from : ℕ) → damage_of (checks_from each from 0) ≡ None
unfolding checks_from
none_yet each from = refl

-- one more number whose checks hold
pub sound_more : (each : ℕ → List Check) (from n at : ℕ) → from + n ≡ at → damage_of (checks_from each from n) ≡ None
    → damage_of (each at) ≡ None → damage_of (checks_from each from (n + 1)) ≡ None
unfolding checks_from
sound_more each from n at e before here =
    ap (λ xs. damage_of (flat_map each xs)) (range_more from n at e)
    ∙ ap damage_of (flat_map-append each (range_with_len from n) (at ∷ []))
    ∙ behind_sound (flat_map each (range_with_len from n)) (each at ++ []) before
    ∙ behind_sound (each at) [] here

-- the first number whose checks fail
pub fails_at : (each : ℕ → List Check) (from k n at : ℕ) (damage : Damage) → from + k ≡ at → k < n
    → damage_of (checks_from each from k) ≡ None → damage_of (each at) ≡ Some damage
    → damage_of (checks_from each from n) ≡ Some damage
unfolding checks_from
fails_at each from k n at damage e below before here =
    let around = range_around from k n at e below in
    ap (λ xs. damage_of (flat_map each xs)) around.1
    ∙ ap damage_of (flat_map-append each (range_with_len from k) (at ∷ around.0))
    ∙ behind_sound (flat_map each (range_with_len from k)) (each at ++ flat_map each around.0) before
    ∙ before_others (each at) (flat_map each around.0) damage here

-- where the checks of all numbers hold, those of each do
pub holds_at : (each : ℕ → List Check) (from n k at : ℕ) → from + k ≡ at → k < n → damage_of (checks_from each from n) ≡ None → damage_of (each at) ≡ None
unfolding checks_from
holds_at each from n k at e below sound =
    let around = range_around from k n at e below in
    let whole : damage_of (flat_map each (range_with_len from k) ++ (each at ++ flat_map each around.0)) ≡ None =
    sym (ap (λ xs. damage_of (flat_map each xs)) around.1 ∙ ap damage_of (flat_map-append each (range_with_len from k) (at ∷ around.0))) ∙ sound in
    (sound_parts (each at) (flat_map each around.0) (sound_parts (flat_map each (range_with_len from k)) (each at ++ flat_map each around.0) whole).1).0

-- the same over the members of a list
pub sound_taken : {A : Type 0} (each : A → List Check) (xs : List A) (i : ℕ) (d : A) → i < length xs → damage_of (flat_map each (take i xs)) ≡ None
    → damage_of (each (get_or xs i d)) ≡ None → damage_of (flat_map each (take (i + 1) xs)) ≡ None
sound_taken each xs i d below before here =
    ap (λ ys. damage_of (flat_map each ys)) (take_at_read xs i d below).1
    ∙ ap damage_of (flat_map-append each (take i xs) (get_or xs i d ∷ []))
    ∙ behind_sound (flat_map each (take i xs)) (each (get_or xs i d) ++ []) before
    ∙ behind_sound (each (get_or xs i d)) [] here

pub fails_taken : {A : Type 0} (each : A → List Check) (xs : List A) (i : ℕ) (d : A) (damage : Damage) → i < length xs
    → damage_of (flat_map each (take i xs)) ≡ None → damage_of (each (get_or xs i d)) ≡ Some damage → damage_of (flat_map each xs) ≡ Some damage
fails_taken each xs i d damage below before here =
    ap (λ ys. damage_of (flat_map each ys)) (sym (take-append-drop (i + 1) xs) ∙ ap (λ ys. ys ++ drop (i + 1) xs) (take_at_read xs i d below).1)
    ∙ ap damage_of (flat_map-append each (take i xs ++ get_or xs i d ∷ []) (drop (i + 1) xs))
    ∙ before_others (flat_map each (take i xs ++ get_or xs i d ∷ [])) (flat_map each (drop (i + 1) xs)) damage
    (ap damage_of (flat_map-append each (take i xs) (get_or xs i d ∷ []))
    ∙ behind_sound (flat_map each (take i xs)) (each (get_or xs i d) ++ []) before
    ∙ before_others (each (get_or xs i d)) [] damage here)

pub ruleset first_faults = (damage_append, none_yet)
