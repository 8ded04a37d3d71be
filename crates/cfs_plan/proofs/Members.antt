-- Members of lists that are made of others.
use Rattle.std.proofs.Common.{◌≡◌, ◌⊎◌, inl, inr, ℕ, suc, zero, ◌+◌, ◌<◌, ◌≤◌, Bool, true, false}
use Rattle.std.proofs.Common.{Option, Some, None, List, [], ◌∷◌, map, cond, arith, refl, sym, ap}
use Rattle.std.proofs.Common.{◌∙◌}
use Rattle.std.specs.Prelude.{filter, find, ◌||◌}
use Rattle.std.specs.List.{cons_option, filter_map, list_any, range_with_len}
use Rattle.std.proofs.lemmas.Bool.{cases_lt}
use Rattle.cfs_medium.proofs.Has.{Has}

-- ---- mapped lists

pub has-map : {X Y : Type 0} (f : X → Y) (xs : List X) (x : X) → Has xs x → Has (map f xs) (f x)
has-map f [] x h = absurd h
has-map f (y ∷ ys) x h = elim h [
  | inl same ↦ inl (ap f same)
  | inr more ↦ inr (has-map f ys x more)
]

pub map-has : {X Y : Type 0} (f : X → Y) (xs : List X) (y : Y) → Has (map f xs) y →
    (x : X) × (Has xs x × (y ≡ f x))
map-has f [] y h = absurd h
map-has f (x ∷ xs) y h = elim h [
  | inl same ↦ (x, (inl refl, same))
  | inr more ↦ let deeper = map-has f xs y more in (deeper.0, (inr deeper.1.0, deeper.1.1))
]

-- ---- lists with one more, if it is one

pub option-has : {X : Type 0} (o : Option X) (xs : List X) (x : X) → Has (cons_option o xs) x →
    (o ≡ Some x) ⊎ Has xs x
option-has None xs x h = inr h
option-has (Some first) xs x h = elim h [
  | inl same ↦ inl (ap Some (sym same))
  | inr more ↦ inr more
]

pub has-here : {X : Type 0} (o : Option X) (xs : List X) (x : X) → o ≡ Some x →
    Has (cons_option o xs) x
has-here None xs x h = absurd (cc)
has-here (Some first) xs x h = inl (cc)

pub has-behind : {X : Type 0} (o : Option X) (xs : List X) (x : X) → Has xs x →
    Has (cons_option o xs) x
has-behind None xs x h = h
has-behind (Some first) xs x h = inr h

pub filter_map-has : {X Y : Type 0} (f : X → Option Y) (xs : List X) (y : Y) →
    Has (filter_map f xs) y → (x : X) × (Has xs x × (f x ≡ Some y))
filter_map-has f [] y h = absurd h
filter_map-has f (x ∷ xs) y h = elim (option-has (f x) (filter_map f xs) y h) [
  | inl here ↦ (x, (inl refl, here))
  | inr more ↦
      let deeper = filter_map-has f xs y more in (deeper.0, (inr deeper.1.0, deeper.1.1))
]

pub has-filter_map : {X Y : Type 0} (f : X → Option Y) (xs : List X) (x : X) (y : Y) →
    Has xs x → f x ≡ Some y → Has (filter_map f xs) y
has-filter_map f [] x y h is = absurd h
has-filter_map f (z ∷ zs) x y h is = elim h [
  | inl same ↦ has-here (f z) (filter_map f zs) y (ap f (sym same) ∙ is)
  | inr more ↦ has-behind (f z) (filter_map f zs) y (has-filter_map f zs x y more is)
]

-- ---- ranges

pub range-has : (a n at : ℕ) → Has (range_with_len a n) at → (a ≤ at) × (at < a + n)
range-has a zero at h = absurd h
range-has a (suc n) at h = elim h [
  | inl same ↦ (omega (arith, same), omega (arith, same))
  | inr more ↦
      let deeper = range-has (a + 1) n at more in
      (omega (arith, deeper.0), omega (arith, deeper.1))
]

pub has-range : (a n at : ℕ) → a ≤ at → at < a + n → Has (range_with_len a n) at
has-range a zero at low high = absurd (omega arith)
has-range a (suc n) at low high = elim (cases_lt a at) [
  | inl above ↦ inr (has-range (a + 1) n at (omega arith) (omega arith))
  | inr here ↦ inl (omega arith)
]

pub filter-has : {X : Type 0} (p : X → Bool) (xs : List X) (x : X) → Has (filter p xs) x →
    Has xs x × (p x ≡ true)
filter-has p [] x h = absurd h
filter-has {X} p (y ∷ ys) x h = split (p y) refl (filter-has p ys x) h
  where
    split : (b : Bool) → p y ≡ b → (Has (filter p ys) x → Has ys x × (p x ≡ true)) →
        Has (cond b (y ∷ filter p ys) (filter p ys)) x → Has (y ∷ ys) x × (p x ≡ true)
    split true is deeper h = elim h [
      | inl same ↦ (inl same, ap p same ∙ is)
      | inr more ↦ let d = deeper more in (inr d.0, d.1)
    ]
    split false is deeper h = let d = deeper h in (inr d.0, d.1)

pub has-filter : {X : Type 0} (p : X → Bool) (xs : List X) (x : X) → Has xs x → p x ≡ true →
    Has (filter p xs) x
has-filter p [] x h is = absurd h
has-filter {X} p (y ∷ ys) x h is = split (p y) refl (λ more. has-filter p ys x more is) h
  where
    split : (b : Bool) → p y ≡ b → (Has ys x → Has (filter p ys) x) → Has (y ∷ ys) x →
        Has (cond b (y ∷ filter p ys) (filter p ys)) x
    split true here deeper h = elim h [
      | inl same ↦ inl same
      | inr more ↦ inr (deeper more)
    ]
    split false here deeper h = elim h [
      | inl same ↦ let clash = sym is ∙ ap p same ∙ here in absurd (cc)
      | inr more ↦ deeper more
    ]

-- ---- tests

pub has-any : {X : Type 0} (p : X → Bool) (xs : List X) (x : X) → Has xs x → p x ≡ true →
    list_any p xs ≡ true
has-any p [] x h is = absurd h
has-any {X} p (y ∷ ys) x h is = elim h [
  | inl same ↦ ap (λ b. b || list_any p ys) (ap p (sym same) ∙ is)
  | inr more ↦ split (p y) (has-any p ys x more is)
]
  where
    split : (b : Bool) → list_any p ys ≡ true → (b || list_any p ys) ≡ true
    split true deeper = refl
    split false deeper = deeper

pub any-has : {X : Type 0} (p : X → Bool) (xs : List X) → list_any p xs ≡ true →
    (x : X) × (Has xs x × (p x ≡ true))
any-has p [] h = absurd (cc)
any-has {X} p (y ∷ ys) h = split (p y) refl h (any-has p ys)
  where
    split : (b : Bool) → p y ≡ b → (b || list_any p ys) ≡ true →
        (list_any p ys ≡ true → (x : X) × (Has ys x × (p x ≡ true))) →
        (x : X) × (Has (y ∷ ys) x × (p x ≡ true))
    split true is h deeper = (y, (inl refl, is))
    split false is h deeper = let d = deeper h in (d.0, (inr d.1.0, d.1.1))

pub find-has : {X : Type 0} (p : X → Bool) (xs : List X) (x : X) → find p xs ≡ Some x →
    Has xs x × (p x ≡ true)
find-has p [] x h = absurd (cc)
find-has {X} p (y ∷ ys) x h = split (p y) refl h (find-has p ys x)
  where
    split : (b : Bool) → p y ≡ b → cond b (Some y) (find p ys) ≡ Some x →
        (find p ys ≡ Some x → Has ys x × (p x ≡ true)) → Has (y ∷ ys) x × (p x ≡ true)
    split true is h deeper =
        let same : x ≡ y = cc in (inl same, ap p same ∙ is)
    split false is h deeper = let d = deeper h in (inr d.0, d.1)

pub has-find : {X : Type 0} (p : X → Bool) (xs : List X) (x : X) → Has xs x → p x ≡ true →
    (y : X) × (find p xs ≡ Some y)
has-find p [] x h is = absurd h
has-find {X} p (y ∷ ys) x h is = split (p y) refl h (λ more. has-find p ys x more is)
  where
    split : (b : Bool) → p y ≡ b → Has (y ∷ ys) x →
        (Has ys x → (z : X) × (find p ys ≡ Some z)) →
        (z : X) × (cond b (Some y) (find p ys) ≡ Some z)
    split true here h deeper = (y, refl)
    split false here h deeper = elim h [
      | inl same ↦ let clash = sym is ∙ ap p same ∙ here in absurd (cc)
      | inr more ↦ deeper more
    ]

pub find-none : {X : Type 0} (p : X → Bool) (xs : List X) (x : X) → find p xs ≡ None →
    Has xs x → p x ≡ false
find-none p [] x none h = absurd h
find-none {X} p (y ∷ ys) x none h =
    split (p y) refl none h (λ none more. find-none p ys x none more)
  where
    split : (b : Bool) → p y ≡ b → cond b (Some y) (find p ys) ≡ None → Has (y ∷ ys) x →
        (find p ys ≡ None → Has ys x → p x ≡ false) → p x ≡ false
    split true here none h deeper = absurd (cc)
    split false here none h deeper = elim h [
      | inl same ↦ ap p same ∙ here
      | inr more ↦ deeper none more
    ]
