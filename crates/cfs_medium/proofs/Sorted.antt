-- A list whose gates rise is the sorted list of its entries, whatever order they come in.
use Rattle.std.proofs.Common.{◌≡◌, ◌⊎◌, inl, inr, ℕ, ◌+◌, ◌≤◌, Bool, true, false, cond, nat_le, List, [], ◌∷◌, map, arith, refl, sym, ap, ◌∙◌}
use Rattle.std.proofs.lemmas.Bool.Decides.{nat_tests}
use Rattle.cfs_file.specs.declared.request.Request.{Request}
use Rattle.cfs_core.specs.Good.{Rises}
use Rattle.cfs_medium.specs.Store.{by_gate, put_by_gate}
use Rattle.cfs_medium.proofs.Has.{Has}

abbrev pub gates : List (ℕ × Request) → List ℕ
gates entries = map (λ e. e.0) entries

-- no two of them have the same gate
abbrev pub AreApart : List (ℕ × Request) → Type 0
AreApart [] = Unit {0}
AreApart (first ∷ rest) = ((e : ℕ × Request) → Has rest e → e.0 ≡ first.0 → ⊥) × AreApart rest

by-cases : (P : List (ℕ × Request) → Type 0) (b : Bool) (x y : List (ℕ × Request)) → (b ≡ true → P x) → (b ≡ false → P y) → P (cond b x y)
by-cases P true x y yes_ no_ = yes_ refl
by-cases P false x y yes_ no_ = no_ refl

-- ---- one entry more

has-put : (new : ℕ × Request) (xs : List (ℕ × Request)) (e : ℕ × Request) → Has (put_by_gate new xs) e → (e ≡ new) ⊎ Has xs e
has-put new [] e h = h
has-put new (first ∷ rest) e h =
    by-cases (λ l. Has l e → (e ≡ new) ⊎ Has (first ∷ rest) e) (nat_le new.0 first.0) (new ∷ (first ∷ rest)) (first ∷ put_by_gate new rest)
    (λ here had. had)
    (λ later had. elim had [
      | inl same ↦ inr (inl same)
      | inr more ↦ elim (has-put new rest e more) [
        | inl is ↦ inl is
        | inr among ↦ inr (inr among)
      ]
    ])
    h

put-has : (new : ℕ × Request) (xs : List (ℕ × Request)) (e : ℕ × Request) → (e ≡ new) ⊎ Has xs e → Has (put_by_gate new xs) e
put-has new [] e h = h
put-has new (first ∷ rest) e h =
    by-cases (λ l. Has l e) (nat_le new.0 first.0) (new ∷ (first ∷ rest)) (first ∷ put_by_gate new rest)
    (λ here. h)
    (λ later. elim h [
      | inl is ↦ inr (put-has new rest e (inl is))
      | inr among ↦ elim among [
        | inl same ↦ inl same
        | inr more ↦ inr (put-has new rest e (inr more))
      ]
    ])

rises-put : (low : ℕ) (new : ℕ × Request) (xs : List (ℕ × Request)) → low ≤ new.0 → Rises low (gates xs) →
    ((e : ℕ × Request) → Has xs e → e.0 ≡ new.0 → ⊥) → Rises low (gates (put_by_gate new xs))
rises-put low new [] up rises other = (up, tt)
rises-put low new (first ∷ rest) up rises other =
    by-cases (λ l. Rises low (gates l)) (nat_le new.0 first.0) (new ∷ (first ∷ rest)) (first ∷ put_by_gate new rest)
    (λ here. (up, (here_first (other first (inl refl)) here, rises.1)))
    (λ later. (rises.0, rises-put (first.0 + 1) new rest (after_first later) rises.1 (λ e among. other e (inr among))))
  where
    here_first : (first.0 ≡ new.0 → ⊥) → nat_le new.0 first.0 ≡ true → new.0 + 1 ≤ first.0
    here_first differ test = grind (arith, nat_tests)

    after_first : nat_le new.0 first.0 ≡ false → first.0 + 1 ≤ new.0
    after_first test = grind (arith, nat_tests)

-- ---- all entries

pub has-by_gate : (xs : List (ℕ × Request)) (e : ℕ × Request) → Has (by_gate xs) e → Has xs e
has-by_gate [] e h = h
has-by_gate (first ∷ rest) e h = elim (has-put first (by_gate rest) e h) [
  | inl same ↦ inl same
  | inr more ↦ inr (has-by_gate rest e more)
]

pub by_gate-has : (xs : List (ℕ × Request)) (e : ℕ × Request) → Has xs e → Has (by_gate xs) e
by_gate-has [] e h = h
by_gate-has (first ∷ rest) e h = put-has first (by_gate rest) e (elim h [
  | inl same ↦ inl same
  | inr more ↦ inr (by_gate-has rest e more)
])

pub rises-by_gate : (xs : List (ℕ × Request)) → AreApart xs → Rises 0 (gates (by_gate xs))
rises-by_gate [] apart = tt
rises-by_gate (first ∷ rest) apart =
    rises-put 0 first (by_gate rest) (omega arith) (rises-by_gate rest apart.1) (λ e among. apart.0 e (has-by_gate rest e among))

-- ---- lists whose gates rise

pub at_least : (low : ℕ) (xs : List (ℕ × Request)) (e : ℕ × Request) → Rises low (gates xs) →
    Has xs e → low ≤ e.0
at_least low [] e rises h = absurd h
at_least low (first ∷ rest) e rises h = elim h [
  | inl same ↦ rw same rises.0
  | inr more ↦ omega (arith, rises.0, at_least (first.0 + 1) rest e rises.1 more)
]

pub one_gate : (low : ℕ) (xs : List (ℕ × Request)) (a b : ℕ × Request) → Rises low (gates xs) → Has xs a → Has xs b → a.0 ≡ b.0 → a ≡ b
one_gate low [] a b rises h k same = absurd h
one_gate low (first ∷ rest) a b rises h k same = elim h [
  | inl a_is ↦ elim k [
    | inl b_is ↦ a_is ∙ sym b_is
    | inr b_more ↦ absurd (above b b_more (sym same ∙ ap (λ (e : ℕ × Request). e.0) a_is))
  ]
  | inr a_more ↦ elim k [
    | inl b_is ↦ absurd (above a a_more (same ∙ ap (λ (e : ℕ × Request). e.0) b_is))
    | inr b_more ↦ one_gate (first.0 + 1) rest a b rises.1 a_more b_more same
  ]
]
  where
    above : (e : ℕ × Request) → Has rest e → e.0 ≡ first.0 → ⊥
    above e more is = omega (arith, is, at_least (first.0 + 1) rest e rises.1 more)

same_rising : (low : ℕ) (xs ys : List (ℕ × Request)) → Rises low (gates xs) → Rises low (gates ys) →
    ((e : ℕ × Request) → Has xs e → Has ys e) → ((e : ℕ × Request) → Has ys e → Has xs e) → xs ≡ ys
same_rising low [] [] up down into back = refl
same_rising low [] (y ∷ ys) up down into back = absurd (back y (inl refl))
same_rising low (x ∷ xs) [] up down into back = absurd (into x (inl refl))
same_rising low (x ∷ xs) (y ∷ ys) up down into back =
    ap (λ (e : ℕ × Request). e ∷ xs) first ∙ ap (λ (l : List (ℕ × Request)). y ∷ l) (same_rising (y.0 + 1) xs ys rises down.1 into_rest back_rest)
  where
    first : x ≡ y
    first = elim (into x (inl refl)) [
      | inl is ↦ is
      | inr x_later ↦ elim (back y (inl refl)) [
        | inl is ↦ sym is
        | inr y_later ↦ absurd (omega (arith, at_least (y.0 + 1) ys x down.1 x_later, at_least (x.0 + 1) xs y up.1 y_later))
      ]
    ]

    gate : x.0 ≡ y.0
    gate = ap (λ (e : ℕ × Request). e.0) first

    into_rest : (e : ℕ × Request) → Has xs e → Has ys e
    into_rest e more = elim (into e (inr more)) [
      | inl is ↦ absurd (omega (arith, gate, ap (λ (e : ℕ × Request). e.0) is, at_least (x.0 + 1) xs e up.1 more))
      | inr there ↦ there
    ]

    back_rest : (e : ℕ × Request) → Has ys e → Has xs e
    back_rest e more = elim (back e (inr more)) [
      | inl is ↦ absurd (omega (arith, gate, ap (λ (e : ℕ × Request). e.0) is, at_least (y.0 + 1) ys e down.1 more))
      | inr there ↦ there
    ]

    rises : Rises (y.0 + 1) (gates xs)
    rises = rw gate at up.1

-- entries in any order, no two with the same gate, are in order of their gates the list of the same entries that rises
pub by_gate-rising : (xs ys : List (ℕ × Request)) → AreApart xs → Rises 0 (gates ys) →
    ((e : ℕ × Request) → Has xs e → Has ys e) → ((e : ℕ × Request) → Has ys e → Has xs e) → by_gate xs ≡ ys
by_gate-rising xs ys apart rises into back =
    same_rising 0 (by_gate xs) ys (rises-by_gate xs apart) rises
    (λ e among. into e (has-by_gate xs e among))
    (λ e among. by_gate-has xs e (back e among))
