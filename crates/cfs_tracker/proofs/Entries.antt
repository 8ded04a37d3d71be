-- Entries by their places.
use Rattle.std.proofs.Common.{◌≡◌, ◌∙◌, ◌<◌, ◌≤◌, ◌+◌, ◌++◌, ◌==◌, ap, arith, cond, false, filter, get_or, inl, inr, length, List, [], ◌∷◌, not, None, Some, refl, set, suc, sym, true, zero, ℕ, Bool}
use Rattle.std.specs.Prelude.{option_map}
use Rattle.std.specs.List.{find, list_any, position, position_or_len, slice_get}
use Rattle.std.proofs.lemmas.Bool.{cases_Bool, cases_lt}
use Rattle.std.proofs.lemmas.Bool.Decides.{nat_tests}
use Rattle.cfs_core.proofs.Legal.{neither}
use Rattle.cfs_tracker.specs.declared.pending.Pending.{Pending}
use Rattle.cfs_tracker.specs.View.{entry_at, entry_place, is_at, with_entry, without}
use Rattle.cfs_tracker.specs.Follows.{Rise}

-- ---- where it stands

pub position-less : {S : Type 0} (es : List (Pending S)) (place at : ℕ) →
    position (is_at place) es ≡ Some at → (at < length es) × (at ≡ position_or_len (is_at place) es)
position-less es place at h = grind (arith, nat_tests)

pub with-at : {S : Type 0} (es : List (Pending S)) (place : ℕ) (change : Pending S → Pending S)
    (d : Pending S) (at : ℕ) → at ≡ position_or_len (is_at place) es → at < length es →
    with_entry place change es ≡ set es at (change (get_or es at d))
with-at [] place change d at same less = absurd (omega arith)
with-at (x ∷ xs) place change d zero same less = elim (cases_Bool (is_at place x)) [
  | inl own ↦ rw own refl
  | inr other ↦
      let here : position_or_len (is_at place) (x ∷ xs) ≡ 1 + position_or_len (is_at place) xs =
      rw other refl in
      absurd (omega arith)
]
with-at (x ∷ xs) place change d (suc at) same less = elim (cases_Bool (is_at place x)) [
  | inl own ↦
      let here : position_or_len (is_at place) (x ∷ xs) ≡ 0 = rw own refl in
      absurd (omega arith)
  | inr other ↦
      let here : position_or_len (is_at place) (x ∷ xs) ≡ 1 + position_or_len (is_at place) xs =
      rw other refl in
      rw other (ap (λ ys. x ∷ ys) (with-at xs place change d at (omega arith) (omega arith)))
]

pub hit : {S : Type 0} (es : List (Pending S)) (place : ℕ) (d : Pending S) (at : ℕ) →
    at ≡ position_or_len (is_at place) es → at < length es →
    entry_at es place ≡ Some (get_or es at d)
hit [] place d at same less = absurd (omega arith)
hit (x ∷ xs) place d zero same less = elim (cases_Bool (is_at place x)) [
  | inl own ↦ rw own refl
  | inr other ↦
      let here : position_or_len (is_at place) (x ∷ xs) ≡ 1 + position_or_len (is_at place) xs =
      rw other refl in
      absurd (omega arith)
]
hit (x ∷ xs) place d (suc at) same less = elim (cases_Bool (is_at place x)) [
  | inl own ↦
      let here : position_or_len (is_at place) (x ∷ xs) ≡ 0 = rw own refl in
      absurd (omega arith)
  | inr other ↦
      let here : position_or_len (is_at place) (x ∷ xs) ≡ 1 + position_or_len (is_at place) xs =
      rw other refl in
      rw other (hit xs place d at (omega arith) (omega arith))
]

past : {S : Type 0} (es : List (Pending S)) (place : ℕ) →
    length es ≤ position_or_len (is_at place) es → entry_at es place ≡ None
past [] place le = refl
past (x ∷ xs) place le = elim (cases_Bool (is_at place x)) [
  | inl own ↦
      let here : position_or_len (is_at place) (x ∷ xs) ≡ 0 = rw own refl in
      absurd (omega arith)
  | inr other ↦
      let here : position_or_len (is_at place) (x ∷ xs) ≡ 1 + position_or_len (is_at place) xs =
      rw other refl in
      rw other (past xs place (omega arith))
]

pub missed : {S : Type 0} (es : List (Pending S)) (place : ℕ) →
    position (is_at place) es ≡ None → entry_at es place ≡ None
missed es place none =
    past es place (elim (cases_lt (position_or_len (is_at place) es) (length es)) [
      | inl less ↦ grind (arith, nat_tests)
      | inr le ↦ le
    ])

pub with-none : {S : Type 0} (es : List (Pending S)) (place : ℕ) (change : Pending S → Pending S) →
    entry_at es place ≡ None → with_entry place change es ≡ es
with-none [] place change none = refl
with-none (x ∷ xs) place change none = elim (cases_Bool (is_at place x)) [
  | inl own ↦
      let it : entry_at (x ∷ xs) place ≡ Some x = rw own refl in
      cc
  | inr other ↦
      let it : entry_at (x ∷ xs) place ≡ entry_at xs place = rw other refl in
      rw other (ap (λ ys. x ∷ ys) (with-none xs place change (sym it ∙ none)))
]

-- ---- what is found once an entry is changed

not-at : {S : Type 0} (x : Pending S) (place other : ℕ) → (other ≡ place → ⊥) →
    is_at place x ≡ true → is_at other x ≡ false
not-at x place other apart own = grind (arith, nat_tests)

pub at-with : {S : Type 0} (es : List (Pending S)) (place other : ℕ)
    (change : Pending S → Pending S) → ((e : Pending S) → (change e).place ≡ e.place) →
    (other ≡ place → ⊥) → entry_at (with_entry place change es) other ≡ entry_at es other
at-with [] place other change keeps apart = refl
at-with (x ∷ xs) place other change keeps apart = elim (cases_Bool (is_at place x)) [
  | inl own ↦
      let was : is_at other x ≡ false = not-at x place other apart own in
      let now : is_at other (change x) ≡ false = ap (λ n. n == other) (keeps x) ∙ was in
      rw (own, was, now) refl
  | inr beside ↦
      rw beside (ap (λ o. cond (is_at other x) (Some x) o) (at-with xs place other change keeps
      apart))
]

pub here-with : {S : Type 0} (es : List (Pending S)) (place : ℕ)
    (change : Pending S → Pending S) → ((e : Pending S) → (change e).place ≡ e.place) →
    entry_at (with_entry place change es) place ≡ option_map change (entry_at es place)
here-with [] place change keeps = refl
here-with (x ∷ xs) place change keeps = elim (cases_Bool (is_at place x)) [
  | inl own ↦
      let now : is_at place (change x) ≡ true = ap (λ n. n == place) (keeps x) ∙ own in
      rw (own, now) refl
  | inr beside ↦ rw (beside, beside) (here-with xs place change keeps)
]

-- ---- what is found once the entries of a place are gone

pub find-beside : {X : Type 0} (own other : X → Bool) →
    ((x : X) → own x ≡ true → other x ≡ false) → (xs : List X) →
    find other (filter (λ x. not (own x)) xs) ≡ find other xs
find-beside own other apart [] = refl
find-beside own other apart (x ∷ xs) = elim (cases_Bool (own x)) [
  | inl is ↦ rw (is, apart x is) (find-beside own other apart xs)
  | inr none ↦ rw none (ap (λ o. cond (other x) (Some x) o) (find-beside own other apart xs))
]

pub find-gone : {X : Type 0} (own : X → Bool) (xs : List X) →
    find own (filter (λ x. not (own x)) xs) ≡ None
find-gone own [] = refl
find-gone own (x ∷ xs) = elim (cases_Bool (own x)) [
  | inl is ↦ rw is (find-gone own xs)
  | inr none ↦ rw (none, none) (find-gone own xs)
]

pub at-without : {S : Type 0} (es : List (Pending S)) (place other : ℕ) →
    (other ≡ place → ⊥) → entry_at (without place es) other ≡ entry_at es other
at-without es place other apart =
    find-beside (is_at place) (is_at other) (λ x. not-at x place other apart) es

pub here-without : {S : Type 0} (es : List (Pending S)) (place : ℕ) →
    entry_at (without place es) place ≡ None
here-without es place = find-gone (is_at place) es

-- ---- what a search passes over

pub found-test : {X : Type 0} (test : X → Bool) (xs : List X) (x : X) → find test xs ≡ Some x →
    test x ≡ true
found-test test [] x h = cc
found-test test (y ∷ ys) x h = elim (cases_Bool (test y)) [
  | inl is ↦
      let it : find test (y ∷ ys) ≡ Some y = rw is refl in
      let same : y ≡ x = (let both : Some y ≡ Some x = sym it ∙ h in cc) in
      rw (sym same) is
  | inr none ↦
      let it : find test (y ∷ ys) ≡ find test ys = rw none refl in
      found-test test ys x (sym it ∙ h)
]

-- where nothing passes a test, what another test finds does not
pub found-not : {X : Type 0} (test other : X → Bool) (xs : List X) (x : X) →
    find test xs ≡ None → find other xs ≡ Some x → test x ≡ false
found-not test other [] x none h = cc
found-not test other (y ∷ ys) x none h = elim (cases_Bool (test y)) [
  | inl is ↦ (let it : find test (y ∷ ys) ≡ Some y = rw is refl in cc)
  | inr fails ↦
      let it : find test (y ∷ ys) ≡ find test ys = rw fails refl in
      elim (cases_Bool (other y)) [
        | inl is ↦
            let there : find other (y ∷ ys) ≡ Some y = rw is refl in
            let same : y ≡ x = (let both : Some y ≡ Some x = sym there ∙ h in cc) in
            rw (sym same) fails
        | inr beyond ↦
            let there : find other (y ∷ ys) ≡ find other ys = rw beyond refl in
            found-not test other ys x (sym it ∙ none) (sym there ∙ h)
      ]
]

pub found-place : {S : Type 0} (es : List (Pending S)) (place : ℕ) (e : Pending S) →
    entry_at es place ≡ Some e → e.place ≡ place
found-place es place e h =
    let test = found-test (is_at place) es e h in
    grind (arith, nat_tests)

-- ---- the order of the places

pub rise-from : {X : Type 0} (at : X → ℕ) (low less : ℕ) (xs : List X) → less ≤ low →
    Rise at low xs → Rise at less xs
rise-from at low less [] le rise = tt
rise-from at low less (x ∷ xs) le rise = (omega (arith, rise.0), rise.1)

pub rise-filter : {X : Type 0} (at : X → ℕ) (keep : X → Bool) (low : ℕ) (xs : List X) →
    Rise at low xs → Rise at low (filter keep xs)
rise-filter at keep low [] rise = tt
rise-filter at keep low (x ∷ xs) rise = elim (cases_Bool (keep x)) [
  | inl is ↦ rw is (rise.0, rise-filter at keep (at x) xs rise.1)
  | inr gone ↦
      rw gone (rise-filter at keep low xs
      (rise-from at (at x) low xs (omega (arith, rise.0)) rise.1))
]

pub rise-with : {S : Type 0} (low : ℕ) (es : List (Pending S)) (place : ℕ)
    (change : Pending S → Pending S) → ((e : Pending S) → (change e).place ≡ e.place) →
    Rise entry_place low es → Rise entry_place low (with_entry place change es)
rise-with low [] place change keeps rise = tt
rise-with low (x ∷ xs) place change keeps rise = elim (cases_Bool (is_at place x)) [
  | inl own ↦
      let first : low < (change x).place = rw (keeps x) rise.0 in
      let rest : Rise entry_place (change x).place xs = rw (keeps x) rise.1 in
      rw own (first, rest)
  | inr beside ↦ rw beside (rise.0, rise-with x.place xs place change keeps rise.1)
]

pub rise-without : {S : Type 0} (low : ℕ) (es : List (Pending S)) (place : ℕ) →
    Rise entry_place low es → Rise entry_place low (without place es)
rise-without low es place rise = rise-filter entry_place (λ e. not (is_at place e)) low es rise

later : {X : Type 0} (at : X → ℕ) (x : X) (xs : List X) (last : X) → at x < at last →
    ((y : X) → find (λ z. at z == at y) (x ∷ xs) ≡ Some y → at y < at last) →
    (y : X) → find (λ z. at z == at y) xs ≡ Some y → at y < at last
later at x xs last first all y is = elim (cases_Bool (at x == at y)) [
  | inl same ↦
      let eq : at x ≡ at y = grind (arith, nat_tests) in
      omega arith
  | inr other ↦ all y (rw other is)
]

-- a new one behind all others
pub rise-push : {X : Type 0} (at : X → ℕ) (low : ℕ) (xs : List X) (last : X) → low < at last →
    ((y : X) → find (λ z. at z == at y) xs ≡ Some y → at y < at last) → Rise at low xs →
    Rise at low (xs ++ last ∷ [])
rise-push at low [] last less all rise = (less, tt)
rise-push at low (x ∷ xs) last less all rise =
    let own : (at x == at x) ≡ true = grind (arith, nat_tests) in
    let it : find (λ z. at z == at x) (x ∷ xs) ≡ Some x = rw own refl in
    (rise.0, rise-push at (at x) xs last (all x it) (later at x xs last (all x it) all) rise.1)

above-all : {X : Type 0} (at : X → ℕ) (low : ℕ) (xs : List X) (y : X) (k : ℕ) →
    Rise at low xs → slice_get xs k ≡ Some y → low < at y
above-all at low [] y k rise there = cc
above-all at low (x ∷ xs) y zero rise there =
    let same : x ≡ y = (let somes : Some x ≡ Some y = there in cc) in
    let e : at x ≡ at y = ap at same in
    omega (arith, rise.0)
above-all at low (x ∷ xs) y (suc k) rise there =
    omega (arith, rise.0, above-all at (at x) xs y k rise.1 there)

-- what is found is above where the list begins
pub above-find : {X : Type 0} (at : X → ℕ) (test : X → Bool) (low : ℕ) (xs : List X) (y : X) →
    Rise at low xs → find test xs ≡ Some y → low < at y
above-find at test low [] y rise is = cc
above-find at test low (x ∷ xs) y rise is = elim (cases_Bool (test x)) [
  | inl own ↦
      let it : find test (x ∷ xs) ≡ Some x = rw own refl in
      let same : x ≡ y = (let somes : Some x ≡ Some y = sym it ∙ is in cc) in
      let e : at x ≡ at y = ap at same in
      omega (arith, rise.0)
  | inr other ↦
      let rest : find test (x ∷ xs) ≡ find test xs = rw other refl in
      omega (arith, rise.0, above-find at test (at x) xs y rise.1 (sym rest ∙ is))
]

-- what is found first of a rising list has the least place of all that pass
pub least : {X : Type 0} (at : X → ℕ) (test : X → Bool) (low : ℕ) (xs : List X) (x y : X)
    (k : ℕ) → Rise at low xs → find test xs ≡ Some x → slice_get xs k ≡ Some y →
    test y ≡ true → at x ≤ at y
least at test low [] x y k rise is there passes = cc
least at test low (z ∷ zs) x y zero rise is there passes =
    let same : z ≡ y = (let somes : Some z ≡ Some y = there in cc) in
    let own : test z ≡ true = rw same passes in
    let first : find test (z ∷ zs) ≡ Some z = rw own refl in
    let it : z ≡ x = (let somes : Some z ≡ Some x = sym first ∙ is in cc) in
    (let e : at x ≡ at y = ap at (sym it ∙ same) in omega arith)
least at test low (z ∷ zs) x y (suc k) rise is there passes = elim (cases_Bool (test z)) [
  | inl own ↦
      let first : find test (z ∷ zs) ≡ Some z = rw own refl in
      let it : z ≡ x = (let somes : Some z ≡ Some x = sym first ∙ is in cc) in
      let above = above-all at (at z) zs y k rise.1 there in
      (let e : at z ≡ at x = ap at it in omega (arith, above))
  | inr other ↦
      let rest : find test (z ∷ zs) ≡ find test zs = rw other refl in
      least at test (at z) zs x y k rise.1 (sym rest ∙ is) there passes
]

-- ---- tests of a whole list

pub none-any : {X : Type 0} (test : X → Bool) (xs : List X) → list_any test xs ≡ false →
    find test xs ≡ None
none-any test [] none = refl
none-any test (x ∷ xs) none =
    let parts = neither (test x) (list_any test xs) none in
    rw parts.0 (none-any test xs parts.1)
