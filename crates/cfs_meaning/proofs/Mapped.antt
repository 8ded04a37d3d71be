-- Blocks by the file blocks that they are tagged for: what is found among pairs of the two.
use Rattle.std.proofs.Common.{◌≡◌, ◌≢◌, ℕ, zero, suc, ◌+◌, ◌<◌, ◌≤◌, Bool, true, false, ◌||◌}
use Rattle.std.proofs.Common.{Option}
use Rattle.std.proofs.Common.{Some, None, List, [], ◌∷◌, map, filter, refl, sym, ap}
use Rattle.std.proofs.Common.{◌∙◌, cond, arith, is_some}
use Rattle.std.specs.Prelude.{◌==◌, find}
use Rattle.std.specs.List.{flat_map, list_any, range_with_len}
use Rattle.std.specs.Option.{option_map, option_or}
use Rattle.std.proofs.lemmas.Bool.{eq-eqb, eqb-true, ne_eqb}
use Rattle.std.proofs.lemmas.List.Folds.{find-append}

-- ---- lists

pub any-found : {A : Type 0} (test : A → Bool) (xs : List A) →
    list_any test xs ≡ is_some (find test xs)
any-found test [] = refl
any-found {A} test (x ∷ xs) = by-test (test x) (any-found test xs)
  where
    by-test : (b : Bool) → list_any test xs ≡ is_some (find test xs) →
        (b || list_any test xs) ≡ is_some (cond b (Some x) (find test xs))
    by-test true rest = refl
    by-test false rest = rest

pub find-mapped : {A B : Type 0} (test : B → Bool) (f : A → B) (xs : List A) →
    find test (map f xs) ≡ option_map f (find (λ x. test (f x)) xs)
find-mapped test f [] = refl
find-mapped {A} {B} test f (x ∷ xs) = by-test (test (f x)) (find-mapped test f xs)
  where
    by-test : (b : Bool) →
        find test (map f xs) ≡ option_map f (find (λ y. test (f y)) xs) →
        cond b (Some (f x)) (find test (map f xs))
        ≡ option_map f (cond b (Some x) (find (λ y. test (f y)) xs))
    by-test true rest = refl
    by-test false rest = rest

pub found-low : (test : ℕ → Bool) (a n m : ℕ) → find test (range_with_len a n) ≡ Some m → m < a + n
found-low test a zero m is = absurd (cc)
found-low test a (suc n) m is =
    pick (test a) (λ now. (let low = found-low test (a + 1) n m now in omega (arith, low))) is
  where
    pick : (b : Bool) → (find test (range_with_len (a + 1) n) ≡ Some m → m < a + suc n) →
        cond b (Some a) (find test (range_with_len (a + 1) n)) ≡ Some m → m < a + suc n
    pick true rest now = let same : a ≡ m = cc in omega (arith, same)
    pick false rest now = rest now

-- ---- pairs

abbrev is_at : ℕ → ℕ × ℕ → Bool
is_at k x = x.0 == k

others-pairs : (k j : ℕ) (bs : List ℕ) → j ≢ k → find (is_at k) (map (λ b. (j, b)) bs) ≡ None
others-pairs k j [] apart = refl
others-pairs k j (b ∷ bs) apart =
    ap (λ t. cond t (Some (j, b)) (find (is_at k) (map (λ c. (j, c)) bs))) (ne_eqb j k apart)
    ∙ others-pairs k j bs apart

own-pairs : (k : ℕ) (test : ℕ → Bool) (bs : List ℕ) →
    find (is_at k) (map (λ b. (k, b)) (filter test bs)) ≡ option_map (λ b. (k, b)) (find test bs)
own-pairs k test [] = refl
own-pairs k test (b ∷ bs) = by-test (test b) (own-pairs k test bs)
  where
    rest : List ℕ
    rest = filter test bs

    by-test : (t : Bool) →
        find (is_at k) (map (λ c. (k, c)) rest) ≡ option_map (λ c. (k, c)) (find test bs) →
        find (is_at k) (map (λ c. (k, c)) (cond t (b ∷ rest) rest))
        ≡ option_map (λ c. (k, c)) (cond t (Some b) (find test bs))
    by-test true later =
        ap (λ t. cond t (Some (k, b)) (find (is_at k) (map (λ c. (k, c)) rest)))
        (eq-eqb k k refl)
    by-test false later = later

abbrev pub pairs : (ℕ → ℕ → Bool) → List ℕ → ℕ → List (ℕ × ℕ)
pairs test bs k = map (λ b. (k, b)) (filter (test k) bs)

past-pairs : (test : ℕ → ℕ → Bool) (bs : List ℕ) (k a n : ℕ) → k < a →
    find (is_at k) (flat_map (pairs test bs) (range_with_len a n)) ≡ None
past-pairs test bs k a zero less = refl
past-pairs test bs k a (suc n) less =
    find-append (is_at k) (pairs test bs a) (flat_map (pairs test bs) (range_with_len (a + 1) n))
    ∙ ap (λ o. option_or o
    (find (is_at k) (flat_map (pairs test bs) (range_with_len (a + 1) n))))
    (others-pairs k a (filter (test a) bs) (λ same. omega arith))
    ∙ past-pairs test bs k (a + 1) n (omega arith)

-- behind the last number
pub pairs-behind : (test : ℕ → ℕ → Bool) (bs : List ℕ) (k a n : ℕ) → a + n ≤ k →
    find (λ (x : ℕ × ℕ). x.0 == k) (flat_map (pairs test bs) (range_with_len a n)) ≡ None
pairs-behind test bs k a zero past = refl
pairs-behind test bs k a (suc n) past =
    find-append (is_at k) (pairs test bs a) (flat_map (pairs test bs) (range_with_len (a + 1) n))
    ∙ ap (λ o. option_or o
    (find (is_at k) (flat_map (pairs test bs) (range_with_len (a + 1) n))))
    (others-pairs k a (filter (test a) bs) (λ same. omega arith))
    ∙ pairs-behind test bs k (a + 1) n (omega arith)

pub pairs-found : (test : ℕ → ℕ → Bool) (bs : List ℕ) (k a n : ℕ) → a ≤ k → k < a + n →
    find (λ (x : ℕ × ℕ). x.0 == k) (flat_map (pairs test bs) (range_with_len a n))
    ≡ option_map (λ b. (k, b)) (find (test k) bs)
pairs-found test bs k a zero from to = absurd (omega arith)
pairs-found test bs k a (suc n) from to =
    find-append (is_at k) (pairs test bs a) rest
    ∙ by-test (a == k) refl (λ more. pairs-found test bs k (a + 1) n (omega arith) (omega arith))
  where
    rest : List (ℕ × ℕ)
    rest = flat_map (pairs test bs) (range_with_len (a + 1) n)

    last : (o : Option ℕ) →
        option_or {T = ℕ × ℕ} (option_map (λ b. (k, b)) o) None ≡ option_map (λ b. (k, b)) o
    last None = refl
    last (Some b) = refl

    by-test : (t : Bool) → (a == k) ≡ t →
        (a ≢ k → find (is_at k) rest ≡ option_map (λ b. (k, b)) (find (test k) bs)) →
        option_or (find (is_at k) (pairs test bs a)) (find (is_at k) rest)
        ≡ option_map (λ b. (k, b)) (find (test k) bs)
    by-test true is later =
        let same : a ≡ k = eqb-true a k is in
        ap (λ j. option_or (find (is_at k) (pairs test bs j)) (find (is_at k) rest)) same
        ∙ ap (λ o. option_or o (find (is_at k) rest)) (own-pairs k (test k) bs)
        ∙ ap (λ o. option_or (option_map (λ b. (k, b)) (find (test k) bs)) o)
        (past-pairs test bs k (a + 1) n (omega arith))
        ∙ last (find (test k) bs)
    by-test false is later =
        ap (λ o. option_or o (find (is_at k) rest))
        (others-pairs k a (filter (test a) bs) (λ same.
        let wrong = eq-eqb a k same in let no : true ≡ false = sym wrong ∙ is in absurd (cc)))
        ∙ later (λ same.
        let wrong = eq-eqb a k same in let no : true ≡ false = sym wrong ∙ is in absurd (cc))
