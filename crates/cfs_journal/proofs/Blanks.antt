-- Regions of zeros with the device numbers from 0 on.
use Rattle.std.proofs.Common.{◌≡◌, ◌∙◌, inl, inr, ℕ, zero, suc, ◌+◌, ◌<◌, ◌≤◌, List, [], ◌∷◌, ◌++◌, length, replicate, refl, sym, ap, subst, arith}
use Rattle.std.proofs.Math.ListN.{get_or-append}
use Rattle.std.proofs.Math.Seq.{get_or-append_seam}
use Rattle.std.proofs.lemmas.List.{length-append, map-append}
use Rattle.std.proofs.lemmas.Bool.{cases_eq}
use Rattle.cfs_pmem.specs.Images.{Seen, WordStep, began, devices_of, AllImages}
use Rattle.cfs_pmem.specs.Objects.{seen_at, all_devices}
use Rattle.cfs_pmem.specs.AllMoments.{AreApart, AreDistinct, IsApartFrom}
use Rattle.cfs_pmem.proofs.ImageLemmas.{sure_began}
use Rattle.cfs_journal.specs.Standing.{AreBlank}

-- of devices 0 to n - 1
unfoldable pub blanks : ℕ → List (Seen WordStep)
blanks zero = []
blanks (suc n) = blanks n ++ began n (replicate 16 0) ∷ []

length-blanks : (n : ℕ) → length (blanks n) ≡ n
unfolding blanks
length-blanks zero = refl
length-blanks (suc n) = length-append (blanks n) (began n (replicate 16 0) ∷ []) ∙ ap (λ (k : ℕ). k + 1) (length-blanks n) ∙ omega arith

abbrev IsZeros : List ℕ → Type 0
IsZeros image = image ≡ replicate 16 0

zeros_at : (n p : ℕ) → p < n → AllImages (seen_at (blanks n) p) IsZeros
unfolding blanks
zeros_at zero p l = absurd (omega arith)
zeros_at (suc n) p l = elim (cases_eq p n) [
  | inl last ↦ subst (λ x. AllImages x IsZeros)
      (sym (ap (λ (k : ℕ). seen_at (blanks (suc n)) k) (last ∙ sym (length-blanks n)) ∙ get_or-append_seam (blanks n) (began n (replicate 16 0)) [] record { device = 0; also = []; history = [] }))
      (λ image possible. sure_began n (replicate 16 0) image possible)
  | inr earlier ↦ subst (λ x. AllImages x IsZeros)
      (sym (get_or-append (blanks n) (began n (replicate 16 0) ∷ []) record { device = 0; also = []; history = [] } p (omega (arith, length-blanks n, l, earlier))))
      (zeros_at n p (omega (arith, l, earlier)))
]

-- each of these devices is apart from one more
abbrev AllApart : List (List ℕ) → List ℕ → Type 0
AllApart [] new = Unit {0}
AllApart (one ∷ rest) new = AreApart one new × AllApart rest new

all_apart-append : (some more : List (List ℕ)) (new : List ℕ) → AllApart some new → AllApart more new → AllApart (some ++ more) new
all_apart-append [] more new a b = b
all_apart-append (one ∷ rest) more new a b = (a.0, all_apart-append rest more new a.1 b)

apart_more : (one : List ℕ) (others : List (List ℕ)) (new : List ℕ) → IsApartFrom one others → AreApart one new → IsApartFrom one (others ++ new ∷ [])
apart_more one [] new a b = (b, tt)
apart_more one (other ∷ rest) new a b = (a.0, apart_more one rest new a.1 b)

distinct_more : (devices : List (List ℕ)) (new : List ℕ) → AreDistinct devices → AllApart devices new → AreDistinct (devices ++ new ∷ [])
distinct_more [] new a b = (tt, tt)
distinct_more (one ∷ rest) new a b = (apart_more one rest new a.0 b.0, distinct_more rest new a.1 b.1)

apart_numbers : (n m : ℕ) → n < m → AreApart (n ∷ []) (m ∷ [])
apart_numbers n m l device one other = elim one [
  | inl is ↦ elim other [
    | inl also ↦ absurd (omega (arith, is, also, l))
    | inr none ↦ none
  ]
  | inr none ↦ none
]

devices_are : (n : ℕ) → all_devices (blanks (suc n)) ≡ all_devices (blanks n) ++ (n ∷ []) ∷ []
unfolding blanks
devices_are n = map-append devices_of (blanks n) (began n (replicate 16 0) ∷ [])

all_apart : (n m : ℕ) → n ≤ m → AllApart (all_devices (blanks n)) (m ∷ [])
unfolding blanks
all_apart zero m l = tt
all_apart (suc n) m l = subst (λ ds. AllApart ds (m ∷ [])) (sym (devices_are n))
    (all_apart-append (all_devices (blanks n)) ((n ∷ []) ∷ []) (m ∷ []) (all_apart n m (omega (arith, l))) (apart_numbers n m (omega (arith, l)), tt))

distinct : (n : ℕ) → AreDistinct (all_devices (blanks n))
unfolding blanks
distinct zero = tt
distinct (suc n) = subst AreDistinct (sym (devices_are n)) (distinct_more (all_devices (blanks n)) (n ∷ []) (distinct n) (all_apart n n (omega arith)))

pub blanks_are_blank : AreBlank (blanks 64)
blanks_are_blank = record {
  size = length-blanks 64;
  distinct = distinct 64;
  zero = λ position l image possible. zeros_at 64 position l image possible;
}

pub blanks_none : [] ≡ blanks 0
unfolding blanks
blanks_none = refl

pub blanks_more : (n : ℕ) {seens later : List (Seen WordStep)} (new : Seen WordStep) → seens ≡ blanks n → new ≡ began n (replicate 16 0) → later ≡ seens ++ new ∷ [] → later ≡ blanks (n + 1)
unfolding blanks
blanks_more n {seens} {later} new before is all =
    all ∙ ap (λ (xs : List (Seen WordStep)). xs ++ new ∷ []) before ∙ ap (λ (x : Seen WordStep). blanks n ++ x ∷ []) is ∙ ap blanks (suc_is n)
  where
    suc_is : (k : ℕ) → suc k ≡ k + 1
    suc_is k = omega arith
