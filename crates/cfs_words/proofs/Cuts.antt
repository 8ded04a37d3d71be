-- A cut at the first separator takes the first part off.
use Rattle.std.proofs.Common.{◌≡◌, ℕ, ◌+◌, ◌<◌, ◌≤◌, Bool, true, false, cond, List, [], ◌∷◌, length, take, drop, Option, Some, None, position, arith, refl, sym, subst, ltb, ap, ◌∙◌}
use Rattle.std.proofs.lemmas.Bool.{ltb-true, ltb-false}
use Rattle.std.proofs.lemmas.List.Splits.{slice_split_none, slice_split_first, slice_split-cons_yes, slice_split-cons_no, join_with_byte-slice_split}
use Rattle.std.proofs.lemmas.List.Sums.{fails_before_first}
use Rattle.std.proofs.lemmas.Option.{cond_some}
use Rattle.std.specs.Prelude.{◌==◌}
use Rattle.cfs_words.specs.Reading.{end_of, words_left}
use Rattle.std.specs.List.{slice_split, join_with_byte, onto_first, position_or_len}

cond_none : {A : Type 0} (b : Bool) (x : A) → cond b (Some x) None ≡ None → b ≡ false
cond_none true x e = absurd cc
cond_none false x e = refl

pub slice_split-uncut : (p : ℕ → Bool) (xs : List ℕ) → position p xs ≡ None → slice_split p xs ≡ xs ∷ []
slice_split-uncut p xs e =
    let long : length xs ≤ position_or_len p xs = ltb-false _ _ (cond_none _ _ e) in
    slice_split_none p xs (λ k d lt. fails_before_first p xs k d (omega arith))

pub slice_split-cut : (p : ℕ → Bool) (xs : List ℕ) (at : ℕ) → position p xs ≡ Some at → slice_split p xs ≡ take at xs ∷ slice_split p (drop (at + 1) xs)
slice_split-cut p xs at e =
    let found = cond_some (ltb (position_or_len p xs) (length xs)) (position_or_len p xs) at e in
    let short : position_or_len p xs < length xs = ltb-true _ _ found.0 in
    subst (λ (n : ℕ). slice_split p xs ≡ take n xs ∷ slice_split p (drop (n + 1) xs)) found.1 (slice_split_first p xs 0 short)

-- there is a first part
abbrev pub HasFirst : List (List ℕ) → Type 0
HasFirst parts = (first : List ℕ) × (rest : List (List ℕ)) × (parts ≡ first ∷ rest)

pub slice_split-first : (p : ℕ → Bool) (xs : List ℕ) → HasFirst (slice_split p xs)
slice_split-first p [] = ([], [], refl)
slice_split-first p (x ∷ xs) = chosen (p x) refl (slice_split-first p xs) where
  chosen : (b : Bool) → p x ≡ b → HasFirst (slice_split p xs) → HasFirst (slice_split p (x ∷ xs))
  chosen true e after = ([], slice_split p xs, slice_split-cons_yes p x xs e)
  chosen false e after = (x ∷ after.0, after.1, slice_split-cons_no p x xs e ∙ ap (onto_first x) after.2)

-- ---- words

pub end_of-left : (left : Option (List ℕ)) (bytes : List ℕ) (words : List (List ℕ)) → left ≡ Some bytes → words_left left ≡ words → end_of words ≡ None
end_of-left left bytes words is view =
    let first = slice_split-first (λ b. b == 32) bytes in
    rw (← view, is, first.2) refl
