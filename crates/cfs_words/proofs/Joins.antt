-- Parts joined by a separator that none of them has are cut into the same parts again.
use Rattle.std.proofs.Common.{◌≡◌, ℕ, ◌+◌, ◌<◌, ◌≤◌, Bool, true, false, List, [], ◌∷◌, ◌++◌, length, arith, refl, sym, subst, ap, ◌∙◌}
use Rattle.std.specs.Prelude.{All, ◌==◌}
use Rattle.std.specs.List.{slice_split, join_with_byte}
use Rattle.std.proofs.lemmas.List.{append-nil}
use Rattle.std.proofs.lemmas.List.Elements.{All-head, All-tail, All-cons, All-nil, All-append}
use Rattle.std.proofs.lemmas.List.Splits.{slice_split_none, slice_split_at, slice_split-cons_yes, join_with_byte-slice_split}
use Rattle.std.proofs.lemmas.Bool.Decides.{nat_tests}
use Rattle.cfs_words.specs.Parts.{parts_of, behind, joined}

-- no byte of the part is the separator
abbrev pub IsWithout : ℕ → List ℕ → Type 0
IsWithout c part = All (λ b. (b == c) ≡ false) part

abbrev pub AreWithout : ℕ → List (List ℕ) → Type 0
AreWithout c [] = Unit {0}
AreWithout c (part ∷ parts) = IsWithout c part × AreWithout c parts

same_byte : (c : ℕ) → (c == c) ≡ true
same_byte c = grind (arith, nat_tests)

pub parts_of-joined : (c : ℕ) (part : List ℕ) (parts : List (List ℕ)) → IsWithout c part → AreWithout c parts →
    parts_of c (joined c (part ∷ parts)) ≡ part ∷ parts
parts_of-joined c part [] h hs = ap (λ (bytes : List ℕ). parts_of c bytes) (append-nil part) ∙ slice_split_none (λ b. b == c) part h
parts_of-joined c part (next ∷ parts) h hs =
    slice_split_at (λ b. b == c) part c (joined c (next ∷ parts)) h (same_byte c)
    ∙ ap (λ (rest : List (List ℕ)). part ∷ rest) (parts_of-joined c next parts hs.0 hs.1)

pub parts_of-behind : (c : ℕ) (part : List ℕ) (parts : List (List ℕ)) → IsWithout c part → AreWithout c parts →
    parts_of c (behind c (part ∷ parts)) ≡ [] ∷ part ∷ parts
parts_of-behind c part parts h hs =
    slice_split-cons_yes (λ b. b == c) c (joined c (part ∷ parts)) (same_byte c)
    ∙ ap (λ (rest : List (List ℕ)). [] ∷ rest) (parts_of-joined c part parts h hs)

join-joined : (c : ℕ) (part : List ℕ) (parts : List (List ℕ)) → join_with_byte c (part ∷ parts) ≡ joined c (part ∷ parts)
join-joined c part [] = sym (append-nil part)
join-joined c part (next ∷ parts) = ap (λ (rest : List ℕ). part ++ (c ∷ rest)) (join-joined c next parts)

-- what was cut joins again
pub joined-parts_of : (c : ℕ) (bytes part : List ℕ) (parts : List (List ℕ)) → parts_of c bytes ≡ part ∷ parts → joined c (part ∷ parts) ≡ bytes
joined-parts_of c bytes part parts e =
    sym (join-joined c part parts) ∙ ap (λ (all : List (List ℕ)). join_with_byte c all) (sym e) ∙ join_with_byte-slice_split c bytes

pub IsWithout-of : (c : ℕ) (P : ℕ → Type 0) → ((b : ℕ) → P b → (b == c) ≡ false) → (bytes : List ℕ) → All P bytes → IsWithout c bytes
IsWithout-of c P other bytes all = λ k d lt. other _ (all k d lt)
