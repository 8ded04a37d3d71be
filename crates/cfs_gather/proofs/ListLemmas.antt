-- Lists that grow at their end.
use Rattle.std.proofs.Common.{subst, ◌≡◌, ◌∙◌, refl, List, [], ◌∷◌, ◌++◌, map, reverse, sym, ap, append_assoc}
use Rattle.std.specs.List.{flat_map}
use Rattle.std.specs.List.Sorted.{IsPermutation}
use Rattle.std.proofs.lemmas.List.Sorted.{IsPermutation-map}
use Rattle.std.proofs.lemmas.Grind.{flat_map-append}
use Rattle.std.proofs.lemmas.List.{append-nil, flat_map_more, map-append, reverse-append, reverse-reverse}

-- one more was moved
pub one_more : {X A : Type 0} (f : X → A) (old now next : List A) (xs : List X) (x : X)
    → now ≡ old ++ map f xs → next ≡ now ++ f x ∷ [] → next ≡ old ++ map f (xs ++ x ∷ [])
one_more f old now next xs x was is =
    is ∙ ap (λ l. l ++ f x ∷ []) was ∙ append_assoc old (map f xs) (f x ∷ [])
    ∙ ap (λ l. old ++ l) (sym (map-append f xs (x ∷ [])))

-- all of one more were moved
pub some_more : {X Y A : Type 0} (f : Y → List A) (t : X → Y) (old now next : List A) (xs : List X)
    (x : X) → now ≡ old ++ flat_map f (map t xs) → next ≡ now ++ f (t x)
    → next ≡ old ++ flat_map f (map t (xs ++ x ∷ []))
some_more f t old now next xs x was is =
    is ∙ ap (λ l. l ++ f (t x)) was ∙ append_assoc old (flat_map f (map t xs)) (f (t x))
    ∙ ap (λ l. old ++ (flat_map f (map t xs) ++ l)) (sym (append-nil (f (t x))))
    ∙ ap (λ l. old ++ l) (sym (ap (λ l. flat_map f l) (map-append t xs (x ∷ []))
    ∙ flat_map-append f (map t xs) (t x ∷ [])))

-- the last of those that are left was moved
pub last_moved : {X A : Type 0} (f : X → A) (now next : List A) (left rest : List X) (x : X)
    → left ≡ rest ++ x ∷ [] → next ≡ now ++ f x ∷ []
    → next ++ map f (reverse rest) ≡ now ++ map f (reverse left)
last_moved f now next left rest x was is =
    ap (λ l. l ++ map f (reverse rest)) is ∙ append_assoc now (f x ∷ []) (map f (reverse rest))
    ∙ ap (λ l. now ++ map f l) (sym (ap (λ l. reverse l) was ∙ reverse-append rest (x ∷ [])))

-- none is left
pub none_left : {X A : Type 0} (f : X → A) (all done : List A) (left : List X) → left ≡ []
    → done ++ map f (reverse left) ≡ all → done ≡ all
none_left f all done left none e =
    sym (append-nil done) ∙ sym (ap (λ l. done ++ map f (reverse l)) none) ∙ e

-- the same of what is in it
pub one_more_in : {X Y A : Type 0} (f : Y → A) (t : X → Y) (old now next : List A) (xs : List X)
    (x : X) → now ≡ old ++ map f (map t xs) → next ≡ now ++ f (t x) ∷ []
    → next ≡ old ++ map f (map t (xs ++ x ∷ []))
one_more_in f t old now next xs x was is =
    one_more f old now next (map t xs) (t x) was is
    ∙ ap (λ l. old ++ map f l) (sym (map-append t xs (x ∷ [])))

pub map_in : {X Y A : Type 0} (f : Y → A) (t : X → Y) (xs : List X)
    → map (λ x. f (t x)) xs ≡ map f (map t xs)
map_in f t [] = refl
map_in f t (x ∷ xs) = ap (λ l. f (t x) ∷ l) (map_in f t xs)

-- all of one more were moved, where none is told as something else
pub any_more : {X A : Type 0} (f : X → List A) (old now next : List A) (xs : List X)
    (x : X) → now ≡ old ++ flat_map f xs → next ≡ now ++ f x
    → next ≡ old ++ flat_map f (xs ++ x ∷ [])
any_more f old now next xs x was is =
    is ∙ ap (λ l. l ++ f x) was ∙ flat_map_more f old xs x

-- all were turned round
pub all_turned : {X Y A : Type 0} (f : Y → A) (t : X → Y) (old : List A) (before now : List X)
    → now ≡ reverse before
    → old ++ map (λ x. f (t x)) (reverse now) ≡ old ++ map f (map t before)
all_turned f t old before now is =
    ap (λ l. old ++ map (λ x. f (t x)) l) (ap (λ l. reverse l) is ∙ reverse-reverse before)
    ∙ ap (λ l. old ++ l) (map_in f t before)

-- what is told of lists that are the same but for the order
pub told_permutation : {X A : Type 0} (f : X → A) (all : List A) (before now : List X)
    → map f before ≡ all → IsPermutation before now → IsPermutation all (map f now)
told_permutation f all before now is same =
    subst (λ l. IsPermutation l (map f now)) is (IsPermutation-map f before now same)
