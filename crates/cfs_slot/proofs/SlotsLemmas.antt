-- All slots of a request, one after another.
use Rattle.std.proofs.Common.{ℕ, zero, suc, ◌+◌, ◌<◌, ◌≡◌, ◌∙◌, ◌^◌, List, [], ◌∷◌, ◌++◌, length, get_or, take, map, reverse, sym, ap, arith, append_assoc}
use Rattle.std.proofs.lemmas.List.{append-nil, map-append, reverse-append, reverse-reverse}
use Rattle.cfs_slot.specs.Tails.{set_of}

-- at first
pub none_moved : {A B R : Type 0} (f : A → R) (h : B → R) (first : A) (before now : List B) → now ≡ reverse before
    → map f (first ∷ []) ++ map h (reverse now) ≡ f first ∷ map h before
none_moved f h first before now is = ap (λ bs. f first ∷ map h bs) (ap (λ bs. reverse bs) is ∙ reverse-reverse before)

-- the last value was taken
pub one_taken : {B R : Type 0} (h : B → R) (done : List R) (old rest : List B) (b : B) → old ≡ rest ++ b ∷ []
    → (done ++ h b ∷ []) ++ map h (reverse rest) ≡ done ++ map h (reverse old)
one_taken h done old rest b is =
    append_assoc done (h b ∷ []) (map h (reverse rest))
    ∙ ap (λ bs. done ++ map h bs) (sym (ap (λ bs. reverse bs) is ∙ reverse-append rest (b ∷ [])))

-- and moved
pub one_moved : {A B R : Type 0} (f : A → R) (h : B → R) (done : List A) (old rest : List B) (a : A) (b : B) → f a ≡ h b → old ≡ rest ++ b ∷ []
    → map f (done ++ a ∷ []) ++ map h (reverse rest) ≡ map f done ++ map h (reverse old)
one_moved f h done old rest a b same is =
    ap (λ xs. xs ++ map h (reverse rest)) (map-append f done (a ∷ []))
    ∙ ap (λ x. (map f done ++ x ∷ []) ++ map h (reverse rest)) same
    ∙ one_taken h (map f done) old rest b is

-- one more number in a set
pub set_more : (numbers : List ℕ) (i n : ℕ) → i < length numbers → n ≡ get_or numbers i n → set_of (take (i + 1) numbers) ≡ set_of (take i numbers) + 2 ^ n
set_more [] i n l is = absurd (omega arith)
set_more (number ∷ numbers) zero n l is = ap (λ k. 2 ^ k + 0) (sym is) ∙ omega arith
set_more (number ∷ numbers) (suc i) n l is =
    let step : suc i + 1 ≡ suc (i + 1) = omega arith in
    ap (λ k. set_of (take k (number ∷ numbers))) step ∙ ap (λ s. 2 ^ number + s) (set_more numbers i n (omega arith) is) ∙ omega arith

-- all were moved
pub all_moved : {B R : Type 0} (h : B → R) (done all : List R) (left : List B) → left ≡ [] → done ++ map h (reverse left) ≡ all → done ≡ all
all_moved h done all left none e =
    sym (append-nil done) ∙ sym (ap (λ bs. done ++ map h (reverse bs)) none) ∙ e
