-- Slots and parts that are moved from one list to another.
use Rattle.std.proofs.Common.{ℕ, ◌+◌, ◌/◌, ◌<◌, ◌≡◌, ◌∙◌, List, [], ◌∷◌, ◌++◌, length, map, reverse, sym, ap, arith, append_assoc, length-append}
use Rattle.std.proofs.lemmas.List.{length-map, length-reverse, map-append, reverse-append}

-- the last one was taken
pub one_less : {A : Type 0} (old rest : List A) (a : A) → old ≡ rest ++ a ∷ [] → length old ≡ length rest + 1
one_less old rest a e = ap (λ xs. length xs) e ∙ length-append rest (a ∷ [])

pub last_first : {A R : Type 0} (f : A → R) (old rest : List A) (a : A) → old ≡ rest ++ a ∷ [] → map f (reverse old) ≡ f a ∷ map f (reverse rest)
last_first f old rest a e = ap (λ xs. map f (reverse xs)) e ∙ ap (λ xs. map f xs) (reverse-append rest (a ∷ []))

-- one more stands behind
pub one_behind : {A R : Type 0} (f : A → R) (now before : List A) (a : A) (rest : List R) → now ≡ before ++ a ∷ [] → map f now ++ rest ≡ map f before ++ (f a ∷ rest)
one_behind f now before a rest e =
    ap (λ xs. map f xs ++ rest) e ∙ ap (λ xs. xs ++ rest) (map-append f before (a ∷ [])) ∙ append_assoc (map f before) (f a ∷ []) rest

-- so many slots are left for so many bytes
pub bytes_left : (slots bytes : ℕ) → slots + 1 ≡ (bytes + 4095) / 4096 → 0 < bytes
bytes_left slots bytes e = omega (arith, e)

-- some behind none
pub together : {A B R : Type 0} (f : A → R) (h : B → R) (given first : List A) (parts : List B) → first ≡ [] → map f given ≡ map f first ++ map h parts → map f given ≡ map h parts
together f h given first parts none e = e ∙ ap (λ xs. map f xs ++ map h parts) none

pub together_length : {A B R : Type 0} (f : A → R) (h : B → R) (given first : List A) (parts : List B) → first ≡ [] → map f given ≡ map f first ++ map h parts → length given ≡ length parts
together_length f h given first parts none e =
    sym (length-map given f) ∙ ap (λ rs. length rs) (together f h given first parts none e) ∙ length-map parts h

pub turned_length : {A R : Type 0} (f : A → R) (xs : List A) → length (map f (reverse xs)) ≡ length (map f xs)
turned_length f xs = length-map (reverse xs) f ∙ length-reverse xs ∙ sym (length-map xs f)
