-- Words behind words.
use Rattle.std.proofs.Common.{◌≡◌, ℕ, ◌+◌, ◌<◌, List, [], ◌∷◌, ◌++◌, length, map, take, get_or, refl, sym, ap, ◌∙◌, append_assoc}
use Rattle.std.specs.Fmt.{decimal}
use Rattle.std.proofs.lemmas.List.{append-nil, map-append, take_more}
use Rattle.cfs_dir.specs.Path.{behind_slashes}
use Rattle.cfs_words.specs.Parts.{behind}
use Rattle.cfs_words.specs.Printing.{Adds}

pub behind-append : (c : ℕ) (xs ys : List (List ℕ)) → behind c (xs ++ ys) ≡ behind c xs ++ behind c ys
behind-append c [] ys = refl
behind-append c (x ∷ xs) ys = ap (λ (rest : List ℕ). c ∷ (x ++ rest)) (behind-append c xs ys) ∙ ap (λ (all : List ℕ). c ∷ all) (sym (append_assoc x (behind c xs) (behind c ys)))

-- words are added one list after another
pub Adds-more : (old mid new : List ℕ) (xs ys : List (List ℕ)) → Adds old mid xs → Adds mid new ys → Adds old new (xs ++ ys)
Adds-more old mid new xs ys first second =
    second ∙ ap (λ (text : List ℕ). text ++ behind 32 ys) first ∙ append_assoc old (behind 32 xs) (behind 32 ys)
    ∙ ap (λ (more : List ℕ). old ++ more) (sym (behind-append 32 xs ys))

abbrev decimals : List ℕ → List (List ℕ)
decimals numbers = map (λ n. decimal n) numbers

pub numbers_more : (old mid new numbers : List ℕ) (i : ℕ) → i < length numbers → Adds old mid (decimals (take i numbers)) →
    Adds mid new (decimal (get_or numbers i 0) ∷ []) → Adds old new (decimals (take (i + 1) numbers))
numbers_more old mid new numbers i lt first second =
    rw (take_more numbers i 0 lt, map-append (λ (n : ℕ). decimal n) (take i numbers) (get_or numbers i 0 ∷ []))
    (Adds-more old mid new (decimals (take i numbers)) (decimal (get_or numbers i 0) ∷ []) first second)

behind_slashes-append : (xs ys : List (List ℕ)) → behind_slashes (xs ++ ys) ≡ behind_slashes xs ++ behind_slashes ys
behind_slashes-append [] ys = refl
behind_slashes-append (x ∷ xs) ys =
    ap (λ (rest : List ℕ). 47 ∷ (x ++ rest)) (behind_slashes-append xs ys) ∙ ap (λ (all : List ℕ). 47 ∷ all) (sym (append_assoc x (behind_slashes xs) (behind_slashes ys)))

pub names_more : (old mid new : List ℕ) (names : List (List ℕ)) (i : ℕ) (name : List ℕ) → i < length names → name ≡ get_or names i name →
    mid ≡ old ++ behind_slashes (take i names) → new ≡ (mid ++ 47 ∷ []) ++ name → new ≡ old ++ behind_slashes (take (i + 1) names)
names_more old mid new names i name lt is first second =
    let front = behind_slashes (take i names) in
    let whole : behind_slashes (take (i + 1) names) ≡ front ++ (47 ∷ name) =
    ap (λ (ns : List (List ℕ)). behind_slashes ns) (take_more names i name lt) ∙ behind_slashes-append (take i names) (get_or names i name ∷ [])
    ∙ ap (λ (n : List ℕ). front ++ (47 ∷ (n ++ []))) (sym is) ∙ ap (λ (n : List ℕ). front ++ (47 ∷ n)) (append-nil name) in
    second ∙ ap (λ (text : List ℕ). (text ++ 47 ∷ []) ++ name) first ∙ append_assoc (old ++ front) (47 ∷ []) name ∙ append_assoc old front (47 ∷ name)
    ∙ ap (λ (more : List ℕ). old ++ more) (sym whole)
