-- One element more of a list that is read one by one.
use Rattle.std.proofs.Common.{ℕ, ◌+◌, ◌<◌, ◌≡◌, ◌∙◌, List, [], ◌∷◌, ◌++◌, length, map, get_or, set}
use Rattle.std.proofs.Common.{take, drop, sym, ap, arith}
use Rattle.std.proofs.Math.ListN as lists
use Rattle.std.proofs.lemmas.List.{get_or-drop, length-drop, length-map, map_push, take_more}
use Rattle.std.proofs.lemmas.List.{take_more_set}
use Rattle.cfs_pmem.specs.Images.{Seen, WordStep, words_of}
use Rattle.cfs_pmem.specs.Objects.{seen_at}
use Rattle.cfs_block.specs.BlockImages.{BlockStep}
use Rattle.cfs_store_words.specs.Rows.{row_at, rows_from, tag_at, tag_in}

pub front-more : (words row : List ℕ) (at word : ℕ) → at < length words → at < length row →
    take at words ≡ take at row → word ≡ get_or row at 0 →
    take (at + 1) (set words at word) ≡ take (at + 1) row
front-more words row at word less within same is =
    take_more_set words at word less
    ∙ (ap (λ (ws : List ℕ). ws ++ word ∷ []) same
    ∙ (ap (λ (w : ℕ). take at row ++ w ∷ []) is ∙ sym (take_more row at 0 within)))

pub row-more : {X : Type 0} (f : List ℕ → X) (seens : List (Seen WordStep)) (first k : ℕ) →
    first + k < length seens →
    map f (rows_from first (k + 1) seens)
    ≡ map f (rows_from first k seens) ++ f (row_at seens (first + k)) ∷ []
row-more {X} f seens first k less =
    let rows : List (List ℕ) = map words_of seens in
    ap (map f) (take_more (drop first rows) k []
    (omega (arith, less, length-drop first rows, length-map seens words_of)))
    ∙ (map_push f (take k (drop first rows)) (get_or (drop first rows) k [])
    ∙ ap (λ (row : List ℕ). map f (take k (drop first rows)) ++ f row ∷ [])
    (get_or-drop first rows k []
    ∙ lists.get_or-map words_of seens (first + k) record { device = 0; also = []; history = [] }))

pub tag-more : (blocks : List (Seen BlockStep)) (place : ℕ) → place < length blocks →
    map tag_in (take (place + 1) blocks)
    ≡ map tag_in (take place blocks) ++ tag_at blocks place ∷ []
tag-more blocks place less =
    ap (map tag_in) (take_more blocks place record { device = 0; also = []; history = [] } less)
    ∙ map_push tag_in (take place blocks) (seen_at blocks place)
