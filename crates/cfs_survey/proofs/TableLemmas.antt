-- The nodes of a table, record by record.
use Rattle.std.proofs.Common.{◌≡◌, ℕ, ◌+◌, ◌*◌, ◌<◌, zero, suc, List, [], ◌∷◌, ◌++◌, get_or, take, drop, true, false, Bool, sym, ◌∙◌, ap, arith}
use Rattle.std.proofs.lemmas.List.Elements.{All-cons, All-nil, All-weaker}
use Rattle.std.specs.Prelude.{All, ◌==◌, if◌then◌else◌}
use Rattle.std.proofs.lemmas.List.{get_or-take}
use Rattle.std.proofs.lemmas.List.{drop-drop}
use Rattle.cfs_dir.specs.declared.node.Node.{Node}
use Rattle.cfs_dir.specs.Words.{node_in, nodes_in}
use Rattle.cfs_survey.specs.Tables.{nodes_below, row, standing}

join : (b : Bool) (x : Node) (xs ys zs : List Node) → xs ≡ ys ++ zs → (if b then xs else x ∷ xs) ≡ (if b then ys else x ∷ ys) ++ zs
join true x xs ys zs e = e
join false x xs ys zs e = ap (λ rest. x ∷ rest) e

-- one record more: its node behind the others
pub nodes_in-more : (n first at : ℕ) (words : List ℕ) → first + n ≡ at → nodes_in (n + 1) first words ≡ nodes_in n first words ++ standing at (take 12 (drop (12 * n) words))
unfolding nodes_in
nodes_in-more zero first at words e =
    let same : first ≡ at = omega arith in
    let head : get_or (take 12 words) 0 0 ≡ get_or words 0 0 = get_or-take 12 words 0 0 (omega arith) in
    let none : 12 * zero ≡ 0 = omega arith in
    ap (λ ino. if ino == 0 then [] else node_in first (take 12 words) ∷ []) (sym head)
    ∙ ap (λ rec. standing rec (take 12 words)) same
    ∙ ap (λ n. standing at (take 12 (drop n words))) (sym none)
nodes_in-more (suc n) first at words e =
    let longer : suc n + 1 ≡ suc (n + 1) = omega arith in
    let behind : drop (12 * suc n) words ≡ drop (12 * n) (drop 12 words) =
    ap (λ m. drop m words) (let m : 12 * suc n ≡ 12 + 12 * n = omega arith in m) ∙ sym (drop-drop (12 * n) 12 words) in
    ap (λ m. nodes_in m first words) longer
    ∙ join (get_or words 0 0 == 0) (node_in first (take 12 words)) (nodes_in (n + 1) (suc first) (drop 12 words)) (nodes_in n (suc first) (drop 12 words)) (standing at (take 12 (drop (12 * suc n) words)))
    (nodes_in-more n (suc first) at (drop 12 words) (omega arith) ∙ ap (λ ws. nodes_in n (suc first) (drop 12 words) ++ standing at (take 12 ws)) (sym behind))

pub row_behind : (words : List ℕ) (rec : ℕ) → take 12 (drop (12 * rec) (drop 1 words)) ≡ row words rec
row_behind words rec = ap (take 12) (drop-drop (12 * rec) 1 words)

-- the nodes below the next record
pub below_next : (words : List ℕ) (rec : ℕ) → nodes_below words (rec + 1) ≡ nodes_below words rec ++ standing rec (row words rec)
below_next words rec = nodes_in-more rec 0 rec (drop 1 words) (omega arith) ∙ ap (λ ws. nodes_below words rec ++ standing rec ws) (row_behind words rec)

pub below_first : (words : List ℕ) → get_or (row words 0) 0 0 ≡ 1 → nodes_below words 1 ≡ node_in 0 (row words 0) ∷ []
unfolding nodes_in
below_first words root =
    below_next words 0 ∙ ap (λ ino. if ino == 0 then [] else node_in 0 (row words 0) ∷ []) root

split_all : (P : Node → Type 0) (b : Bool) (x : Node) (xs : List Node) → P x → All P xs → All P (if b then xs else x ∷ xs)
split_all P true x xs p all = all
split_all P false x xs p all = All-cons P x xs p all

-- the nodes of n records have their numbers
pub nodes_in-records : (n first : ℕ) (words : List ℕ) → All (λ node. node.rec < first + n) (nodes_in n first words)
unfolding nodes_in
nodes_in-records zero first words = All-nil (λ node. node.rec < first + zero)
nodes_in-records (suc n) first words =
    split_all (λ node. node.rec < first + suc n) (get_or words 0 0 == 0) (node_in first (take 12 words)) (nodes_in n (suc first) (drop 12 words))
    (let here : first < first + suc n = omega arith in here)
    (All-weaker (λ node. node.rec < suc first + n) (λ node. node.rec < first + suc n) (λ node below. omega arith) (nodes_in n (suc first) (drop 12 words)) (nodes_in-records n (suc first) (drop 12 words)))
