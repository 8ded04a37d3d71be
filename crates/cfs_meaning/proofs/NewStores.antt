-- The devices of a new store have everything home.
use Rattle.std.proofs.Common.{◌≡◌, ℕ, zero, suc, ◌+◌, ◌-◌, ◌<◌, List, []}
use Rattle.std.proofs.Common.{◌∷◌, ◌++◌, length, map, drop, take, get_or, refl, sym, ap, ◌∙◌, subst}
use Rattle.std.proofs.Common.{if◌then◌else◌, arith}
use Rattle.std.specs.Prelude.{◌==◌, replicate}
use Rattle.std.specs.List.{All, enumerate_from, range_with_len}
use Rattle.std.proofs.lemmas.Bool.{ne_eqb}
use Rattle.std.proofs.lemmas.Bool.Decides.{nat_tests}
use Rattle.std.proofs.lemmas.List.{drop-replicate, get_or-drop, get_or-map, get_or-replicate}
use Rattle.std.proofs.lemmas.List.{get_or-take, length-map, length-replicate, length-take}
use Rattle.std.proofs.lemmas.List.FromFn.{get_or-enumerate_from, get_or-map-range_with_len}
use Rattle.std.proofs.lemmas.List.FromFn.{length-enumerate_from, length-map-range_with_len}
use Rattle.cfs_pmem.specs.Images as regions
use Rattle.cfs_pmem.specs.Images.{IsSure, Seen, WordStep, words_of}
use Rattle.cfs_pmem.proofs.ImageLemmas.{sure_began}
use Rattle.cfs_block.specs.BlockImages as blocks
use Rattle.cfs_block.specs.BlockImages.{BlockStep, Content, IsSureBlock}
use Rattle.cfs_block.proofs.BlockLemmas as block_lemmas
use Rattle.cfs_dir.specs.Change.{changed_by}
use Rattle.cfs_dir.specs.Namespace.{Namespace}
use Rattle.cfs_dir.specs.Tree.{IsTree, root_of}
use Rattle.cfs_dir.specs.Words.{node_in, nodes_in, table_in}
use Rattle.cfs_dir.proofs.Listed.{IsTree-root}
use Rattle.cfs_journal.specs.Records.{change_of, gate_of}
use Rattle.cfs_journal.specs.Standing.{changes_above, walk}
use Rattle.cfs_ckpt.specs.Loads.{Loaded, loaded, selected, word_in}
use Rattle.cfs_names.specs.Recovered.{recovered}
use Rattle.cfs_image.specs.Fresh.{front_of, new_content, new_table, new_words}
use Rattle.cfs_image.specs.Layout.{region_count, region_words}
use Rattle.cfs_meaning.specs.Drive.{region_at}
use Rattle.cfs_meaning.specs.Steps.{size_word}
use Rattle.cfs_meaning.specs.Mounting.{files_of, recovered_tree, tree_words}
use Rattle.cfs_meaning.specs.Devices.{HasWord, IsEvenBlock, IsEvenRegion}
use Rattle.cfs_meaning.specs.Home.{IsFileHome, NewStoresAreHome, new_drive}

-- ---- regions and blocks

from-zero : (k : ℕ) → 0 + k ≡ k
from-zero k = omega arith

abbrev new_list : ℕ → List (List ℕ)
new_list queues = map new_words (range_with_len 0 (region_count queues))

list-long : (queues : ℕ) → length (new_list queues) ≡ region_count queues
list-long queues = length-map-range_with_len new_words 0 (region_count queues)

pub regions-long : (count queues : ℕ) →
    length (new_drive count queues).regions ≡ region_count queues
regions-long count queues =
    length-map (enumerate_from 0 (new_list queues))
    (λ (w : ℕ × List ℕ). regions.began w.0 w.1)
    ∙ length-enumerate_from 0 (new_list queues) ∙ list-long queues

pub region-new : (count queues k : ℕ) (d : Seen WordStep) → k < region_count queues →
    get_or (new_drive count queues).regions k d ≡ regions.began k (new_words k)
region-new count queues k d low =
    let long = list-long queues in
    let numbered = length-enumerate_from 0 (new_list queues) in
    let none : ℕ × List ℕ = (0, []) in
    get_or-map (λ (w : ℕ × List ℕ). regions.began w.0 w.1) (enumerate_from 0 (new_list queues)) k
    none d (omega (arith, low, long, numbered))
    ∙ ap (λ (w : ℕ × List ℕ). regions.began w.0 w.1)
    (get_or-enumerate_from 0 (new_list queues) k none (omega (arith, low, long)))
    ∙ ap (λ n. regions.began n (get_or (new_list queues) k [])) (from-zero k)
    ∙ ap (λ words. regions.began k words)
    (get_or-map-range_with_len new_words 0 (region_count queues) k k [] low (omega arith))

abbrev content_list : ℕ → List Content
content_list count = replicate count new_content

blocks-long : (count queues : ℕ) → length (new_drive count queues).blocks ≡ count
blocks-long count queues =
    length-map (enumerate_from (length (new_list queues)) (content_list count))
    (λ (c : ℕ × Content). blocks.began c.0 c.1)
    ∙ length-enumerate_from (length (new_list queues)) (content_list count)
    ∙ length-replicate count new_content

block-new : (count queues k : ℕ) (d : Seen BlockStep) → k < count →
    get_or (new_drive count queues).blocks k d
    ≡ blocks.began (length (new_list queues) + k) new_content
block-new count queues k d low =
    let from : ℕ = length (new_list queues) in
    let long = length-replicate count new_content in
    let numbered = length-enumerate_from from (content_list count) in
    let none : ℕ × Content = (0, new_content) in
    get_or-map (λ (c : ℕ × Content). blocks.began c.0 c.1)
    (enumerate_from from (content_list count)) k none d (omega (arith, low, long, numbered))
    ∙ ap (λ (c : ℕ × Content). blocks.began c.0 c.1)
    (get_or-enumerate_from from (content_list count) k none (omega (arith, low, long)))
    ∙ ap (λ content. blocks.began (from + k) content)
    (get_or-replicate count k new_content new_content low)

-- P holds of each region of a new store
each-region : (P : Seen WordStep → Type 0) (count queues : ℕ) →
    ((k : ℕ) → P (regions.began k (new_words k))) → All P (new_drive count queues).regions
each-region P count queues all = λ k d low.
    let long = regions-long count queues in
    subst P (sym (region-new count queues k d (omega (arith, low, long)))) (all k)

pub each-block : (P : Seen BlockStep → Type 0) (count queues : ℕ) →
    ((number : ℕ) → P (blocks.began number new_content)) → All P (new_drive count queues).blocks
each-block P count queues all = λ k d low.
    let long = blocks-long count queues in
    subst P (sym (block-new count queues k d (omega (arith, low, long))))
    (all (length (new_list queues) + k))

-- ---- size words

abbrev pub zeros : ℕ → List ℕ
zeros n = replicate n 0

pub size-words : (rec : ℕ) → rec < 256 → new_words (67 + rec) ≡ 0 ∷ []
size-words rec low =
    ap (λ front. front ++ zeros (region_words (67 + rec) - length front)) no_front
    ∙ ap (λ n. zeros (n - 0)) one
  where
    no_front : front_of (67 + rec) ≡ []
    no_front = ap (λ b. if b then new_table else []) (ne_eqb (67 + rec) 1 (λ is. omega arith))

    one : region_words (67 + rec) ≡ 1
    one = grind (arith, nat_tests)

pub new-size : (count queues rec : ℕ) → rec < 256 →
    HasWord (new_drive count queues) (size_word rec)
new-size count queues rec low = record {
  within = (let long = regions-long count queues in omega (arith, low, long));
  word =
      let here : region_at (new_drive count queues) (67 + rec)
      ≡ regions.began (67 + rec) (new_words (67 + rec)) =
      region-new count queues (67 + rec) _ (omega (arith, low)) in
      subst (λ (s : Seen WordStep). 0 < length (words_of s)) (sym here)
      (subst (λ (words : List ℕ). 0 < length words) (sym (size-words rec low)) (omega arith));
}

-- ---- the tree

abbrev pub new_tree : Namespace
new_tree = record { nodes = root_of 511 0 0 ∷ []; next = 2 }

no-nodes : (n rec m : ℕ) → nodes_in n rec (zeros m) ≡ []
unfolding nodes_in
no-nodes zero rec m = refl
no-nodes (suc n) rec m =
    ap (λ b. if b then nodes_in n (suc rec) (drop 12 (zeros m))
    else node_in rec (take 12 (zeros m)) ∷ nodes_in n (suc rec) (drop 12 (zeros m)))
    (ap (λ word. word == 0) (first m))
    ∙ ap (nodes_in n (suc rec)) (drop-replicate 12 m 0) ∙ no-nodes n (suc rec) (m - 12)
  where
    first : (k : ℕ) → get_or (zeros k) 0 0 ≡ 0
    first zero = refl
    first (suc k) = refl

root-first : (n : ℕ) (rest : List ℕ) →
    nodes_in (suc n) 0 (1 ∷ 1 ∷ 2 ∷ 511 ∷ 0 ∷ 0 ∷ 0 ∷ 0 ∷ 0 ∷ 0 ∷ 0 ∷ 0 ∷ rest)
    ≡ root_of 511 0 0 ∷ nodes_in n 1 rest
unfolding nodes_in
root-first n rest = refl

zeros-split : (n : ℕ) → zeros (n + 8) ≡ 0 ∷ 0 ∷ 0 ∷ 0 ∷ 0 ∷ 0 ∷ 0 ∷ 0 ∷ zeros n
zeros-split n = ap zeros (by_suc n)
  where
    by_suc : (m : ℕ) → m + 8 ≡ suc (suc (suc (suc (suc (suc (suc (suc m)))))))
    by_suc m = omega arith

table-new : table_in (new_words 1) ≡ new_tree
table-new =
    ap (λ nodes. record { nodes = nodes; next = 2 })
    (ap (λ words. nodes_in 256 0 (1 ∷ 1 ∷ 2 ∷ 511 ∷ words)) (zeros-split 3060)
    ∙ root-first 255 (zeros 3060)
    ∙ ap (λ nodes. root_of 511 0 0 ∷ nodes) (no-nodes 255 1 3060))

pub none-above : (images : List (List ℕ)) → get_or images 0 [] ≡ zeros 16 →
    changes_above 0 images ≡ []
unfolding walk
none-above images blank =
    ap (λ (words : List ℕ). map change_of
    (if gate_of words == 1 then words ∷ walk 63 1 images else [])) blank

pub loads-new : (images : List (List ℕ)) → get_or images 0 [] ≡ new_words 0 →
    get_or images 1 [] ≡ new_words 1 → loaded images ≡ record { tree = new_tree; through = 0 }
loads-new images first second =
    ap (λ words. selected (word_in words) images) first
    ∙ ap (λ words. record { tree = table_in words; through = 0 }) second
    ∙ ap (λ tree. record { tree = tree; through = 0 }) table-new

recovers-new : (images : List (List ℕ)) → get_or images 0 [] ≡ new_words 0 →
    get_or images 1 [] ≡ new_words 1 → get_or images 3 [] ≡ new_words 3 →
    recovered images ≡ new_tree
recovers-new images first second third =
    ap (λ (x : Loaded). changed_by x.tree (changes_above x.through (drop 3 images)))
    (loads-new images first second)
    ∙ ap (changed_by new_tree)
    (none-above (drop 3 images) (get_or-drop 3 images 0 [] ∙ third))

pub words-new : (count queues k : ℕ) → k < 67 →
    get_or (tree_words (new_drive count queues)) k [] ≡ new_words k
words-new count queues k low =
    let long = regions-long count queues in
    let front = length-take 67 (new_drive count queues).regions in
    let none : Seen WordStep = regions.began 0 [] in
    get_or-map words_of (take 67 (new_drive count queues).regions) k none []
    (omega (arith, low, long, front))
    ∙ ap words_of
    (get_or-take 67 (new_drive count queues).regions k none low
    ∙ region-new count queues k none (omega (arith, low)))

pub tree-new : (count queues : ℕ) → recovered_tree (new_drive count queues) ≡ new_tree
tree-new count queues =
    recovers-new (tree_words (new_drive count queues))
    (words-new count queues 0 (omega arith)) (words-new count queues 1 (omega arith))
    (words-new count queues 3 (omega arith))

-- ---- the whole

pub new-stores-are-home : NewStoresAreHome
new-stores-are-home count queues = record {
  regions = each-region IsSure count queues (λ k. sure_began k (new_words k));
  blocks = each-block IsSureBlock count queues
      (λ number. block_lemmas.sure_began number new_content);
  even = record {
    regions = each-region IsEvenRegion count queues (λ k. refl);
    blocks = each-block IsEvenBlock count queues
        (λ number. (length-replicate {A = ℕ} 4096 0, length-replicate {A = ℕ} 4096 0));
  };
  sizes = new-size count queues;
  tree = subst (λ tree. IsTree tree.nodes tree.next) (sym (tree-new count queues))
      (IsTree-root 511 0 0 2 (omega arith) (omega arith) (omega arith) (omega arith)
      (omega arith));
  files = subst (λ tree. All (IsFileHome (new_drive count queues)) (files_of tree))
      (sym (tree-new count queues)) (λ k d low. absurd (omega (arith, low)));
}
