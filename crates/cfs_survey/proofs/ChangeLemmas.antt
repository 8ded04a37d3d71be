-- The changes that the words of records tell, and trees after several of them.
use Rattle.std.proofs.Common.{◌≡◌, ℕ, ◌+◌, ◌%◌, ◌<◌, List, [], ◌∷◌, ◌++◌, length, get_or, drop}
use Rattle.std.proofs.Common.{take, map, refl, sym, ◌∙◌, ap, ap₂, arith}
use Rattle.std.specs.Prelude.{◌==◌, Some, nat_eq, if◌then◌else◌}
use Rattle.std.proofs.lemmas.Bool.{eqb-true}
use Rattle.std.proofs.lemmas.List.{drop-drop, length-take-le, map-append}
use Rattle.std.proofs.lemmas.Grind.{get_or_after_one, take_at_read}
use Rattle.cfs_dir.specs.declared.change.Change.{Change}
use Rattle.cfs_dir.specs.declared.change.Change.TheVariants as changes
use Rattle.cfs_dir.specs.declared.node.Node.{Node}
use Rattle.cfs_dir.specs.Change.{changed, changed_by, without_replaced}
use Rattle.cfs_dir.specs.Namespace.{Namespace, node_at, placed, without}
use Rattle.cfs_dir.specs.Words.{node_in, replaced_in}
use Rattle.cfs_dir.proofs.Members.{find-Some}
use Rattle.cfs_journal.specs.Records.{change_of}
use Rattle.cfs_survey.specs.Changes.{ino_of, last_of, node_told, number_of, operation_of}
use Rattle.cfs_survey.specs.Changes.{placed_by}
use Rattle.cfs_survey.specs.Journals.{places_after, record_at, tree_after}

-- what is told behind the gate
told_node : (words : List ℕ) →
    node_in (get_or (drop 1 words) 1 0) (take 12 (drop 2 (drop 1 words))) ≡ node_told words
told_node words = ap₂ node_in (get_or_after_one words 1 0) (ap (take 12) (drop-drop 2 1 words))

pub told_create : (words : List ℕ) → operation_of words ≡ 1 →
    change_of words ≡ changes.Create (node_told words)
told_create words is =
    ap (λ op. if op == 1 then changes.Create
    (node_in (get_or (drop 1 words) 1 0) (take 12 (drop 2 (drop 1 words))))
    else if op == 3 then changes.Move
    (node_in (get_or (drop 1 words) 1 0) (take 12 (drop 2 (drop 1 words))))
    (replaced_in (get_or (drop 1 words) 14 0))
    else changes.Remove (get_or (drop 1 words) 1 0) (get_or (drop 1 words) 2 0))
    (get_or_after_one words 0 0 ∙ is)
    ∙ ap changes.Create (told_node words)

pub told_remove : (words : List ℕ) → operation_of words ≡ 2 →
    change_of words ≡ changes.Remove (number_of words) (ino_of words)
told_remove words is =
    ap (λ op. if op == 1 then changes.Create
    (node_in (get_or (drop 1 words) 1 0) (take 12 (drop 2 (drop 1 words))))
    else if op == 3 then changes.Move
    (node_in (get_or (drop 1 words) 1 0) (take 12 (drop 2 (drop 1 words))))
    (replaced_in (get_or (drop 1 words) 14 0))
    else changes.Remove (get_or (drop 1 words) 1 0) (get_or (drop 1 words) 2 0))
    (get_or_after_one words 0 0 ∙ is)
    ∙ ap₂ changes.Remove (get_or_after_one words 1 0) (get_or_after_one words 2 0)

pub told_move : (words : List ℕ) → operation_of words ≡ 3 →
    change_of words ≡ changes.Move (node_told words) (replaced_in (last_of words))
told_move words is =
    ap (λ op. if op == 1 then changes.Create
    (node_in (get_or (drop 1 words) 1 0) (take 12 (drop 2 (drop 1 words))))
    else if op == 3 then changes.Move
    (node_in (get_or (drop 1 words) 1 0) (take 12 (drop 2 (drop 1 words))))
    (replaced_in (get_or (drop 1 words) 14 0))
    else changes.Remove (get_or (drop 1 words) 1 0) (get_or (drop 1 words) 2 0))
    (get_or_after_one words 0 0 ∙ is)
    ∙ ap₂ changes.Move (told_node words) (ap replaced_in (get_or_after_one words 14 0))

-- the node of a record has its number
pub found_rec : (nodes : List Node) (rec : ℕ) (node : Node) → node_at nodes rec ≡ Some node →
    node.rec ≡ rec
found_rec nodes rec node found =
    eqb-true node.rec rec (find-Some (λ n. nat_eq n.rec rec) nodes node found).1

-- the trees that changes leave
abbrev pub made : List Node → ℕ → Namespace
made nodes next = record { nodes = nodes; next = next }

pub created_tree : (tree : Namespace) (words : List ℕ) (nodes : List Node) (node : Node) →
    operation_of words ≡ 1 → node ≡ node_told words
    → nodes ≡ placed node tree.nodes → made nodes (node.ino + 1) ≡ changed tree (change_of words)
created_tree tree words nodes node operation told are =
    ap (λ (ns : List Node). made ns (node.ino + 1)) are
    ∙ ap (λ (n : Node). changed tree (changes.Create n)) told
    ∙ ap (changed tree) (sym (told_create words operation))

pub removed_tree : (tree : Namespace) (words : List ℕ) (nodes : List Node) (rec : ℕ) →
    operation_of words ≡ 2 → rec ≡ number_of words
    → nodes ≡ without rec tree.nodes → made nodes tree.next ≡ changed tree (change_of words)
removed_tree tree words nodes rec operation own are =
    ap (λ (ns : List Node). made ns tree.next) are
    ∙ ap (λ (r : ℕ). changed tree (changes.Remove r (ino_of words))) own
    ∙ ap (changed tree) (sym (told_remove words operation))

pub moved_tree : (tree : Namespace) (words : List ℕ) (first second nodes : List Node)
    (node : Node) → operation_of words ≡ 3 → node ≡ node_told words
    → first ≡ without_replaced (replaced_in (last_of words)) tree.nodes →
    second ≡ without node.rec first → nodes ≡ placed node second
    → made nodes tree.next ≡ changed tree (change_of words)
moved_tree tree words first second nodes node operation told replaced gone are =
    ap (λ (ns : List Node). made ns tree.next) are
    ∙ ap (λ (ns : List Node). made (placed node ns) tree.next) gone
    ∙ ap (λ (ns : List Node). made (placed node (without node.rec ns)) tree.next) replaced
    ∙ ap (λ (n : Node). changed tree (changes.Move n (replaced_in (last_of words)))) told
    ∙ ap (changed tree) (sym (told_move words operation))

-- one change more
changed_by-last : (tree : Namespace) (xs : List Change) (x : Change) →
    changed_by tree (xs ++ x ∷ []) ≡ changed (changed_by tree xs) x
changed_by-last tree [] x = refl
changed_by-last tree (first ∷ rest) x = changed_by-last (changed tree first) rest x

tree_push : (table : Namespace) (xs : List (List ℕ)) (x : List ℕ) →
    tree_after table (xs ++ x ∷ []) ≡ changed (tree_after table xs) (change_of x)
tree_push table xs x = ap (changed_by table) (map-append change_of xs (x ∷ [])) ∙
    changed_by-last table (map change_of xs) (change_of x)

places_push : (at through : ℕ) (places : List ℕ) (xs : List (List ℕ)) (x : List ℕ) (n : ℕ) →
    n ≡ through + length xs
    → places_after at through places (xs ++ x ∷ [])
    ≡ placed_by (record_at at (n % 64)) x (places_after at through places xs)
places_push at through places [] x n e =
    let same : through ≡ n = omega arith in
    ap (λ m. placed_by (record_at at (m % 64)) x places) same
places_push at through places (first ∷ rest) x n e =
    places_push at (through + 1) (placed_by (record_at at (through % 64)) first places) rest x n
    (omega arith)

pub tree_more : (table : Namespace) (xs : List (List ℕ)) (k : ℕ) → k < length xs
    → tree_after table (take (k + 1) xs)
    ≡ changed (tree_after table (take k xs)) (change_of (get_or xs k []))
tree_more table xs k below = ap (tree_after table) (take_at_read xs k [] below).1 ∙
    tree_push table (take k xs) (get_or xs k [])

pub places_more : (at through : ℕ) (places : List ℕ) (xs : List (List ℕ)) (k : ℕ) → k < length xs
    → places_after at through places (take (k + 1) xs)
    ≡ placed_by (record_at at ((through + k) % 64)) (get_or xs k [])
    (places_after at through places (take k xs))
places_more at through places xs k below =
    let front : length (take k xs) ≡ k = length-take-le k xs (omega arith) in
    ap (places_after at through places) (take_at_read xs k [] below).1
    ∙ places_push at through places (take k xs) (get_or xs k []) (through + k) (omega arith)
