-- What a table that passes its checks says of its tree.
use Rattle.std.proofs.Common.{◌≡◌, ℕ, ◌+◌, ◌≤◌, zero, suc, List, [], ◌∷◌, get_or, take, drop, true, false, Bool, refl, arith}
use Rattle.std.specs.Prelude.{All, IsTrue, None, Option, Some, IsSomeAnd, ◌==◌, if◌then◌else◌}
use Rattle.std.specs.List.{flat_map}
use Rattle.std.specs.Option.{option_map_or}
use Rattle.std.proofs.lemmas.Bool.{leb-true}
use Rattle.std.proofs.lemmas.List.Elements.{All-cons, All-nil, All-weaker}
use Rattle.cfs_dir.specs.declared.kind.Kind.{Kind}
use Rattle.cfs_dir.specs.declared.kind.Kind.TheVariants.{Directory, File}
use Rattle.cfs_dir.specs.declared.node.Node.{Node}
use Rattle.cfs_dir.specs.Namespace.{is_directory, node_of}
use Rattle.cfs_dir.specs.Tree.{AreAscendingFrom, leads_to_root}
use Rattle.cfs_dir.specs.Words.{node_in, nodes_in}
use Rattle.cfs_image.specs.Checks.{Check, check, damage_of}
use Rattle.cfs_survey.specs.Faults.{at_least, at_most}
use Rattle.cfs_survey.specs.Places.{names_directory, place_checks, places_checks}
use Rattle.cfs_survey.specs.Tables.{next_checks}
use Rattle.cfs_survey.proofs.FirstFaults.{passed, sound_parts}

-- where the checks of all members hold, those of each do
pub all_sound : {A : Type 0} (each : A → List Check) (xs : List A) → damage_of (flat_map each xs) ≡ None → All (λ x. damage_of (each x) ≡ None) xs
all_sound each [] sound = All-nil (λ x. damage_of (each x) ≡ None)
all_sound each (x ∷ xs) sound =
    let parts = sound_parts (each x) (flat_map each xs) sound in
    All-cons (λ x. damage_of (each x) ≡ None) x xs parts.0 (all_sound each xs parts.1)

-- the next inode number has its bounds
pub next_bounds : (at next : ℕ) → damage_of (next_checks at next) ≡ None → (2 ≤ next) × (next ≤ 4294967296)
unfolding next_checks
next_bounds at next sound =
    let parts = sound_parts (at_least 2 at next ∷ []) (at_most 4294967296 at next ∷ []) sound in
    (leb-true 2 next (passed (at_least 2 at next) parts.0), leb-true next 4294967296 (passed (at_most 4294967296 at next) parts.1))

directory_kind : (kind : Kind) → is_directory kind ≡ true → kind ≡ Directory
directory_kind Directory h = refl
directory_kind File h = absurd (cc)

pub found_directory : (found : Option Node) → option_map_or (λ node. is_directory node.kind) found false ≡ true
    → IsSomeAnd found (λ parent. parent.kind ≡ Directory)
found_directory None h = absurd (cc)
found_directory (Some node) h = directory_kind node.kind h

-- each parent is a directory, and at most 16 parents lead from each node to the root
pub parents_hold : (place : ℕ → ℕ) (nodes : List Node) → damage_of (places_checks place nodes) ≡ None
    → All (λ node. IsSomeAnd (node_of nodes node.parent) (λ parent. parent.kind ≡ Directory)) nodes
unfolding places_checks
parents_hold place nodes sound =
    All-weaker (λ node. damage_of (place_checks (place node.rec) nodes node) ≡ None) (λ node. IsSomeAnd (node_of nodes node.parent) (λ parent. parent.kind ≡ Directory))
    (λ node here.
    let first = check (names_directory nodes node.parent) (place node.rec + 8) node.parent 0 in
    found_directory (node_of nodes node.parent) (passed first (sound_parts (first ∷ []) (drop 1 (place_checks (place node.rec) nodes node)) here).0))
    nodes (all_sound (λ node. place_checks (place node.rec) nodes node) nodes sound)

pub depths_hold : (place : ℕ → ℕ) (nodes : List Node) → damage_of (places_checks place nodes) ≡ None
    → All (λ node. IsTrue (leads_to_root 16 nodes node.ino)) nodes
unfolding places_checks
depths_hold place nodes sound =
    All-weaker (λ node. damage_of (place_checks (place node.rec) nodes node) ≡ None) (λ node. IsTrue (leads_to_root 16 nodes node.ino))
    (λ node here.
    let last = check (leads_to_root 16 nodes node.ino) (place node.rec) node.ino 16 in
    passed last (sound_parts (take 2 (place_checks (place node.rec) nodes node)) (last ∷ []) here).1)
    nodes (all_sound (λ node. place_checks (place node.rec) nodes node) nodes sound)

-- the nodes of n records stand by ascending record
later : (nodes : List Node) (m n : ℕ) → m ≤ n → AreAscendingFrom n nodes → AreAscendingFrom m nodes
later [] m n low h = tt
later (node ∷ nodes) m n low h = (omega (arith, h.0), h.1)

pub nodes_in-ascend : (n first : ℕ) (words : List ℕ) → AreAscendingFrom first (nodes_in n first words)
unfolding nodes_in
nodes_in-ascend zero first words = tt
nodes_in-ascend (suc n) first words = split (get_or words 0 0 == 0) (nodes_in-ascend n (suc first) (drop 12 words))
  where
    split : (b : Bool) → AreAscendingFrom (suc first) (nodes_in n (suc first) (drop 12 words))
        → AreAscendingFrom first (if b then nodes_in n (suc first) (drop 12 words) else node_in first (take 12 words) ∷ nodes_in n (suc first) (drop 12 words))
    split true deeper = later (nodes_in n (suc first) (drop 12 words)) first (suc first) (omega arith) deeper
    split false deeper = (let same : first ≤ first = omega arith in same, deeper)
