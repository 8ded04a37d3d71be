-- The tails of a head by number, and the inode numbers of files.
use Rattle.std.proofs.Common.{◌≡◌, ◌∙◌, ℕ, zero, suc, ◌+◌, ◌/◌, ◌%◌, ◌<◌, Bool, true, false}
use Rattle.std.proofs.Common.{List, [], ◌∷◌, ◌++◌, append_assoc, sym, ap, subst, refl, arith}
use Rattle.std.specs.Prelude.{All, ◌==◌, ◌&&◌, if◌then◌else◌, Some, not}
use Rattle.std.specs.Option.{option_map_or}
use Rattle.std.proofs.lemmas.Bool.{eqb-true}
use Rattle.std.proofs.lemmas.List.{append-nil}
use Rattle.std.proofs.lemmas.List.Elements.{All-head, All-tail}
use Rattle.cfs_dir.specs.declared.node.Node.{Node}
use Rattle.cfs_dir.specs.Namespace.{is_directory, node_of}
use Rattle.cfs_slot.specs.Tails.{numbers_from}
use Rattle.cfs_slot.specs.Words.{gate_of, ino_of}
use Rattle.cfs_survey.specs.Slots.{is_entry}
use Rattle.cfs_survey.specs.Tags.{is_file}

-- the numbers found so far, and one more
pub numbers_more : (most n number bits : ℕ) (found more all : List ℕ) → most ≡ n + 1 →
    all ≡ found ++ numbers_from most number bits
    → more ≡ found ++ (if bits % 2 == 1 then number ∷ [] else [])
    → all ≡ more ++ numbers_from n (number + 1) (bits / 2)
numbers_more zero n number bits found more all one before here = absurd (omega (arith, one))
numbers_more (suc m) n number bits found more all one before here =
    let same : m ≡ n = omega (arith, one) in
    before
    ∙ sym (append_assoc found (if bits % 2 == 1 then number ∷ [] else [])
    (numbers_from m (number + 1) (bits / 2)))
    ∙ ap (λ xs. xs ++ numbers_from m (number + 1) (bits / 2)) (sym here)
    ∙ ap (λ k. more ++ numbers_from k (number + 1) (bits / 2)) same

-- no more numbers
pub numbers_done : (n number bits : ℕ) (found all : List ℕ) → n ≡ 0 →
    all ≡ found ++ numbers_from n number bits → found ≡ all
numbers_done zero number bits found all none whole = sym (whole ∙ append-nil found)
numbers_done (suc n) number bits found all none whole = absurd (omega (arith, none))

-- the inode number of a file is one of the nodes'
pub file_low : (bound ino : ℕ) (nodes : List Node) → All (λ node. node.ino < bound) nodes →
    is_file nodes ino ≡ true → ino < bound
file_low bound ino [] low file = absurd (cc)
file_low bound ino (node ∷ nodes) low file =
    split (node.ino == ino) (λ e. eqb-true node.ino ino e)
    (file_low bound ino nodes (All-tail (λ node. node.ino < bound) node nodes low)) file
  where
    split : (b : Bool) → (b ≡ true → node.ino ≡ ino) → (is_file nodes ino ≡ true → ino < bound)
        → option_map_or (λ node. not (is_directory node.kind))
        (if b then Some node else node_of nodes ino) false ≡ true
        → ino < bound
    split true same deeper e =
        subst (λ n. n < bound) (same refl)
        (All-head (λ node. node.ino < bound) node nodes low)
    split false same deeper e = deeper e

-- so is that of an open slot of a file
pub entry_low : (bound : ℕ) (nodes : List Node) (words : List ℕ) →
    All (λ node. node.ino < bound) nodes → is_entry nodes words ≡ true → ino_of words < bound
entry_low bound nodes words low entry =
    split (not (gate_of words == 0)) entry
  where
    split : (b : Bool) → (b && is_file nodes (ino_of words)) ≡ true → ino_of words < bound
    split false e = absurd (cc)
    split true e = file_low bound (ino_of words) nodes low e
