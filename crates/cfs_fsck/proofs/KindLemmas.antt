-- The kinds of inode numbers, node by node.
use Rattle.std.proofs.Common.{◌≡◌, ◌∙◌, ℕ, ◌+◌, ◌<◌, List, [], ◌∷◌, ◌++◌, length, take, get_or, not, refl, sym, ap}
use Rattle.std.specs.Prelude.{Option, Some, None, nat_eq, ◌==◌}
use Rattle.std.specs.HashMap.{get}
use Rattle.std.specs.Option.{option_map, option_or}
use Rattle.std.proofs.lemmas.List.Folds.{find-append}
use Rattle.std.proofs.lemmas.Grind.{take_at_read}
use Rattle.cfs_dir.specs.declared.node.Node.{Node}
use Rattle.cfs_dir.specs.Namespace.{is_directory, node_of}
use Rattle.cfs_fsck.specs.Files.{AreKinds, Kinds, kind_of}

map_or : {A B : Type 0} (f : A → B) (x y : Option A) →
    option_map f (option_or x y) ≡ option_or (option_map f x) (option_map f y)
map_or f None y = refl
map_or f (Some a) y = refl

-- the kinds of the nodes with one more
pub kind_more : (nodes : List Node) (i : ℕ) (node : Node) (ino : ℕ) → i < length nodes →
    node ≡ get_or nodes i node →
    kind_of (take (i + 1) nodes) ino ≡ option_or (kind_of (take i nodes) ino) (kind_of (node ∷ []) ino)
kind_more nodes i node ino below is =
    ap (λ ns. kind_of ns ino) ((take_at_read nodes i node below).1)
    ∙ ap (λ (n : Node). kind_of (take i nodes ++ n ∷ []) ino) (sym is)
    ∙ ap (option_map (λ (n : Node). not (is_directory n.kind)))
    (find-append (λ (n : Node). n.ino == ino) (take i nodes) (node ∷ []))
    ∙ map_or (λ (n : Node). not (is_directory n.kind)) (node_of (take i nodes) ino)
    (node_of (node ∷ []) ino)

pub kinds_more : (nodes : List Node) (i : ℕ) (node : Node) (old new : Kinds) → i < length nodes →
    node ≡ get_or nodes i node →
    ((ino : ℕ) → get nat_eq new ino ≡ option_or (get nat_eq old ino) (kind_of (node ∷ []) ino)) →
    AreKinds (take i nodes) old → AreKinds (take (i + 1) nodes) new
kinds_more nodes i node old new below is noted before ino =
    noted ino
    ∙ ap (λ found. option_or found (kind_of (node ∷ []) ino)) (before ino)
    ∙ sym (kind_more nodes i node ino below is)
