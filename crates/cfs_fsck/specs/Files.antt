-- Which inode numbers are those of files, as a map.
use Rattle.std.specs.Prelude.{ℕ, ◌≡◌, Bool, not, List, nat_eq}
use Rattle.std.specs.HashMap.{HashMap, get}
use Rattle.std.specs.Option.{option_map}
use Rattle.std.specs.declared.hash.BuildHasherDefault.{BuildHasherDefault}
use Rattle.std.specs.declared.hash.FoldHasher.{FoldHasher}
use Rattle.std.specs.declared.option.Option.{Option}
use Rattle.cfs_dir.specs.declared.node.Node.{Node}
use Rattle.cfs_dir.specs.Namespace.{is_directory, node_of}

abbrev pub Kinds : Type 0
Kinds = HashMap ℕ Bool (BuildHasherDefault FoldHasher)

-- whether the node of an inode number is a file, where there is one
abbrev pub kind_of : List Node → ℕ → Option Bool
kind_of nodes ino = option_map (λ node. not (is_directory node.kind)) (node_of nodes ino)

-- the map tells this of each inode number
abbrev pub AreKinds : List Node → Kinds → Type 0
AreKinds nodes kinds = (ino : ℕ) → get nat_eq kinds ino ≡ kind_of nodes ino
