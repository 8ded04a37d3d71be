-- The files of a tree, and a map to their records.
use Rattle.std.specs.Prelude.{ℕ, ◌≡◌, ◌==◌, ◌<◌, Bool, false, List, Option, Some, None, find}
use Rattle.std.specs.Prelude.{nat_eq}
use Rattle.std.specs.Prelude.{get_or, length, if◌then◌else◌}
use Rattle.std.specs.HashMap.{get}
use Rattle.std.specs.List.{filter_map, list_any}
use Rattle.std.specs.Option.{option_map, option_map_or}
use Rattle.cfs_dir.specs.declared.node.Node.{Node}
use Rattle.cfs_dir.specs.Namespace.{is_directory}
use Rattle.cfs_home.specs.Disks.{File}
use Rattle.cfs_survey.specs.Mapped.{BlockMap}

abbrev pub file_in : Node → Option File
file_in node =
    if is_directory node.kind then None else Some record { node = node.rec; ino = node.ino }

-- the record and the inode number of each, in their order
abbrev pub files_of : List Node → List File
files_of nodes = filter_map file_in nodes

-- the first file of an inode number
abbrev pub file_with : ℕ → List File → Option File
file_with ino files = find (λ file. file.ino == ino) files

-- the record of a file, or 0 where there is none
abbrev pub node_of : Option File → ℕ
node_of file = option_map_or (λ file. file.node) file 0

-- the map finds the record of each file by its inode number
abbrev pub IsRecordMap : List File → BlockMap → Type 0
IsRecordMap files records =
    (ino : ℕ) → get nat_eq records ino ≡ option_map (λ file. file.node) (file_with ino files)

-- the flags say of each record whether it is that of a file
abbrev pub HasFiles : List File → List Bool → Type 0
HasFiles files flags =
    (rec : ℕ) → rec < length flags →
    get_or flags rec false ≡ list_any (λ file. file.node == rec) files
