-- What a rename answers: the tests of the two paths, of the node and of the place where it goes,
-- in their order.
use Rattle.std.specs.Prelude.{ℕ, zero, suc, ◌+◌, ◌-◌, ◌==◌, List, length, Bool, false, not, ◌||◌, ◌&&◌, nat_lt, Option, Some, None, Result, Ok, Err, if◌then◌else◌, is_some}
use Rattle.std.specs.List.{list_any}
use Rattle.std.specs.Option.{option_and_then, option_map}
use Rattle.cfs_cred.specs.declared.credential.Credential.{Credential}
use Rattle.cfs_cred.specs.declared.want.Want.TheVariants.{Write}
use Rattle.cfs_dir.specs.declared.moved.Moved.{Moved}
use Rattle.cfs_dir.specs.declared.node.Node.{Node}
use Rattle.cfs_dir.specs.declared.place.Place.{Place}
use Rattle.cfs_dir.specs.declared.place.Place.TheVariants.{Root, Entry}
use Rattle.cfs_dir.specs.declared.posix.Posix.{Posix}
use Rattle.cfs_dir.specs.declared.posix.Posix.TheVariants.{DirectoryNotEmpty, InvalidArgument, IsADirectory, NameTooLong, NotADirectory, NotFound, PermissionDenied}
use Rattle.cfs_dir.specs.Name.{is_dots}
use Rattle.cfs_dir.specs.Namespace.{Namespace, node_of, has_child, is_directory}
use Rattle.cfs_dir.specs.Step.{and_then, has_right, is_too_long, place_of}

-- the refusals that two paths alone give, in their order
abbrev pub paths_refusal : List (List ℕ) → List (List ℕ) → Option Posix
paths_refusal from to =
    if list_any is_dots from || list_any is_dots to || (length from == 0) || (length to == 0)
    then Some InvalidArgument
    else (if is_too_long from || is_too_long to then Some NameTooLong else None)

-- by how many names a node stands below another, if it does by so many at most; `find` finds the
-- node of an inode number
unfoldable pub names_below : ℕ → (ℕ → Option Node) → ℕ → ℕ → Option ℕ
names_below zero find top ino = if ino == top then Some 0 else None
names_below (suc most) find top ino =
    if ino == top then Some 0
    else option_map (λ names. names + 1)
    (option_and_then (λ node. names_below most find top node.parent) (find ino))

-- whether a node is another or stands below it
abbrev pub is_within : List Node → ℕ → ℕ → Bool
is_within nodes top ino = is_some (names_below 16 (node_of nodes) top ino)

-- whether a node has more than 16 names, if it stands by so many names below one that has `names`
abbrev pub is_too_deep : ℕ → Option ℕ → Bool
is_too_deep names None = false
is_too_deep names (Some below) = nat_lt (16 - names) below

abbrev pub node_is_too_deep : (ℕ → Option Node) → ℕ → ℕ → Node → Bool
node_is_too_deep find top names node = is_too_deep names (names_below 16 find top node.ino)

-- whether some node at or below another has more than 16 names, if that one has `names`
abbrev pub goes_too_deep : List Node → ℕ → ℕ → Bool
goes_too_deep nodes top names = list_any (node_is_too_deep (node_of nodes) top names) nodes

-- what stands where a node goes
abbrev pub is_node_there : Node → Option Node → Bool
is_node_there node None = false
is_node_there node (Some other) = other.ino == node.ino

abbrev pub is_directory_there : Option Node → Bool
is_directory_there None = false
is_directory_there (Some other) = is_directory other.kind

abbrev pub is_file_there : Option Node → Bool
is_file_there None = false
is_file_there (Some other) = not (is_directory other.kind)

abbrev pub is_occupied : List Node → Option Node → Bool
is_occupied nodes None = false
is_occupied nodes (Some other) = is_directory other.kind && has_child nodes other.ino

-- The refusal of a move of a node from one directory to another, by the first test that fails; a
-- file has the names of its new path, which are not too many.
abbrev pub move_refusal : List Node → Credential → Node → Node → Node → Option Node → ℕ
    → Option Posix
move_refusal nodes credential parent node directory there names =
    if is_directory node.kind && is_within nodes node.ino directory.ino then Some InvalidArgument
    else if is_directory node.kind && is_file_there there then Some NotADirectory
    else if not (is_directory node.kind) && is_directory_there there then Some IsADirectory
    else if not (has_right credential parent Write) then Some PermissionDenied
    else if not (has_right credential directory Write) then Some PermissionDenied
    else if is_occupied nodes there then Some DirectoryNotEmpty
    else if is_directory node.kind && goes_too_deep nodes node.ino names then Some NameTooLong
    else None

abbrev pub moved_unless : Option Posix → Moved → Result Moved Posix
moved_unless (Some refusal) moved = Err refusal
moved_unless None moved = Ok moved

-- the move of a node to a place at a path of so many names; to itself nothing changes
abbrev pub moved_to : List Node → Credential → ℕ → Node → Node → Place → Result Moved Posix
moved_to nodes credential names parent node (Root root) = Err InvalidArgument
moved_to nodes credential names parent node (Entry directory name there) =
    if is_node_there node there then Ok (record { node = node; replaced = None })
    else moved_unless (move_refusal nodes credential parent node directory there names) (record {
      node = record node { parent = directory.ino; name = name };
      replaced = there;
    })

abbrev pub moved_from : List Node → Credential → List (List ℕ) → Place → Result Moved Posix
moved_from nodes credential to (Root root) = Err InvalidArgument
moved_from nodes credential to (Entry parent name None) = Err NotFound
moved_from nodes credential to (Entry parent name (Some node)) =
    and_then (place_of nodes credential to) (moved_to nodes credential (length to) parent node)

abbrev pub renamed_unless : Option Posix → List Node → Credential → List (List ℕ)
    → List (List ℕ) → Result Moved Posix
renamed_unless (Some refusal) nodes credential from to = Err refusal
renamed_unless None nodes credential from to =
    and_then (place_of nodes credential from) (moved_from nodes credential to)

-- the node that is moved from a path to another
abbrev pub renamed : Namespace → Credential → List (List ℕ) → List (List ℕ) → Result Moved Posix
renamed namespace credential from to =
    renamed_unless (paths_refusal from to) namespace.nodes credential from to
