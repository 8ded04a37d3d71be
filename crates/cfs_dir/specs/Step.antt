-- What each call on the tree answers: a walk by names over the list of nodes, and then the tests of
-- the call in their order.
use Rattle.std.specs.Prelude.{◌≡◌, ℕ, List, [], ◌∷◌, Bool, not, ◌||◌, nat_lt, Option, Some, None, Result, Ok, Err, length, if◌then◌else◌}
use Rattle.std.specs.List.{list_any}
use Rattle.cfs_cred.specs.declared.credential.Credential.{Credential}
use Rattle.cfs_cred.specs.declared.want.Want.{Want}
use Rattle.cfs_cred.specs.declared.want.Want.TheVariants.{Search, Write}
use Rattle.cfs_cred.specs.Rights.{is_allowed}
use Rattle.cfs_dir.specs.declared.kind.Kind.{Kind}
use Rattle.cfs_dir.specs.declared.node.Node.{Node}
use Rattle.cfs_dir.specs.declared.place.Place.{Place}
use Rattle.cfs_dir.specs.declared.place.Place.TheVariants.{Root, Entry}
use Rattle.cfs_dir.specs.declared.posix.Posix.{Posix}
use Rattle.cfs_dir.specs.declared.posix.Posix.TheVariants.{AlreadyExists, DirectoryNotEmpty, InvalidArgument, IsADirectory, NameTooLong, NotADirectory, NotFound, PermissionDenied, TooManyFiles}
use Rattle.cfs_dir.specs.declared.refusal.TreeRefusal.{TreeRefusal}
use Rattle.cfs_dir.specs.declared.refusal.TreeRefusal.TheVariants.{NoMemory, Refused}
use Rattle.cfs_dir.specs.Name.{is_dots}
use Rattle.cfs_dir.specs.Namespace.{Namespace, node_at, child_of, has_child, is_directory}

-- goes on with a value, and stops at a refusal
abbrev pub and_then : {A B : Type 0} → Result A Posix → (A → Result B Posix) → Result B Posix
and_then (Err refusal) next = Err refusal
and_then (Ok value) next = next value

-- stops with a refusal unless a test is passed
abbrev pub unless : {A : Type 0} → Bool → Posix → Result A Posix → Result A Posix
unless passed refusal next = if passed then next else Err refusal

abbrev pub has_right : Credential → Node → Want → Bool
has_right credential node want = is_allowed node.mode node.uid node.gid credential want

-- whether a name has more than 40 bytes, or there are more than 16 names
abbrev pub is_too_long : List (List ℕ) → Bool
is_too_long path = list_any (λ name. nat_lt 40 (length name)) path || nat_lt 16 (length path)

-- the refusals that a path alone gives, in their order
abbrev pub path_refusal : List (List ℕ) → Option Posix
path_refusal path =
    if list_any is_dots path then Some InvalidArgument
    else (if is_too_long path then Some NameTooLong else None)

-- the directory of this name in a directory
abbrev pub found_directory : Option Node → Result Node Posix
found_directory None = Err NotFound
found_directory (Some node) = unless (is_directory node.kind) NotADirectory (Ok node)

abbrev pub entered : List Node → Credential → Node → List ℕ → Result Node Posix
entered nodes credential directory name =
    unless (has_right credential directory Search) PermissionDenied
    (found_directory (child_of nodes directory.ino name))

-- where the names lead to from a directory: through each name but the last, and then to the last
-- in its directory
abbrev pub walk : List Node → Credential → Node → List (List ℕ) → Result Place Posix
walk nodes credential directory [] = Ok (Root directory)
walk nodes credential directory (name ∷ []) =
    unless (has_right credential directory Search) PermissionDenied
    (Ok (Entry directory name (child_of nodes directory.ino name)))
walk nodes credential directory (name ∷ next ∷ names) =
    and_then (entered nodes credential directory name)
    (λ child. walk nodes credential child (next ∷ names))

abbrev pub walk_from : Option Node → List Node → Credential → List (List ℕ) → Result Place Posix
walk_from None nodes credential path = Err NotFound
walk_from (Some root) nodes credential path = walk nodes credential root path

abbrev pub walk_unless : Option Posix → List Node → Credential → List (List ℕ) → Result Place Posix
walk_unless (Some refusal) nodes credential path = Err refusal
walk_unless None nodes credential path = walk_from (node_at nodes 0) nodes credential path

-- where a path leads to from the root
abbrev pub place_of : List Node → Credential → List (List ℕ) → Result Place Posix
place_of nodes credential path = walk_unless (path_refusal path) nodes credential path

-- what is looked up at a place
abbrev pub looked_up_at : Place → Result Node Posix
looked_up_at (Root root) = Ok root
looked_up_at (Entry directory name None) = Err NotFound
looked_up_at (Entry directory name (Some node)) = Ok node

abbrev pub looked_up : Namespace → Credential → List (List ℕ) → Result Node Posix
looked_up namespace credential path =
    and_then (place_of namespace.nodes credential path) looked_up_at

-- the node that is made in a directory, with the given record and the next inode number where
-- there are both
abbrev pub new_node : Namespace → Credential → Node → List ℕ → Kind → ℕ → Option ℕ
    → Result Node Posix
new_node namespace credential directory name kind mode None = Err TooManyFiles
new_node namespace credential directory name kind mode (Some rec) =
    unless (nat_lt namespace.next 4294967296) TooManyFiles (Ok (record {
      ino = namespace.next;
      parent = directory.ino;
      name = name;
      kind = kind;
      mode = mode;
      uid = credential.uid;
      gid = credential.gid;
      rec = rec;
    }))

abbrev pub made_at : Namespace → Credential → Kind → ℕ → Option ℕ → Place → Result Node Posix
made_at namespace credential kind mode rec (Root root) = Err AlreadyExists
made_at namespace credential kind mode rec (Entry directory name (Some node)) = Err AlreadyExists
made_at namespace credential kind mode rec (Entry directory name None) =
    unless (has_right credential directory Write) PermissionDenied
    (new_node namespace credential directory name kind mode rec)

-- the file or directory that is made at a path
abbrev pub made : Namespace → Credential → List (List ℕ) → Kind → ℕ → Option ℕ → Result Node Posix
made namespace credential path kind mode rec =
    and_then (place_of namespace.nodes credential path) (made_at namespace credential kind mode rec)

abbrev pub unlinked_at : Credential → Place → Result Node Posix
unlinked_at credential (Root root) = Err IsADirectory
unlinked_at credential (Entry directory name None) = Err NotFound
unlinked_at credential (Entry directory name (Some node)) =
    unless (not (is_directory node.kind)) IsADirectory
    (unless (has_right credential directory Write) PermissionDenied (Ok node))

-- the file whose name is removed
abbrev pub unlinked : Namespace → Credential → List (List ℕ) → Result Node Posix
unlinked namespace credential path =
    and_then (place_of namespace.nodes credential path) (unlinked_at credential)

abbrev pub rmdir_at : List Node → Credential → Place → Result Node Posix
rmdir_at nodes credential (Root root) = Err InvalidArgument
rmdir_at nodes credential (Entry directory name None) = Err NotFound
rmdir_at nodes credential (Entry directory name (Some node)) =
    unless (is_directory node.kind) NotADirectory
    (unless (has_right credential directory Write) PermissionDenied
    (unless (not (has_child nodes node.ino)) DirectoryNotEmpty (Ok node)))

-- the empty directory that is removed
abbrev pub removed_directory : Namespace → Credential → List (List ℕ) → Result Node Posix
removed_directory namespace credential path =
    and_then (place_of namespace.nodes credential path) (rmdir_at namespace.nodes credential)

-- the answer of a call that takes no memory
abbrev pub refused : Result Node Posix → Result Node TreeRefusal
refused (Ok node) = Ok node
refused (Err refusal) = Err (Refused refusal)

-- the answer of a call that takes memory, which may be lacking
abbrev pub IsAnswer : Result Node Posix → Result Node TreeRefusal → Type 0
IsAnswer step (Ok node) = step ≡ Ok node
IsAnswer step (Err (Refused refusal)) = step ≡ Err refusal
IsAnswer step (Err NoMemory) = Unit {0}
