-- What an open answers: the tests of its words, of its path and of what is there, in their order.
use Rattle.std.specs.Prelude.{ℕ, Bool, not, ◌&&◌, ◌||◌, List, Option, Some, Result, Ok, Err, if◌then◌else◌}
use Rattle.cfs_cred.specs.declared.credential.Credential.{Credential}
use Rattle.cfs_cred.specs.declared.want.Want.TheVariants.{Read, Write}
use Rattle.cfs_dir.specs.declared.kind.Kind.TheVariants.{File}
use Rattle.cfs_dir.specs.declared.node.Node.{Node}
use Rattle.cfs_dir.specs.declared.posix.Posix.{Posix}
use Rattle.cfs_dir.specs.declared.posix.Posix.TheVariants.{AlreadyExists, InvalidArgument, IsADirectory, PermissionDenied}
use Rattle.cfs_dir.specs.Namespace.{Namespace, is_directory}
use Rattle.cfs_dir.specs.Step.{and_then, has_right, looked_up, made, path_refusal}
use Rattle.cfs_requests.specs.declared.opening.Opening.{Opening}
use Rattle.cfs_requests.specs.declared.opening.Opening.TheVariants.{Found, Made}
use Rattle.cfs_words.specs.declared.flags.Flags.{Flags}

-- the refusal that flags and path alone give
abbrev pub words_refusal : Flags → List (List ℕ) → Option Posix
words_refusal flags path =
    if flags.exclusive && not flags.create then Some InvalidArgument else path_refusal path

-- whether a user has the rights that the access asks for
abbrev pub has_access : Credential → Node → Flags → Bool
has_access credential node flags =
    (not flags.read || has_right credential node Read)
    && (not flags.write || has_right credential node Write)

-- the node that is there, if it may be opened so
abbrev pub found_when : Credential → Flags → Node → Result Opening Posix
found_when credential flags node =
    if is_directory node.kind then Err IsADirectory
    else if not (has_access credential node flags) then Err PermissionDenied
    else Ok (Found node)

-- the file at a path that is there
abbrev pub found : Namespace → Credential → List (List ℕ) → Flags → Result Opening Posix
found namespace credential path flags =
    and_then (looked_up namespace credential path) (found_when credential flags)

-- with `c` a file is made; where one is there already, it is opened, but with `x`
abbrev pub made_or : Bool → Result Opening Posix → Result Node Posix → Result Opening Posix
made_or exclusive there (Ok node) = Ok (Made node)
made_or exclusive there (Err AlreadyExists) = if exclusive then Err AlreadyExists else there
made_or exclusive there (Err refusal) = Err refusal

-- the file that is opened at a path, found or made
abbrev pub opened : Namespace → Credential → List (List ℕ) → Flags → ℕ → Option ℕ
    → Result Opening Posix
opened namespace credential path flags mode rec =
    if flags.create
    then made_or flags.exclusive (found namespace credential path flags)
    (made namespace credential path File mode rec)
    else found namespace credential path flags
