-- The file that a mount of an image finds at a path.
use Rattle.std.specs.Prelude.{ℕ, List, Option, Some, None, Result, Ok, Err, if◌then◌else◌}
use Rattle.std.specs.Option.{option_map}
use Rattle.cfs_cred.specs.declared.credential.Credential.{Credential}
use Rattle.cfs_dir.specs.declared.node.Node.{Node}
use Rattle.cfs_dir.specs.declared.posix.Posix.{Posix}
use Rattle.cfs_dir.specs.Namespace.{Namespace, is_directory}
use Rattle.cfs_dir.specs.Step.{looked_up}
use Rattle.cfs_fsck.specs.Images.{image_words}
use Rattle.cfs_medium.specs.Store.{recovered_file}
use Rattle.cfs_survey.specs.Surveys.{recovered_tree}
use Rattle.cfs_dump.specs.Stores.{store_in}

-- user 0, who has every right
abbrev pub superuser : Credential
superuser = record { uid = 0; gid = 0 }

-- the node that was found, where it is a file
abbrev pub file_of : Result Node Posix → Option Node
file_of (Err refusal) = None
file_of (Ok node) = if is_directory node.kind then None else Some node

-- the node of the file at a path
abbrev pub file_at : Namespace → List (List ℕ) → Option Node
file_at tree path = file_of (looked_up tree superuser path)

-- the bytes of the file at a path of the recovered tree: the stored file of its size word, taken
-- through its live entries in order of their gates
abbrev pub dumped : List ℕ → List (List ℕ) → Option (List ℕ)
dumped bytes path =
    option_map (λ node. recovered_file node.ino (store_in bytes node.rec))
    (file_at (recovered_tree (image_words bytes)) path)
