-- What each request on names does, and whether its words or the tree refuse it.
use Rattle.std.specs.Prelude.{ℕ, ◌≡◌, true, false, List, [], ◌∷◌, Option, Some, None, Result, Ok, Err}
use Rattle.cfs_cred.specs.declared.credential.Credential.{Credential}
use Rattle.cfs_dir.specs.declared.kind.Kind.TheVariants.{Directory}
use Rattle.cfs_dir.specs.declared.moved.Moved.{Moved}
use Rattle.cfs_dir.specs.declared.node.Node.{Node}
use Rattle.cfs_dir.specs.declared.posix.Posix.{Posix}
use Rattle.cfs_dir.specs.declared.posix.Posix.TheVariants.{InvalidArgument}
use Rattle.cfs_dir.specs.Namespace.{Namespace, is_directory}
use Rattle.cfs_dir.specs.Rename.{paths_refusal, renamed}
use Rattle.cfs_dir.specs.Step.{made, path_refusal, removed_directory, unlinked}
use Rattle.cfs_requests.specs.declared.name_refusal.NameRefusal.{NameRefusal}
use Rattle.cfs_requests.specs.declared.name_refusal.NameRefusal.TheVariants.{Tree, Words}
use Rattle.cfs_requests.specs.declared.opening.Opening.{Opening}
use Rattle.cfs_requests.specs.declared.opening.Opening.TheVariants.{Found}
use Rattle.cfs_requests.specs.Opens.{has_access, opened, words_refusal}
use Rattle.cfs_words.specs.declared.flags.Flags.{Flags}

-- what the tree refuses
abbrev pub by_tree : {X : Type 0} → Result X Posix → Result X NameRefusal
by_tree (Ok value) = Ok value
by_tree (Err refusal) = Err (Tree refusal)

-- the words are tested first
abbrev pub unless_words : {X : Type 0} → Option Posix → Result X Posix → Result X NameRefusal
unless_words (Some refusal) step = Err (Words refusal)
unless_words None step = by_tree step

-- the root may not be removed, whatever the tree is
abbrev pub removal_refusal : List (List ℕ) → Option Posix
removal_refusal [] = Some InvalidArgument
removal_refusal (name ∷ names) = path_refusal (name ∷ names)

-- each request, before anything is changed

abbrev pub opens : Namespace → Credential → List (List ℕ) → Flags → ℕ → Option ℕ
    → Result Opening NameRefusal
opens namespace credential path flags mode rec =
    unless_words (words_refusal flags path) (opened namespace credential path flags mode rec)

abbrev pub makes : Namespace → Credential → List (List ℕ) → ℕ → Option ℕ
    → Result Node NameRefusal
makes namespace credential path mode rec =
    unless_words (path_refusal path) (made namespace credential path Directory mode rec)

abbrev pub unlinks : Namespace → Credential → List (List ℕ) → Result Node NameRefusal
unlinks namespace credential path =
    unless_words (path_refusal path) (unlinked namespace credential path)

abbrev pub removes : Namespace → Credential → List (List ℕ) → Result Node NameRefusal
removes namespace credential path =
    unless_words (removal_refusal path) (removed_directory namespace credential path)

abbrev pub moves : Namespace → Credential → List (List ℕ) → List (List ℕ)
    → Result Moved NameRefusal
moves namespace credential from to =
    unless_words (paths_refusal from to) (renamed namespace credential from to)

-- An open finds no directory, and no file for an access that its user has no right to.
abbrev pub FoundIsAllowed : Type 0
FoundIsAllowed =
    (namespace : Namespace) (credential : Credential) (path : List (List ℕ)) (flags : Flags)
    (mode : ℕ) (rec : Option ℕ) (node : Node) →
    opens namespace credential path flags mode rec ≡ Ok (Found node) →
    (is_directory node.kind ≡ false) × (has_access credential node flags ≡ true)
