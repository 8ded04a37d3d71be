-- The node that a path names is one of the tree.
use Rattle.std.proofs.Common.{◌≡◌, ◌∙◌, refl, ap, subst, sym, Bool, true, false, if◌then◌else◌, ℕ}
use Rattle.std.proofs.Common.{Option, Some, None, List, [], ◌∷◌}
use Rattle.std.specs.Prelude.{Result, Ok, Err, nat_eq}
use Rattle.cfs_cred.specs.declared.credential.Credential.{Credential}
use Rattle.cfs_cred.specs.declared.want.Want.TheVariants.{Search}
use Rattle.cfs_dir.specs.declared.node.Node.{Node}
use Rattle.cfs_dir.specs.declared.place.Place.{Place}
use Rattle.cfs_dir.specs.declared.place.Place.TheVariants.{Entry, Root}
use Rattle.cfs_dir.specs.declared.posix.Posix.{Posix}
use Rattle.cfs_dir.specs.declared.posix.Posix.TheVariants.{PermissionDenied}
use Rattle.cfs_dir.specs.Namespace.{Namespace, child_of, is_child, is_directory, node_at}
use Rattle.cfs_dir.specs.Step.{entered, found_directory, has_right, looked_up, looked_up_at}
use Rattle.cfs_dir.specs.Step.{path_refusal, place_of, walk, walk_from, walk_unless}
use Rattle.cfs_dir.proofs.Members.{In, find-Some}
use Rattle.cfs_dir.proofs.Walked.{and_then-Ok, found_directory-Ok, unless-Ok}
use Rattle.cfs_dump.specs.Dumped.{file_at, file_of, superuser}

child-in : (nodes : List Node) (parent : ℕ) (name : List ℕ) (child : Node) →
    child_of nodes parent name ≡ Some child → In nodes child
child-in nodes parent name child is = (find-Some (is_child parent name) nodes child is).0

looked-entry : (directory : Node) (name : List ℕ) (found : Option Node) (node : Node) →
    looked_up_at (Entry directory name found) ≡ Ok node → found ≡ Some node
looked-entry directory name None node is = absurd (cc)
looked-entry directory name (Some other) node is = cc

walk-in : (nodes : List Node) (credential : Credential) (from : Node) (path : List (List ℕ))
    (place : Place) (node : Node) → In nodes from → walk nodes credential from path ≡ Ok place →
    looked_up_at place ≡ Ok node → In nodes node
walk-in nodes credential from [] place node among ends looked =
    let same : from ≡ node = last place ends looked in subst (In nodes) same among
  where
    last : (place : Place) → ◌≡◌ {A = Result Place Posix} (Ok (Root from)) (Ok place) →
        looked_up_at place ≡ Ok node →
        from ≡ node
    last (Root root) ends looked = cc
    last (Entry directory name found) ends looked = absurd (cc)
walk-in nodes credential from (name ∷ []) place node among ends looked =
    let parts = unless-Ok (has_right credential from Search) PermissionDenied
    (Ok (Entry from name (child_of nodes from.ino name))) place ends in
    let is : place ≡ Entry from name (child_of nodes from.ino name) = let e = parts.1 in cc in
    child-in nodes from.ino name node
    (looked-entry from name (child_of nodes from.ino name) node
    (ap looked_up_at (sym is) ∙ looked))
walk-in nodes credential from (name ∷ next ∷ names) place node among ends looked =
    let r = and_then-Ok (entered nodes credential from name)
    (λ child. walk nodes credential child (next ∷ names)) place ends in
    let right = unless-Ok (has_right credential from Search) PermissionDenied
    (found_directory (child_of nodes from.ino name)) r.0 r.1 in
    let there = found_directory-Ok (child_of nodes from.ino name) r.0 right.1 in
    walk-in nodes credential r.0 (next ∷ names) place node
    (child-in nodes from.ino name r.0 there.0) r.2 looked

place-in : (nodes : List Node) (credential : Credential) (path : List (List ℕ)) (place : Place)
    (node : Node) → place_of nodes credential path ≡ Ok place → looked_up_at place ≡ Ok node →
    In nodes node
place-in nodes credential path place node ends looked = go (path_refusal path) ends
  where
    start : (root : Option Node) → node_at nodes 0 ≡ root →
        walk_from root nodes credential path ≡ Ok place → In nodes node
    start None at ends = absurd (cc)
    start (Some root) at ends =
        walk-in nodes credential root path place node
        (find-Some (λ n. nat_eq n.rec 0) nodes root at).0 ends looked

    go : (refusal : Option Posix) → walk_unless refusal nodes credential path ≡ Ok place →
        In nodes node
    go (Some refusal) ends = absurd (cc)
    go None ends = start (node_at nodes 0) refl ends

-- it is a file among the nodes
pub record IsFileIn (nodes : List Node) (node : Node) : Type 0 where
  pub among : In nodes node
  pub kind : is_directory node.kind ≡ false

pub file-in : (tree : Namespace) (path : List (List ℕ)) (node : Node) →
    file_at tree path ≡ Some node → IsFileIn tree.nodes node
file-in tree path node is = go (looked_up tree superuser path) refl is
  where
    kind : (other : Node) → looked_up tree superuser path ≡ Ok other → (b : Bool) →
        is_directory other.kind ≡ b → (if b then None else Some other) ≡ Some node →
        IsFileIn tree.nodes node
    kind other found true test is = absurd (cc)
    kind other found false test is =
        let r = and_then-Ok (place_of tree.nodes superuser path) looked_up_at other found in
        let same : other ≡ node = cc in
        subst (IsFileIn tree.nodes) same (record {
          among = place-in tree.nodes superuser path r.0 other r.1 r.2;
          kind = test;
        })

    go : (found : Result Node Posix) → looked_up tree superuser path ≡ found →
        file_of found ≡ Some node → IsFileIn tree.nodes node
    go (Err refusal) found is = absurd (cc)
    go (Ok other) found is = kind other found (is_directory other.kind) refl is
