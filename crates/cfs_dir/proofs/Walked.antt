-- Where a walk that is not refused ends.
use Rattle.std.proofs.Common.{◌≡◌, ℕ, suc, ◌+◌, ◌-◌, ◌≤◌, List, [], ◌∷◌, length, Bool, true, false, cond, ◌||◌, inl, inr, refl, sym, ◌∙◌, ap, subst, arith}
use Rattle.std.specs.Prelude.{Option, Some, None, Result, Ok, Err, IsSomeAnd, All, nat_eq, nat_lt}
use Rattle.std.specs.List.{list_any}
use Rattle.std.specs.Str.{bytes_eq}
use Rattle.std.proofs.lemmas.Bool.{cases_Bool, cond-true, cond-false, eqb-true, ltb-false, and_parts, or_parts}
use Rattle.std.proofs.lemmas.List.Elements.{All-head, All-tail, All-cons, All-nil}
use Rattle.std.proofs.lemmas.Slice.Eq.{bytes_eq-Decides}
use Rattle.cfs_cred.specs.declared.credential.Credential.{Credential}
use Rattle.cfs_cred.specs.declared.want.Want.TheVariants.{Search}
use Rattle.cfs_dir.specs.declared.kind.Kind.{Kind}
use Rattle.cfs_dir.specs.declared.kind.Kind.TheVariants.{Directory, File}
use Rattle.cfs_dir.specs.declared.node.Node.{Node}
use Rattle.cfs_dir.specs.declared.place.Place.{Place}
use Rattle.cfs_dir.specs.declared.place.Place.TheVariants.{Entry}
use Rattle.cfs_dir.specs.declared.posix.Posix.{Posix}
use Rattle.cfs_dir.specs.declared.posix.Posix.TheVariants.{InvalidArgument, NameTooLong, NotADirectory, PermissionDenied}
use Rattle.cfs_dir.specs.Name.{IsNodeName, is_dots}
use Rattle.cfs_dir.specs.Path.{ArePathNames, IsPathName}
use Rattle.cfs_dir.specs.Namespace.{node_at, node_of, child_of, is_child, is_directory}
use Rattle.cfs_dir.specs.Tree.{IsTree, IsRoot, leads_to_root}
use Rattle.cfs_dir.specs.Step.{unless, and_then, has_right, found_directory, entered, walk, walk_from, walk_unless, place_of, path_refusal}
use Rattle.cfs_dir.proofs.Members.{In, All-In, find-Some}
use Rattle.cfs_dir.proofs.Depth.{leads-root, leads-step, leads-le}

-- a directory of the tree, from which at most so many parents lead to the root
pub record IsDirectoryIn (nodes : List Node) (steps : ℕ) (node : Node) : Type 0 where
  pub stands : In nodes node
  pub kind : node.kind ≡ Directory
  pub depth : leads_to_root steps nodes node.ino ≡ true

-- what is known of a place that a walk has found
pub record IsPlace (nodes : List Node) (steps : ℕ) (directory : Node) (name : List ℕ) (found : Option Node) : Type 0 where
  pub directory_is : IsDirectoryIn nodes steps directory
  pub named : IsNodeName name
  pub found_is : found ≡ child_of nodes directory.ino name

pub unless-Ok : {A : Type 0} (passed : Bool) (refusal : Posix) (next : Result A Posix) (value : A) → unless passed refusal next ≡ Ok value
    → (passed ≡ true) × (next ≡ Ok value)
unless-Ok true refusal next value e = (refl, e)
unless-Ok false refusal next value e = absurd (cc)

pub and_then-Ok : {A B : Type 0} (first : Result A Posix) (next : A → Result B Posix) (value : B) → and_then first next ≡ Ok value
    → (x : A) × (first ≡ Ok x) × (next x ≡ Ok value)
and_then-Ok (Err refusal) next value e = absurd (cc)
and_then-Ok (Ok x) next value e = (x, refl, e)

pub is_directory-true : (kind : Kind) → is_directory kind ≡ true → kind ≡ Directory
is_directory-true Directory e = refl
is_directory-true File e = absurd (cc)

pub is_directory-false : (kind : Kind) → is_directory kind ≡ false → kind ≡ File
is_directory-false Directory e = absurd (cc)
is_directory-false File e = refl

pub found_directory-Ok : (found : Option Node) (child : Node) → found_directory found ≡ Ok child → (found ≡ Some child) × (child.kind ≡ Directory)
found_directory-Ok None child e = absurd (cc)
found_directory-Ok (Some node) child e =
    let r = unless-Ok (is_directory node.kind) NotADirectory (Ok node) child e in
    let same : node ≡ child = let k = r.1 in cc in
    (ap (λ n. Some n) same, subst (λ (n : Node). n.kind ≡ Directory) same (is_directory-true node.kind r.0))

-- a child stands in its directory
pub child-parts : (nodes : List Node) (parent : ℕ) (name : List ℕ) (child : Node) → child_of nodes parent name ≡ Some child
    → In nodes child × (child.parent ≡ parent) × (child.name ≡ name)
child-parts nodes parent name child e =
    let r = find-Some (is_child parent name) nodes child e in
    let both = and_parts (nat_eq child.parent parent) (bytes_eq child.name name) r.1 in
    (r.0, eqb-true child.parent parent both.0, (bytes_eq-Decides child.name name).0 both.1)

pub entered-Ok : (nodes : List Node) (next : ℕ) (steps : ℕ) (credential : Credential) (directory : Node) (name : List ℕ) (child : Node)
    → IsTree nodes next → IsDirectoryIn nodes steps directory → entered nodes credential directory name ≡ Ok child
    → IsDirectoryIn nodes (suc steps) child
entered-Ok nodes next steps credential directory name child tree good e =
    let first = unless-Ok (has_right credential directory Search) PermissionDenied (found_directory (child_of nodes directory.ino name)) child e in
    let second = found_directory-Ok (child_of nodes directory.ino name) child first.1 in
    let parts = child-parts nodes directory.ino name child second.0 in
    record {
      stands = parts.0;
      kind = second.1;
      depth = leads-step steps nodes child (All-In (λ n. node_of nodes n.ino ≡ Some n) nodes child tree.number_once parts.0)
          (subst (λ i. leads_to_root steps nodes i ≡ true) (sym parts.1) good.depth);
    }

pub walk-Entry : (nodes : List Node) (next : ℕ) (steps : ℕ) (credential : Credential) (from : Node) (path : List (List ℕ))
    (directory : Node) (name : List ℕ) (found : Option Node) (most : ℕ)
    → IsTree nodes next → IsDirectoryIn nodes steps from → All IsNodeName path → steps + length path ≤ suc most
    → walk nodes credential from path ≡ Ok (Entry directory name found) → IsPlace nodes most directory name found
walk-Entry nodes next steps credential from [] directory name found most tree good names short e = absurd (cc)
walk-Entry nodes next steps credential from (last ∷ []) directory name found most tree good names short e =
    let parts = unless-Ok (has_right credential from Search) PermissionDenied (Ok (Entry from last (child_of nodes from.ino last))) (Entry directory name found) e in
    let place = parts.1 in
    let d : from ≡ directory = cc in
    let n : last ≡ name = cc in
    let f : child_of nodes from.ino last ≡ found = cc in
    let deep : leads_to_root (steps + (most - steps)) nodes from.ino ≡ true = leads-le steps (most - steps) nodes from.ino good.depth in
    let most_is : steps + (most - steps) ≡ most = omega arith in
    record {
      directory_is = subst (IsDirectoryIn nodes most) d (record {
        stands = good.stands;
        kind = good.kind;
        depth = subst (λ s. leads_to_root s nodes from.ino ≡ true) most_is deep;
      });
      named = subst IsNodeName n (All-head IsNodeName last [] names);
      found_is = sym f ∙ ap (λ (x : Node). child_of nodes x.ino last) d ∙ ap (λ x. child_of nodes directory.ino x) n;
    }
walk-Entry nodes next steps credential from (first ∷ second ∷ rest) directory name found most tree good names short e =
    let r = and_then-Ok (entered nodes credential from first) (λ child. walk nodes credential child (second ∷ rest)) (Entry directory name found) e in
    walk-Entry nodes next (suc steps) credential r.0 (second ∷ rest) directory name found most tree
    (entered-Ok nodes next steps credential from first r.0 tree good r.1)
    (All-tail IsNodeName first (second ∷ rest) names) (omega arith) r.2

-- a path that is not refused alone has the names of nodes, and no more of them than the root may be above
pub names-of_path : (path : List (List ℕ)) → All IsPathName path → list_any is_dots path ≡ false
    → list_any (λ name. nat_lt 40 (length name)) path ≡ false → All IsNodeName path
names-of_path [] names dots long = All-nil IsNodeName
names-of_path (name ∷ path) names dots long =
    let d = or_parts (is_dots name) (list_any is_dots path) dots in
    let l = or_parts (nat_lt 40 (length name)) (list_any (λ name. nat_lt 40 (length name)) path) long in
    let own = All-head IsPathName name path names in
    All-cons IsNodeName name path ((own.0, ltb-false 40 (length name) l.0, own.2), d.0)
    (names-of_path path (All-tail IsPathName name path names) d.1 l.1)

pub path-parts : (path : List (List ℕ)) → path_refusal path ≡ None
    → (list_any is_dots path ≡ false) × (list_any (λ name. nat_lt 40 (length name)) path ≡ false) × (length path ≤ 16)
path-parts path e = elim (cases_Bool (list_any is_dots path)) [
  | inl t ↦ absurd (let h = cond-true (list_any is_dots path) (Some InvalidArgument)
      (cond (list_any (λ name. nat_lt 40 (length name)) path || nat_lt 16 (length path)) (Some NameTooLong) None) t in cc)
  | inr f ↦
      let rest = sym (cond-false (list_any is_dots path) (Some InvalidArgument)
      (cond (list_any (λ name. nat_lt 40 (length name)) path || nat_lt 16 (length path)) (Some NameTooLong) None) f) ∙ e in
      elim (cases_Bool (list_any (λ name. nat_lt 40 (length name)) path || nat_lt 16 (length path))) [
        | inl t ↦ absurd (let h = cond-true (list_any (λ name. nat_lt 40 (length name)) path || nat_lt 16 (length path)) (Some NameTooLong) None t in cc)
        | inr g ↦
            let both = or_parts (list_any (λ name. nat_lt 40 (length name)) path) (nat_lt 16 (length path)) g in
            (f, both.0, ltb-false 16 (length path) both.1)
      ]
]

pub root-is : (nodes : List Node) (next : ℕ) (root : Node) → IsTree nodes next → node_at nodes 0 ≡ Some root → IsRoot root
root-is nodes next root tree e = subst (λ o. IsSomeAnd o IsRoot) e tree.root

pub place_of-Entry_at : (nodes : List Node) (next : ℕ) (credential : Credential) (path : List (List ℕ)) (directory : Node) (name : List ℕ) (found : Option Node) (most : ℕ)
    → IsTree nodes next → ArePathNames path → length path ≤ suc most → place_of nodes credential path ≡ Ok (Entry directory name found)
    → IsPlace nodes most directory name found
place_of-Entry_at nodes next credential path directory name found most tree names short e =
    elim (path_refusal path) as (λ o. path_refusal path ≡ o → walk_unless o nodes credential path ≡ Ok (Entry directory name found) → IsPlace nodes most directory name found) [
      | Some refusal ↦ λ was e. absurd (cc)
      | None ↦ λ was e. elim (node_at nodes 0) as (λ o. node_at nodes 0 ≡ o → walk_from o nodes credential path ≡ Ok (Entry directory name found) → IsPlace nodes most directory name found) [
        | None ↦ λ at e. absurd (cc)
        | Some root ↦ λ at e.
            let parts = path-parts path was in
            let is = root-is nodes next root tree at in
            walk-Entry nodes next 0 credential root path directory name found most tree
            (record {
              stands = (find-Some (λ n. nat_eq n.rec 0) nodes root at).0;
              kind = is.kind;
              depth = leads-root 0 nodes root.ino is.ino;
            })
            (names-of_path path names.1 parts.0 parts.1) (omega arith) e
      ] refl e
    ] refl e

-- a path that leads somewhere has no more than 16 names
pub place_of-few : (nodes : List Node) (credential : Credential) (path : List (List ℕ)) (place : Place) → place_of nodes credential path ≡ Ok place → length path ≤ 16
place_of-few nodes credential path place e =
    elim (path_refusal path) as (λ o. path_refusal path ≡ o → walk_unless o nodes credential path ≡ Ok place → length path ≤ 16) [
      | Some refusal ↦ λ was e. absurd (cc)
      | None ↦ λ was e. (path-parts path was).2
    ] refl e

pub place_of-Entry : (nodes : List Node) (next : ℕ) (credential : Credential) (path : List (List ℕ)) (directory : Node) (name : List ℕ) (found : Option Node)
    → IsTree nodes next → ArePathNames path → place_of nodes credential path ≡ Ok (Entry directory name found)
    → IsPlace nodes 15 directory name found
place_of-Entry nodes next credential path directory name found tree names e =
    let few = place_of-few nodes credential path (Entry directory name found) e in
    place_of-Entry_at nodes next credential path directory name found 15 tree names (omega arith) e
