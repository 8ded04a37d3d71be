-- The move that a rename makes is one that the tree allows.
use Rattle.std.proofs.Common.{◌≡◌, ◌≢◌, ℕ, suc, ◌+◌, ◌-◌, ◌≤◌, ◌<◌, List, [], ◌∷◌, length, Bool, true, false, not, ◌||◌, ◌&&◌, cond, inl, inr, refl, sym, ◌∙◌, ap, subst, arith}
use Rattle.std.specs.Prelude.{Option, Some, None, Result, Ok, IsSomeAnd, nat_eq, nat_lt, is_some}
use Rattle.std.specs.List.{list_any}
use Rattle.std.proofs.lemmas.Bool.{cases_Bool, cond-true, cond-false, eq-eqb, ne_eqb, eqb-true, eqb-false, ltb-false, lt-ltb, le-ltb, or_parts}
use Rattle.cfs_cred.specs.declared.credential.Credential.{Credential}
use Rattle.cfs_cred.specs.declared.want.Want.TheVariants.{Write}
use Rattle.cfs_dir.specs.declared.kind.Kind.{Kind}
use Rattle.cfs_dir.specs.declared.kind.Kind.TheVariants.{Directory, File}
use Rattle.cfs_dir.specs.declared.moved.Moved.{Moved}
use Rattle.cfs_dir.specs.declared.node.Node.{Node}
use Rattle.cfs_dir.specs.declared.place.Place.TheVariants.{Entry}
use Rattle.cfs_dir.specs.declared.posix.Posix.{Posix}
use Rattle.cfs_dir.specs.declared.posix.Posix.TheVariants.{DirectoryNotEmpty, InvalidArgument, IsADirectory, NameTooLong, NotADirectory, PermissionDenied}
use Rattle.cfs_dir.specs.Moved.{CanMove, IsReplaced, IsSameNode, with_move}
use Rattle.cfs_dir.specs.Name.{is_dots}
use Rattle.cfs_dir.specs.Namespace.{Namespace, node_at, node_of, child_of, has_child, is_child, is_directory, placed, without}
use Rattle.cfs_dir.specs.Path.{ArePathNames}
use Rattle.cfs_dir.specs.Rename.{goes_too_deep, is_directory_there, is_file_there, is_node_there, is_occupied, is_within, move_refusal, names_below, node_is_too_deep, paths_refusal}
use Rattle.cfs_dir.specs.Step.{has_right, is_too_long, place_of}
use Rattle.cfs_dir.specs.Tree.{AreAscendingFrom, IsTree, leads_to_root}
use Rattle.cfs_dir.proofs.Below.{below-leaf, below-own, below-without}
use Rattle.cfs_dir.proofs.Changed.{CanLeave-leaf, without-absent}
use Rattle.cfs_dir.proofs.Depth.{leads-without}
use Rattle.cfs_dir.proofs.Found.{node_at-In, rec-least}
use Rattle.cfs_dir.proofs.Grown.{IsSomeAnd_from, is_child-parts, some_of}
use Rattle.cfs_dir.proofs.Members.{In, All-In, In-filter, In-kept, find-Some, find-None, find-none_of, find-filter_kept, list_any-In, list_any-none}
use Rattle.cfs_dir.proofs.Moves.{IsGoal, IsTree-moved, moved_node, root-stays}
use Rattle.cfs_dir.proofs.Shrunk.{IsLeaf, IsTree-without, file-leaf, kept-other, no_child}
use Rattle.cfs_dir.proofs.Walked.{IsDirectoryIn, IsPlace, child-parts, is_directory-false, is_directory-true, place_of-Entry, place_of-Entry_at, place_of-few}

-- a test that is passed, and those behind it
passes : (test : Bool) (refusal : Posix) (rest : Option Posix) → cond test (Some refusal) rest ≡ None → (test ≡ false) × (rest ≡ None)
passes true refusal rest e = absurd (cc)
passes false refusal rest e = (refl, e)

-- a path that is not refused has a name
pub paths-some : (from to : List (List ℕ)) → paths_refusal from to ≡ None → 1 ≤ length to
paths-some from to e =
    let first = passes (list_any is_dots from || list_any is_dots to || nat_eq (length from) 0 || nat_eq (length to) 0) InvalidArgument
    (cond (is_too_long from || is_too_long to) (Some NameTooLong) None) e in
    let parts = or_parts (list_any is_dots from || list_any is_dots to || nat_eq (length from) 0) (nat_eq (length to) 0) first.0 in
    let some = eqb-false (length to) 0 parts.1 in
    omega arith

-- what is known of a move that is not refused
record IsAllowed (nodes : List Node) (node directory : Node) (there : Option Node) (names : ℕ) : Type 0 where
  pub apart : (is_directory node.kind && is_within nodes node.ino directory.ino) ≡ false
  pub over_file : (is_directory node.kind && is_file_there there) ≡ false
  pub over_directory : (not (is_directory node.kind) && is_directory_there there) ≡ false
  pub empty : is_occupied nodes there ≡ false
  pub short : (is_directory node.kind && goes_too_deep nodes node.ino names) ≡ false

allowed : (nodes : List Node) (credential : Credential) (parent node directory : Node) (there : Option Node) (names : ℕ)
    → move_refusal nodes credential parent node directory there names ≡ None → IsAllowed nodes node directory there names
allowed nodes credential parent node directory there names e =
    let a = passes (is_directory node.kind && is_within nodes node.ino directory.ino) InvalidArgument _ e in
    let b = passes (is_directory node.kind && is_file_there there) NotADirectory _ a.1 in
    let c = passes (not (is_directory node.kind) && is_directory_there there) IsADirectory _ b.1 in
    let d = passes (not (has_right credential parent Write)) PermissionDenied _ c.1 in
    let f = passes (not (has_right credential directory Write)) PermissionDenied _ d.1 in
    let g = passes (is_occupied nodes there) DirectoryNotEmpty _ f.1 in
    let h = passes (is_directory node.kind && goes_too_deep nodes node.ino names) NameTooLong None g.1 in
    record { apart = a.0; over_file = b.0; over_directory = c.0; empty = g.0; short = h.0 }

same_kind : (node other : Kind) → (is_directory node && not (is_directory other)) ≡ false → (not (is_directory node) && is_directory other) ≡ false → other ≡ node
same_kind File File a b = refl
same_kind File Directory a b = absurd (cc)
same_kind Directory File a b = absurd (cc)
same_kind Directory Directory a b = refl

and_true : (x y : Bool) → x ≡ true → (x && y) ≡ false → y ≡ false
and_true true y e h = h
and_true false y e h = absurd (cc)

is_some-None : (o : Option ℕ) → is_some o ≡ false → o ≡ None
is_some-None None e = refl
is_some-None (Some n) e = absurd (cc)

-- the node stands in the tree, and goes to a place at a path of so many names
record Goes (namespace : Namespace) (node directory : Node) (name : List ℕ) (there : Option Node) (names : ℕ) : Type 0 where
  pub tree : IsTree namespace.nodes namespace.next
  pub stands : In namespace.nodes node
  pub named : node.name ≢ []
  pub place : IsPlace namespace.nodes (names - 1) directory name there
  pub some : 1 ≤ names
  pub few : names ≤ 16
  pub differs : is_node_there node there ≡ false
  pub allows : IsAllowed namespace.nodes node directory there names

module _ (namespace : Namespace) (node directory : Node) (name : List ℕ) (there : Option Node) (names : ℕ)
    (goes : Goes namespace node directory name there names) where
  once : (n : Node) → In namespace.nodes n → node_of namespace.nodes n.ino ≡ Some n
  once n m = All-In (λ n. node_of namespace.nodes n.ino ≡ Some n) namespace.nodes n goes.tree.number_once m

  same_number : (n other : Node) → In namespace.nodes n → In namespace.nodes other → n.ino ≡ other.ino → n ≡ other
  same_number n other m o e = let both : Some n ≡ Some other = sym (once n m) ∙ ap (λ i. node_of namespace.nodes i) e ∙ once other o in cc

  leaf_of : is_directory node.kind ≡ false → IsLeaf namespace.nodes node
  leaf_of file = file-leaf namespace.nodes namespace.next node goes.tree goes.stands (is_directory-false node.kind file)

  apart : names_below 16 (node_of namespace.nodes) node.ino directory.ino ≡ None
  apart = elim (cases_Bool (is_directory node.kind)) [
    | inl t ↦ is_some-None (names_below 16 (node_of namespace.nodes) node.ino directory.ino)
        (and_true (is_directory node.kind) (is_within namespace.nodes node.ino directory.ino) t goes.allows.apart)
    | inr f ↦ below-leaf 16 namespace.nodes node.ino directory.ino (leaf_of f).leaf (λ e.
        let one = same_number directory node goes.place.directory_is.stands goes.stands e in
        let clash : Directory ≡ File = sym goes.place.directory_is.kind ∙ ap (λ (n : Node). n.kind) one ∙ is_directory-false node.kind f in cc)
  ]

  short : (n : Node) (below : ℕ) → In namespace.nodes n → names_below 16 (node_of namespace.nodes) node.ino n.ino ≡ Some below → below + names ≤ 16
  short n below m is = elim (cases_Bool (is_directory node.kind)) [
    | inl t ↦
        let none = list_any-In (node_is_too_deep (node_of namespace.nodes) node.ino names) namespace.nodes n
        (and_true (is_directory node.kind) (goes_too_deep namespace.nodes node.ino names) t goes.allows.short) m in
        let few = goes.few in
        let fits : nat_lt (16 - names) below ≡ false = sym (ap (λ o. Rattle.cfs_dir.specs.Rename.is_too_deep names o) is) ∙ none in
        let bound = ltb-false (16 - names) below fits in
        omega arith
    | inr f ↦ elim (cases_Bool (nat_eq n.ino node.ino)) [
      | inl t ↦
          let own = below-own 16 (node_of namespace.nodes) node.ino n.ino (eqb-true n.ino node.ino t) in
          let zeroed : 0 ≡ below = cc in
          let few = goes.few in
          omega arith
      | inr g ↦ absurd (let none = below-leaf 16 namespace.nodes node.ino n.ino (leaf_of f).leaf (eqb-false n.ino node.ino g) in cc)
    ]
  ]

abbrev pub moved : Node → Node → List ℕ → Option Node → Moved
moved node directory name there = record { node = moved_node node directory.ino name; replaced = there }

same_node : (nodes : List Node) (next : ℕ) (node : Node) (parent : ℕ) (name : List ℕ) → IsTree nodes next → In nodes node
    → IsSomeAnd (node_at nodes node.rec) (IsSameNode (moved_node node parent name))
same_node nodes next node parent name tree stands =
    IsSomeAnd_from (node_at nodes node.rec) node (IsSameNode (moved_node node parent name)) (node_at-In 0 nodes node tree.ascending stands)
    (record { ino = refl; kind = refl; mode = refl; uid = refl; gid = refl })

-- to a name that is free
CanMove-free : (namespace : Namespace) (node directory : Node) (name : List ℕ) (names : ℕ)
    → Goes namespace node directory name None names → CanMove namespace (moved node directory name None)
CanMove-free namespace node directory name names goes =
    let goal : IsGoal namespace.nodes node directory name names = record {
      stands = goes.stands;
      named = goes.named;
      directory_is = goes.place.directory_is;
      name_is = goes.place.named;
      some = goes.some;
      few = goes.few;
      apart = apart namespace node directory name None names goes;
      short = short namespace node directory name None names goes;
      free = find-none_of (is_child directory.ino name) (without node.rec namespace.nodes) (λ n m.
          find-None (is_child directory.ino name) namespace.nodes n (sym goes.place.found_is) (In-filter (λ n. not (nat_eq n.rec node.rec)) namespace.nodes n m).0);
    } in
    record {
      stands = same_node namespace.nodes namespace.next node directory.ino name goes.tree goes.stands;
      moves = root-stays namespace.nodes namespace.next node goes.tree goes.stands goes.named;
      replaces = λ other e. absurd (cc);
      unnamed = goal.free;
      whole = IsTree-moved namespace.nodes namespace.next node directory name names goes.tree goal;
    }

-- to the name of a node, which is replaced
module _ (namespace : Namespace) (node directory : Node) (name : List ℕ) (other : Node) (names : ℕ)
    (goes : Goes namespace node directory name (Some other) names) where
  parts : In namespace.nodes other × (other.parent ≡ directory.ino) × (other.name ≡ name)
  parts = child-parts namespace.nodes directory.ino name other (sym goes.place.found_is)

  leaf : IsLeaf namespace.nodes other
  leaf = elim (cases_Bool (is_directory other.kind)) [
    | inl t ↦ record {
      stands = parts.0;
      leaf = no_child namespace.nodes other.ino (and_true (is_directory other.kind) (has_child namespace.nodes other.ino) t goes.allows.empty);
    }
    | inr f ↦ file-leaf namespace.nodes namespace.next other goes.tree parts.0 (is_directory-false other.kind f)
  ]

  differs : other.ino ≢ node.ino
  differs = eqb-false other.ino node.ino goes.differs

  outside : directory.ino ≢ other.ino
  outside e = leaf.leaf other parts.0 (parts.1 ∙ e)

  -- the nodes that stay
  stays : (n : Node) → In namespace.nodes n → n.ino ≢ other.ino → In (without other.rec namespace.nodes) n
  stays n m ne = In-kept (λ n. not (nat_eq n.rec other.rec)) namespace.nodes n m
      (kept-other namespace.nodes other n goes.tree.ascending parts.0 m (λ e. ne (ap (λ (x : Node). x.ino) e)))

  kept : (ino : ℕ) → ino ≢ other.ino → node_of (without other.rec namespace.nodes) ino ≡ node_of namespace.nodes ino
  kept ino ne = elim (node_of namespace.nodes ino) as (λ o. node_of namespace.nodes ino ≡ o → node_of (without other.rec namespace.nodes) ino ≡ o) [
    | None ↦ λ was. find-none_of (λ n. nat_eq n.ino ino) (without other.rec namespace.nodes) (λ n m.
        find-None (λ n. nat_eq n.ino ino) namespace.nodes n was (In-filter (λ n. not (nat_eq n.rec other.rec)) namespace.nodes n m).0)
    | Some n ↦ λ was.
        let r = find-Some (λ n. nat_eq n.ino ino) namespace.nodes n was in
        find-filter_kept (λ n. nat_eq n.ino ino) (λ n. not (nat_eq n.rec other.rec)) namespace.nodes n was
        (kept-other namespace.nodes other n goes.tree.ascending parts.0 r.0
        (λ e. ne (sym (eqb-true n.ino ino r.1) ∙ ap (λ (x : Node). x.ino) e)))
  ] refl

  below : (n : Node) → n.ino ≢ other.ino
      → names_below 16 (node_of (without other.rec namespace.nodes)) node.ino n.ino ≡ names_below 16 (node_of namespace.nodes) node.ino n.ino
  below n ne = below-without 16 namespace.nodes other node.ino n.ino kept leaf.leaf ne

  old : (n : Node) → In (without other.rec namespace.nodes) n → In namespace.nodes n × (n.ino ≢ other.ino)
  old n m =
      let o = In-filter (λ n. not (nat_eq n.rec other.rec)) namespace.nodes n m in (
        o.0,
        λ e.
            let one = same_number namespace node directory name (Some other) names goes n other o.0 parts.0 e in
            let hit = ap not (eq-eqb n.rec other.rec (ap (λ (x : Node). x.rec) one)) in
            let passed = o.1 in (let clash = sym hit ∙ passed in cc),
      )

  named_once : (n : Node) → In namespace.nodes n → is_child directory.ino name n ≡ true → n ≡ other
  named_once n m t =
      let same = is_child-parts directory.ino name n t in
      let found = All-In (λ n. child_of namespace.nodes n.parent n.name ≡ Some n) namespace.nodes n goes.tree.name_once m in
      let both : Some n ≡ Some other = sym found ∙ ap (λ i. child_of namespace.nodes i n.name) same.0
      ∙ ap (λ x. child_of namespace.nodes directory.ino x) same.1 ∙ sym goes.place.found_is in cc

  whole : IsTree (without other.rec namespace.nodes) namespace.next
  whole = IsTree-without namespace.nodes namespace.next other goes.tree leaf

  goal : IsGoal (without other.rec namespace.nodes) node directory name names
  goal = record {
    stands = stays node goes.stands (λ e. differs (sym e));
    named = goes.named;
    directory_is = record {
      stands = stays directory goes.place.directory_is.stands outside;
      kind = goes.place.directory_is.kind;
      depth = leads-without (names - 1) namespace.nodes other directory.ino (node_at-In 0 namespace.nodes other goes.tree.ascending parts.0)
          (λ x s. node_at-In 0 namespace.nodes x goes.tree.ascending s) leaf.leaf outside goes.place.directory_is.depth;
    };
    name_is = goes.place.named;
    some = goes.some;
    few = goes.few;
    apart = below directory outside ∙ apart namespace node directory name (Some other) names goes;
    short = λ n k m is. let o = old n m in short namespace node directory name (Some other) names goes n k o.0 (sym (below n o.1) ∙ is);
    free = find-none_of (is_child directory.ino name) (without node.rec (without other.rec namespace.nodes)) (λ n m.
        let o = old n (In-filter (λ n. not (nat_eq n.rec node.rec)) (without other.rec namespace.nodes) n m).0 in
        elim (cases_Bool (is_child directory.ino name n)) [
          | inl t ↦ absurd (o.1 (ap (λ (x : Node). x.ino) (named_once n o.0 t)))
          | inr f ↦ f
        ]);
  }

  CanMove-over : CanMove namespace (moved node directory name (Some other))
  CanMove-over = record {
    stands = same_node namespace.nodes namespace.next node directory.ino name goes.tree goes.stands;
    moves = root-stays namespace.nodes namespace.next node goes.tree goes.stands goes.named;
    replaces = λ replaced e.
        let one : other ≡ replaced = cc in
        subst (IsReplaced namespace (moved_node node directory.ino name)) one (record {
          leaves = CanLeave-leaf namespace other goes.tree leaf;
          differs = λ same.
              (let both : Some other ≡ Some node = sym (node_at-In 0 namespace.nodes other goes.tree.ascending parts.0)
              ∙ ap (λ r. node_at namespace.nodes r) same ∙ node_at-In 0 namespace.nodes node goes.tree.ascending goes.stands in
              let equal : other ≡ node = cc in
              differs (ap (λ (n : Node). n.ino) equal));
          parent = parts.1;
          name = parts.2;
          kind = same_kind node.kind other.kind goes.allows.over_file goes.allows.over_directory;
          empty = list_any-none (λ n. nat_eq n.parent other.ino) namespace.nodes (λ n m. ne_eqb n.parent other.ino (leaf.leaf n m));
        });
    unnamed = goal.free;
    whole = IsTree-moved (without other.rec namespace.nodes) namespace.next node directory name names whole goal;
  }

CanMove-goes : (namespace : Namespace) (node directory : Node) (name : List ℕ) (there : Option Node) (names : ℕ)
    → Goes namespace node directory name there names → CanMove namespace (moved node directory name there)
CanMove-goes namespace node directory name None names goes = CanMove-free namespace node directory name names goes
CanMove-goes namespace node directory name (Some other) names goes = CanMove-over namespace node directory name other names goes

-- a node that goes elsewhere does not stand there yet
moves-goes : (namespace : Namespace) (node directory : Node) (name : List ℕ) (there : Option Node) (names : ℕ)
    → Goes namespace node directory name there names → node_at namespace.nodes node.rec ≡ Some (moved_node node directory.ino name) → ⊥
moves-goes namespace node directory name there names goes e =
    let both : Some node ≡ Some (moved_node node directory.ino name) = sym (node_at-In 0 namespace.nodes node goes.tree.ascending goes.stands) ∙ e in
    let one : node ≡ moved_node node directory.ino name = cc in
    let found = All-In (λ n. child_of namespace.nodes n.parent n.name ≡ Some n) namespace.nodes node goes.tree.name_once goes.stands in
    let here : there ≡ Some node = goes.place.found_is
    ∙ ap (λ (n : Node). child_of namespace.nodes n.parent name) (sym one)
    ∙ ap (λ (n : Node). child_of namespace.nodes node.parent n.name) (sym one) ∙ found in
    let differs = goes.differs in
    let hit = ap (λ o. is_node_there node o) here ∙ eq-eqb node.ino node.ino refl in
    (let clash = sym hit ∙ differs in cc)

-- a node that is put where it stands changes nothing
placed-first : (node : Node) (nodes : List Node) → AreAscendingFrom (suc node.rec) nodes → placed node nodes ≡ node ∷ nodes
placed-first node [] h = refl
placed-first node (first ∷ rest) h =
    cond-false (nat_lt first.rec node.rec) (first ∷ placed node rest) (node ∷ first ∷ rest) (le-ltb first.rec node.rec (let low = h.0 in omega arith))

placed-again : (least : ℕ) (nodes : List Node) (node : Node) → AreAscendingFrom least nodes → In nodes node → placed node (without node.rec nodes) ≡ nodes
placed-again least [] node h m = absurd m
placed-again least (first ∷ rest) node h m = elim m [
  | inl same ↦
      let at : first.rec ≡ node.rec = ap (λ (n : Node). n.rec) same in
      let above = subst (λ r. AreAscendingFrom (suc r) rest) at h.1 in
      let free : node_at rest node.rec ≡ None = find-none_of (λ n. nat_eq n.rec node.rec) rest (λ n r.
      let low = rec-least (suc node.rec) rest n above r in ne_eqb n.rec node.rec (λ e. let e' : n.rec ≡ node.rec = e in omega arith)) in
      ap (λ ns. placed node ns)
      (cond-false (not (nat_eq first.rec node.rec)) (first ∷ without node.rec rest) (without node.rec rest) (ap not (eq-eqb first.rec node.rec at))
      ∙ without-absent rest node.rec free)
      ∙ placed-first node rest above ∙ ap (λ n. n ∷ rest) (sym same)
  | inr deeper ↦
      let low : suc first.rec ≤ node.rec = rec-least (suc first.rec) rest node h.1 deeper in
      ap (λ ns. placed node ns)
      (cond-true (not (nat_eq first.rec node.rec)) (first ∷ without node.rec rest) (without node.rec rest)
      (ap not (ne_eqb first.rec node.rec (λ e. let e' : first.rec ≡ node.rec = e in omega arith))))
      ∙ cond-true (nat_lt first.rec node.rec) (first ∷ placed node (without node.rec rest)) (node ∷ first ∷ without node.rec rest) (lt-ltb first.rec node.rec low)
      ∙ ap (λ ns. first ∷ ns) (placed-again (suc first.rec) rest node h.1 deeper)
]

CanMove-itself : (namespace : Namespace) (node : Node) → IsTree namespace.nodes namespace.next → In namespace.nodes node
    → node.rec ≢ 0 → CanMove namespace (record { node = node; replaced = None })
CanMove-itself namespace node tree stands moves = record {
  stands = IsSomeAnd_from (node_at namespace.nodes node.rec) node (IsSameNode node) (node_at-In 0 namespace.nodes node tree.ascending stands)
      (record { ino = refl; kind = refl; mode = refl; uid = refl; gid = refl });
  moves = moves;
  replaces = λ other e. absurd (cc);
  unnamed = find-none_of (is_child node.parent node.name) (without node.rec namespace.nodes) (λ n m.
      let o = In-filter (λ n. not (nat_eq n.rec node.rec)) namespace.nodes n m in
      elim (cases_Bool (is_child node.parent node.name n)) [
        | inl t ↦
            let same = is_child-parts node.parent node.name n t in
            let both : Some n ≡ Some node = sym (All-In (λ n. child_of namespace.nodes n.parent n.name ≡ Some n) namespace.nodes n tree.name_once o.0)
            ∙ ap (λ i. child_of namespace.nodes i n.name) same.0 ∙ ap (λ x. child_of namespace.nodes node.parent x) same.1
            ∙ All-In (λ n. child_of namespace.nodes n.parent n.name ≡ Some n) namespace.nodes node tree.name_once stands in
            let one : n ≡ node = cc in
            absurd (let hit = ap not (eq-eqb n.rec node.rec (ap (λ (x : Node). x.rec) one)) in let passed = o.1 in (let clash = sym hit ∙ passed in cc))
        | inr f ↦ f
      ]);
  whole = subst (λ ns. IsTree ns namespace.next) (sym (placed-again 0 namespace.nodes node tree.ascending stands)) tree;
}

pub with_move-itself : (namespace : Namespace) (node : Node) → IsTree namespace.nodes namespace.next → In namespace.nodes node
    → with_move namespace (record { node = node; replaced = None }) ≡ namespace
with_move-itself namespace node tree stands =
    ap (λ ns. record { nodes = ns; next = namespace.next }) (placed-again 0 namespace.nodes node tree.ascending stands)

-- the node of a path stands in the tree, and has a name
found-there : (namespace : Namespace) (credential : Credential) (from : List (List ℕ)) (parent : Node) (name : List ℕ) (node : Node)
    → IsTree namespace.nodes namespace.next → ArePathNames from → place_of namespace.nodes credential from ≡ Ok (Entry parent name (Some node))
    → In namespace.nodes node × (node.name ≢ [])
found-there namespace credential from parent name node tree names e =
    let place = place_of-Entry namespace.nodes namespace.next credential from parent name (Some node) tree names e in
    let parts = child-parts namespace.nodes parent.ino name node (sym place.found_is) in
    let some = place.named.0.0 in
    (parts.0, λ none. (let empty = ap (λ (bytes : List ℕ). length bytes) (sym parts.2 ∙ none) in let zeroed : length name ≡ 0 = empty in omega arith))

-- the move to itself
module _ (namespace : Namespace) (credential : Credential) (from : List (List ℕ)) (parent : Node) (name : List ℕ) (node : Node)
    (tree : IsTree namespace.nodes namespace.next) (names : ArePathNames from)
    (e : place_of namespace.nodes credential from ≡ Ok (Entry parent name (Some node))) where
  pub still-moves : CanMove namespace (record { node = node; replaced = None })
  still-moves =
      let there = found-there namespace credential from parent name node tree names e in
      CanMove-itself namespace node tree there.0 (root-stays namespace.nodes namespace.next node tree there.0 there.1)

  pub still-same : with_move namespace (record { node = node; replaced = None }) ≡ namespace
  still-same = with_move-itself namespace node tree (found-there namespace credential from parent name node tree names e).0

-- the move that is not refused
module _ (namespace : Namespace) (credential : Credential) (from to : List (List ℕ)) (parent : Node) (old : List ℕ) (node directory : Node) (name : List ℕ) (there : Option Node)
    (tree : IsTree namespace.nodes namespace.next) (from_names : ArePathNames from) (to_names : ArePathNames to) (paths : paths_refusal from to ≡ None)
    (from_is : place_of namespace.nodes credential from ≡ Ok (Entry parent old (Some node)))
    (to_is : place_of namespace.nodes credential to ≡ Ok (Entry directory name there)) (differs : is_node_there node there ≡ false)
    (passed : move_refusal namespace.nodes credential parent node directory there (length to) ≡ None) where
  goes : Goes namespace node directory name there (length to)
  goes =
      let stands = found-there namespace credential from parent old node tree from_names from_is in
      record {
        tree = tree;
        stands = stands.0;
        named = stands.1;
        place = place_of-Entry_at namespace.nodes namespace.next credential to directory name there (length to - 1) tree to_names (omega arith) to_is;
        some = paths-some from to paths;
        few = place_of-few namespace.nodes credential to (Entry directory name there) to_is;
        differs = differs;
        allows = allowed namespace.nodes credential parent node directory there (length to) passed;
      }

  pub renamed-moves : CanMove namespace (moved node directory name there)
  renamed-moves = CanMove-goes namespace node directory name there (length to) goes

  pub renamed-goes : node_at namespace.nodes node.rec ≡ Some (moved_node node directory.ino name) → ⊥
  renamed-goes = moves-goes namespace node directory name there (length to) goes

-- the node still stands where the one that it replaces is gone
pub stands-over : (namespace : Namespace) (moved : Moved) (other : Node) (nodes : List Node) → CanMove namespace moved → moved.replaced ≡ Some other
    → nodes ≡ without other.rec namespace.nodes → IsSomeAnd (node_at nodes moved.node.rec) (λ old. old.ino ≡ moved.node.ino)
stands-over namespace moved other nodes can e same =
    let old = some_of (node_at namespace.nodes moved.node.rec) (IsSameNode moved.node) can.stands in
    let at : old.0.rec ≡ moved.node.rec = eqb-true old.0.rec moved.node.rec (find-Some (λ n. nat_eq n.rec moved.node.rec) namespace.nodes old.0 old.1).1 in
    let differs = (can.replaces other e).differs in
    subst (λ ns. IsSomeAnd (node_at ns moved.node.rec) (λ old. old.ino ≡ moved.node.ino)) (sym same)
    (IsSomeAnd_from (node_at (without other.rec namespace.nodes) moved.node.rec) old.0 (λ old. old.ino ≡ moved.node.ino)
    (find-filter_kept (λ n. nat_eq n.rec moved.node.rec) (λ n. not (nat_eq n.rec other.rec)) namespace.nodes old.0 old.1
    (ap not (ne_eqb old.0.rec other.rec (λ r. differs (sym r ∙ at))))) old.2.ino)

pub stands-free : (namespace : Namespace) (moved : Moved) (nodes : List Node) → CanMove namespace moved
    → nodes ≡ namespace.nodes → IsSomeAnd (node_at nodes moved.node.rec) (λ old. old.ino ≡ moved.node.ino)
stands-free namespace moved nodes can same =
    let old = some_of (node_at namespace.nodes moved.node.rec) (IsSameNode moved.node) can.stands in
    subst (λ ns. IsSomeAnd (node_at ns moved.node.rec) (λ old. old.ino ≡ moved.node.ino)) (sym same)
    (IsSomeAnd_from (node_at namespace.nodes moved.node.rec) old.0 (λ old. old.ino ≡ moved.node.ino) old.1 old.2.ino)
