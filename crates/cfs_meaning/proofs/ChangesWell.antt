-- What a request on names changes of a tree: one thing at most, behind which it is a tree again.
use Rattle.std.proofs.Common.{◌≡◌, ◌≢◌, ℕ, ◌+◌, ◌<◌, ◌^◌, Bool, true, false, not, Option}
use Rattle.std.proofs.Common.{Some, None, List, [], ◌∷◌, length, refl, sym, ap, ◌∙◌, subst, arith}
use Rattle.std.proofs.Common.{if◌then◌else◌, cond}
use Rattle.std.specs.Prelude.{Result, Ok, Err, ◌==◌, nat_lt}
use Rattle.std.specs.List.{list_any}
use Rattle.std.proofs.lemmas.Bool.{eqb-false, ltb-true, or_parts}
use Rattle.cfs_core_laws.proofs.Finds.{find-passes}
use Rattle.cfs_cred.specs.declared.credential.Credential.{Credential}
use Rattle.cfs_cred.specs.declared.want.Want.TheVariants.{Write}
use Rattle.cfs_dir.specs.declared.change.Change.TheVariants as changes
use Rattle.cfs_dir.specs.declared.kind.Kind.{Kind}
use Rattle.cfs_dir.specs.declared.kind.Kind.TheVariants.{Directory, File}
use Rattle.cfs_dir.specs.declared.moved.Moved.{Moved}
use Rattle.cfs_dir.specs.declared.node.Node.{Node}
use Rattle.cfs_dir.specs.declared.place.Place.{Place}
use Rattle.cfs_dir.specs.declared.place.Place.TheVariants.{Entry, Root}
use Rattle.cfs_dir.specs.declared.posix.Posix.{Posix}
use Rattle.cfs_dir.specs.declared.posix.Posix.TheVariants.{AlreadyExists, DirectoryNotEmpty}
use Rattle.cfs_dir.specs.declared.posix.Posix.TheVariants.{IsADirectory}
use Rattle.cfs_dir.specs.declared.posix.Posix.TheVariants.{NotADirectory, PermissionDenied}
use Rattle.cfs_dir.specs.declared.posix.Posix.TheVariants.{TooManyFiles}
use Rattle.cfs_dir.specs.Moved.{CanMove, change_of}
use Rattle.cfs_dir.specs.Namespace.{Namespace, has_child, is_directory, node_at, placed}
use Rattle.cfs_dir.specs.Path.{ArePathNames}
use Rattle.cfs_dir.specs.Rename.{is_node_there, move_refusal, moved_from, moved_to, moved_unless}
use Rattle.cfs_dir.specs.Rename.{paths_refusal, renamed, renamed_unless}
use Rattle.cfs_dir.specs.Step.{has_right, looked_up, made, made_at, new_node, path_refusal, place_of}
use Rattle.cfs_dir.specs.Step.{removed_directory, rmdir_at, unless, unlinked, unlinked_at}
use Rattle.cfs_dir.specs.Tree.{CanJoin, CanLeave, IsTree}
use Rattle.cfs_dir.proofs.Changed.{CanJoin-new, CanLeave-empty, CanLeave-file}
use Rattle.cfs_dir.proofs.Renaming.{renamed-moves, still-moves}
use Rattle.cfs_dir.proofs.Walked.{and_then-Ok, unless-Ok}
use Rattle.cfs_names.proofs.Tellable.{join_named, move_named}
use Rattle.cfs_requests.specs.declared.name_refusal.NameRefusal.{NameRefusal}
use Rattle.cfs_requests.specs.declared.opening.Opening.{Opening}
use Rattle.cfs_requests.specs.declared.opening.Opening.TheVariants.{Found, Made}
use Rattle.cfs_requests.specs.Looks.{by_tree, makes, moves, opens, removal_refusal, removes}
use Rattle.cfs_requests.specs.Looks.{unless_words, unlinks}
use Rattle.cfs_requests.specs.Opens.{found, found_when, has_access, made_or, opened, words_refusal}
use Rattle.cfs_script.specs.declared.form.Form.TheVariants as forms
use Rattle.cfs_meaning.specs.NameSteps.{made_changes, moved_changes, removed_changes}
use Rattle.cfs_meaning.specs.NameSteps.{opening_changes, stands, tree_of}
use Rattle.cfs_words.specs.declared.flags.Flags.{Flags}
use Rattle.cfs_meaning.specs.World as meaning
use Rattle.cfs_meaning.specs.World.{World, credential_in, is_used, new_file}
use Rattle.cfs_meaning.specs.Names.{free_record}
use Rattle.cfs_meaning.specs.Devices.{OfEachFile}
use Rattle.cfs_meaning.specs.Trees.{AreClear, AreWell, LinesChangeWell, MayBegin}
use Rattle.cfs_meaning.proofs.Mapped.{found-low}

-- ---- answers that are Ok

by-tree-Ok : {X : Type 0} (step : Result X Posix) (value : X) → by_tree step ≡ Ok value →
    step ≡ Ok value
by-tree-Ok (Ok x) value is = let same : x ≡ value = cc in ap (λ v. Ok v) same
by-tree-Ok (Err refusal) value is = absurd (cc)

words-Ok : {X : Type 0} (words : Option Posix) (step : Result X Posix) (value : X) →
    unless_words words step ≡ Ok value → (words ≡ None) × (step ≡ Ok value)
words-Ok (Some refusal) step value is = absurd (cc)
words-Ok None step value is = (refl, by-tree-Ok step value is)

same-ok : {X : Type 0} {one other : X} → ◌≡◌ {A = Result X Posix} (Ok one) (Ok other) →
    one ≡ other
same-ok is = cc

not-true : (b : Bool) → not b ≡ true → b ≡ false
not-true true is = absurd (cc)
not-true false is = refl

-- ---- a node is removed

remove-well : (world : World) (node : Node) → CanLeave (tree_of world.names.now) node →
    AreWell world (changes.Remove node.rec node.ino ∷ [])
remove-well world node leaves = (tt, leaves.whole, refl, tt)

removed-well : (world : World) (found : Result Node NameRefusal) →
    ((node : Node) → found ≡ Ok node → CanLeave (tree_of world.names.now) node) →
    AreWell world (removed_changes found)
removed-well world (Err refusal) leaves = tt
removed-well world (Ok node) leaves = remove-well world node (leaves node refl)

unlinked-leaves : (tree : Namespace) (credential : Credential) (path : List (List ℕ))
    (node : Node) → IsTree tree.nodes tree.next → ArePathNames path →
    unlinks tree credential path ≡ Ok node → CanLeave tree node
unlinked-leaves tree credential path node whole path_names is =
    let step = words-Ok (path_refusal path) (unlinked tree credential path) node is in
    let found = and_then-Ok (place_of tree.nodes credential path) (unlinked_at credential) node
    step.1 in
    at found.0 found.1 found.2
  where
    at : (place : Place) → place_of tree.nodes credential path ≡ Ok place →
        unlinked_at credential place ≡ Ok node → CanLeave tree node
    at (Root root) here now = absurd (cc)
    at (Entry directory name None) here now = absurd (cc)
    at (Entry directory name (Some there)) here now =
        let kind = unless-Ok (not (is_directory there.kind)) IsADirectory
        (unless (has_right credential directory Write) PermissionDenied (Ok there)) node now in
        let right = unless-Ok (has_right credential directory Write) PermissionDenied (Ok there)
        node kind.1 in
        subst (CanLeave tree) (same-ok right.1)
        (CanLeave-file tree credential path directory name there whole path_names here
        (not-true (is_directory there.kind) kind.0))

removed-leaves : (tree : Namespace) (credential : Credential) (path : List (List ℕ))
    (node : Node) → IsTree tree.nodes tree.next → ArePathNames path →
    removes tree credential path ≡ Ok node → CanLeave tree node
removed-leaves tree credential path node whole path_names is =
    let step = words-Ok (removal_refusal path) (removed_directory tree credential path) node is in
    let found = and_then-Ok (place_of tree.nodes credential path) (rmdir_at tree.nodes credential)
    node step.1 in
    at found.0 found.1 found.2
  where
    at : (place : Place) → place_of tree.nodes credential path ≡ Ok place →
        rmdir_at tree.nodes credential place ≡ Ok node → CanLeave tree node
    at (Root root) here now = absurd (cc)
    at (Entry directory name None) here now = absurd (cc)
    at (Entry directory name (Some there)) here now =
        let last : Result Node Posix =
        unless (not (has_child tree.nodes there.ino)) DirectoryNotEmpty (Ok there) in
        let kind = unless-Ok (is_directory there.kind) NotADirectory
        (unless (has_right credential directory Write) PermissionDenied last) node now in
        let right = unless-Ok (has_right credential directory Write) PermissionDenied last node
        kind.1 in
        let empty = unless-Ok (not (has_child tree.nodes there.ino)) DirectoryNotEmpty (Ok there)
        node right.1 in
        subst (CanLeave tree) (same-ok empty.1)
        (CanLeave-empty tree credential path directory name there whole path_names here
        (not-true (has_child tree.nodes there.ino) empty.0))

-- ---- a directory is made

-- a record that no node has
record IsFreeIn (tree : Namespace) (rec : Option ℕ) : Type 0 where
  pub low : (r : ℕ) → rec ≡ Some r → r < 256
  pub none : (r : ℕ) → rec ≡ Some r → node_at tree.nodes r ≡ None

none-at : (nodes : List Node) (r : ℕ) → list_any (λ n. n.rec == r) nodes ≡ false →
    node_at nodes r ≡ None
none-at [] r none = refl
none-at (node ∷ nodes) r none =
    let parts = or_parts (node.rec == r) (list_any (λ n. n.rec == r) nodes) none in
    ap (λ b. cond b (Some node) (node_at nodes r)) parts.0 ∙ none-at nodes r parts.1

free-record : (world : World) → IsFreeIn (tree_of world.names.now) (free_record world)
free-record world = record {
  low = λ r is.
      (let low = found-low (λ rec. not (is_used world rec)) 0 256 r is in omega (arith, low));
  none = λ r is.
      let passes = find-passes (λ rec. not (is_used world rec)) 0 256 r is in
      none-at (tree_of world.names.now).nodes r
      (or_parts _ _ (not-true (is_used world r) passes)).0;
}

-- a node that is made: it may join the tree, and has the next number and the record
record IsMade (tree : Namespace) (kind : Kind) (rec : Option ℕ) (node : Node) : Type 0 where
  pub joins : CanJoin tree node
  pub kind_is : node.kind ≡ kind
  pub rec_is : rec ≡ Some node.rec

made-node : (tree : Namespace) (credential : Credential) (path : List (List ℕ)) (kind : Kind)
    (mode : ℕ) (rec : Option ℕ) (node : Node) → IsTree tree.nodes tree.next →
    ArePathNames path → mode < 512 → credential.uid < 2 ^ 32 → credential.gid < 2 ^ 32 →
    IsFreeIn tree rec → made tree credential path kind mode rec ≡ Ok node →
    IsMade tree kind rec node
made-node tree credential path kind mode rec node whole path_names permissions uid gid free is =
    let found = and_then-Ok (place_of tree.nodes credential path)
    (made_at tree credential kind mode rec) node is in
    at found.0 found.1 found.2
  where
    with-record : (directory : Node) (name : List ℕ) → (given : Option ℕ) → rec ≡ given →
        place_of tree.nodes credential path ≡ Ok (Entry directory name None) →
        new_node tree credential directory name kind mode given ≡ Ok node →
        IsMade tree kind rec node
    with-record directory name None same here now = absurd (cc)
    with-record directory name (Some r) same here now =
        let new : Node = record {
          ino = tree.next;
          parent = directory.ino;
          name = name;
          kind = kind;
          mode = mode;
          uid = credential.uid;
          gid = credential.gid;
          rec = r;
        } in
        let room = unless-Ok (nat_lt tree.next 4294967296) TooManyFiles (Ok new) node now in
        subst (IsMade tree kind rec) (same-ok room.1)
        (record {
          joins = CanJoin-new tree credential path directory name new whole path_names here refl
              (ltb-true tree.next 4294967296 room.0) refl refl permissions uid gid
              (free.low r same) (free.none r same);
          kind_is = refl;
          rec_is = same;
        })

    at : (place : Place) → place_of tree.nodes credential path ≡ Ok place →
        made_at tree credential kind mode rec place ≡ Ok node → IsMade tree kind rec node
    at (Root root) here now = absurd (cc)
    at (Entry directory name (Some there)) here now = absurd (cc)
    at (Entry directory name None) here now =
        let right = unless-Ok (has_right credential directory Write) PermissionDenied
        (new_node tree credential directory name kind mode rec) node now in
        with-record directory name rec refl here right.1

made-joins : (tree : Namespace) (credential : Credential) (path : List (List ℕ)) (mode : ℕ)
    (rec : Option ℕ) (node : Node) → IsTree tree.nodes tree.next → ArePathNames path →
    mode < 512 → credential.uid < 2 ^ 32 → credential.gid < 2 ^ 32 → IsFreeIn tree rec →
    makes tree credential path mode rec ≡ Ok node →
    CanJoin tree node × (is_directory node.kind ≡ true)
made-joins tree credential path mode rec node whole path_names permissions uid gid free is =
    let step = words-Ok (path_refusal path) (made tree credential path Directory mode rec) node is
    in
    let one = made-node tree credential path Directory mode rec node whole path_names permissions
    uid gid free step.1 in
    (one.joins, ap is_directory one.kind_is)

make-well : (world : World) (node : Node) →
    IsTree (tree_of world.names.now).nodes (tree_of world.names.now).next →
    CanJoin (tree_of world.names.now) node → is_directory node.kind ≡ true →
    AreWell world (changes.Create node ∷ [])
make-well world node whole joins kind = (
  join_named (tree_of world.names.now) node joins
      (let low = whole.next_low in let number = joins.number in omega (arith, low, number)),
  subst (λ n. IsTree (placed node (tree_of world.names.now).nodes) (n + 1)) (sym joins.number)
      joins.whole,
  refl,
  subst (λ b. OfEachFile (MayBegin world) (if b then [] else new_file node.ino node.rec ∷ []))
      (sym kind) tt,
)

made-well : (world : World) (found : Result Node NameRefusal) →
    IsTree (tree_of world.names.now).nodes (tree_of world.names.now).next →
    ((node : Node) → found ≡ Ok node →
    CanJoin (tree_of world.names.now) node × (is_directory node.kind ≡ true)) →
    AreWell world (made_changes found)
made-well world (Err refusal) whole joins = tt
made-well world (Ok node) whole joins =
    let one = joins node refl in make-well world node whole one.0 one.1

-- ---- a file is made

-- what is found is not made
found-not-made : (tree : Namespace) (credential : Credential) (path : List (List ℕ))
    (flags : Flags) (node : Node) → found tree credential path flags ≡ Ok (Made node) → ⊥
found-not-made tree credential path flags node is =
    let there = and_then-Ok (looked_up tree credential path) (found_when credential flags)
    (Made node) is in
    by-kind there.0 (is_directory there.0.kind) (not (has_access credential there.0 flags)) there.2
  where
    by-kind : (one : Node) (directory denied : Bool) →
        (if directory then Err IsADirectory
        else if denied then Err PermissionDenied else Ok (Found one)) ≡ Ok (Made node) → ⊥
    by-kind one true denied now = absurd (cc)
    by-kind one false true now = absurd (cc)
    by-kind one false false now =
        let same : Found one ≡ Made node = same-ok now in absurd (cc)

made-or-made : (exclusive : Bool) (there : Result Opening Posix) (step : Result Node Posix)
    (node : Node) → (there ≡ Ok (Made node) → ⊥) →
    made_or exclusive there step ≡ Ok (Made node) → step ≡ Ok node
made-or-made exclusive there (Ok new) node never is =
    let same : Made new ≡ Made node = same-ok is in
    let one : new ≡ node = cc in ap (λ n. Ok n) one
made-or-made true there (Err AlreadyExists) node never is = absurd (cc)
made-or-made false there (Err AlreadyExists) node never is = absurd (never is)
made-or-made exclusive there (Err refusal) node never is = absurd (cc)

opens-made : (tree : Namespace) (credential : Credential) (path : List (List ℕ)) (flags : Flags)
    (mode : ℕ) (rec : Option ℕ) (node : Node) →
    opens tree credential path flags mode rec ≡ Ok (Made node) →
    made tree credential path File mode rec ≡ Ok node
opens-made tree credential path flags mode rec node is =
    by-create flags.create
    (words-Ok (words_refusal flags path) (opened tree credential path flags mode rec) (Made node)
    is).1
  where
    by-create : (create : Bool) →
        (if create
        then made_or flags.exclusive (found tree credential path flags)
        (made tree credential path File mode rec)
        else found tree credential path flags) ≡ Ok (Made node) →
        made tree credential path File mode rec ≡ Ok node
    by-create true now =
        made-or-made flags.exclusive (found tree credential path flags)
        (made tree credential path File mode rec) node
        (found-not-made tree credential path flags node) now
    by-create false now = absurd (found-not-made tree credential path flags node now)

others-apart : (next rec : ℕ) (files : List meaning.File) →
    OfEachFile (λ f. f.ino < next) files → list_any (λ f. f.rec == rec) files ≡ false →
    OfEachFile (λ g. (g.ino ≢ next) × (g.rec ≢ rec)) files
others-apart next rec [] low none = tt
others-apart next rec (f ∷ files) low none =
    let parts = or_parts (f.rec == rec) (list_any (λ g. g.rec == rec) files) none in (
      (
        λ same. (let below = low.0 in omega (arith, below, same)),
        eqb-false f.rec rec parts.0,
      ),
      others-apart next rec files low.1 parts.1,
    )

file-well : (world : World) (node : Node) →
    IsTree (tree_of world.names.now).nodes (tree_of world.names.now).next → AreClear world →
    IsMade (tree_of world.names.now) File (free_record world) node →
    AreWell world (changes.Create node ∷ [])
file-well world node whole clear made_so =
    let joins = made_so.joins in
    let low = whole.next_low in
    let number = joins.number in
    let passes = find-passes (λ rec. not (is_used world rec)) 0 256 node.rec made_so.rec_is in
    let unused : is_used world node.rec ≡ false = not-true (is_used world node.rec) passes in
    let below = (free-record world).low node.rec made_so.rec_is in (
      join_named (tree_of world.names.now) node joins (omega (arith, low, number)),
      subst (λ n. IsTree (placed node (tree_of world.names.now).nodes) (n + 1)) (sym number)
          joins.whole,
      refl,
      subst (λ kind. OfEachFile (MayBegin world)
          (if is_directory kind then [] else new_file node.ino node.rec ∷ []))
          (sym made_so.kind_is) (
            record {
              number = λ none. omega (arith, low, number, none);
              low = below;
              size = clear.words node.rec unused below;
              clear = clear.clear node.rec unused below;
              other = subst (λ n. OfEachFile (λ g. (g.ino ≢ n) × (g.rec ≢ node.rec)) world.files)
                  (sym number)
                  (others-apart (tree_of world.names.now).next node.rec world.files clear.numbers
                  (or_parts _ _ unused).1);
            },
            tt,
          ),
    )

opened-well : (world : World) (step : Result Opening NameRefusal) →
    IsTree (tree_of world.names.now).nodes (tree_of world.names.now).next → AreClear world →
    ((node : Node) → step ≡ Ok (Made node) →
    IsMade (tree_of world.names.now) File (free_record world) node) →
    AreWell world (opening_changes step)
opened-well world (Err refusal) whole clear made_so = tt
opened-well world (Ok (Found node)) whole clear made_so = tt
opened-well world (Ok (Made node)) whole clear made_so =
    file-well world node whole clear (made_so node refl)

-- ---- a node is moved

move-well : (world : World) (moved : Moved) → CanMove (tree_of world.names.now) moved →
    (b : Bool) → AreWell world (if b then [] else change_of moved ∷ [])
move-well world moved can true = tt
move-well world moved can false =
    (move_named (tree_of world.names.now) moved can, can.whole, refl, tt)

moved-well : (world : World) (found : Result Moved NameRefusal) →
    ((moved : Moved) → found ≡ Ok moved → CanMove (tree_of world.names.now) moved) →
    AreWell world (moved_changes (tree_of world.names.now).nodes found)
moved-well world (Err refusal) can = tt
moved-well world (Ok moved) can =
    move-well world moved (can moved refl) (stands (tree_of world.names.now).nodes moved.node)

renamed-can : (tree : Namespace) (credential : Credential) (from to : List (List ℕ))
    (moved : Moved) → IsTree tree.nodes tree.next → ArePathNames from → ArePathNames to →
    moves tree credential from to ≡ Ok moved → CanMove tree moved
renamed-can tree credential from to moved whole from_names to_names is =
    let step = words-Ok (paths_refusal from to) (renamed tree credential from to) moved is in
    let unrefused : renamed_unless None tree.nodes credential from to ≡ Ok moved =
    ap (λ o. renamed_unless o tree.nodes credential from to) (sym step.0) ∙ step.1 in
    let found = and_then-Ok (place_of tree.nodes credential from)
    (moved_from tree.nodes credential to) moved unrefused in
    at step.0 found.0 found.1 found.2
  where
    lands : paths_refusal from to ≡ None → (parent node : Node) (old : List ℕ) →
        place_of tree.nodes credential from ≡ Ok (Entry parent old (Some node)) →
        (place : Place) → place_of tree.nodes credential to ≡ Ok place →
        moved_to tree.nodes credential (length to) parent node place ≡ Ok moved →
        CanMove tree moved
    lands paths parent node old here (Root root) there now = absurd (cc)
    lands paths parent node old here (Entry directory name stood) there now =
        by-test (is_node_there node stood) refl now
      where
        new : Moved
        new = record {
          node = record node { parent = directory.ino; name = name };
          replaced = stood;
        }

        by-refusal : is_node_there node stood ≡ false → (refusal : Option Posix) →
            move_refusal tree.nodes credential parent node directory stood (length to) ≡ refusal →
            moved_unless refusal new ≡ Ok moved → CanMove tree moved
        by-refusal other (Some refusal) same end = absurd (cc)
        by-refusal other None same end =
            subst (CanMove tree) (same-ok end)
            (renamed-moves tree credential from to parent old node directory name stood whole
            from_names to_names paths here there other same)

        by-test : (b : Bool) → is_node_there node stood ≡ b →
            (if b then Ok (record { node = node; replaced = None })
            else moved_unless
            (move_refusal tree.nodes credential parent node directory stood (length to)) new)
            ≡ Ok moved → CanMove tree moved
        by-test true same end =
            subst (CanMove tree) (same-ok end)
            (still-moves tree credential from parent old node whole from_names here)
        by-test false other end =
            by-refusal other
            (move_refusal tree.nodes credential parent node directory stood (length to)) refl end

    at : paths_refusal from to ≡ None → (place : Place) →
        place_of tree.nodes credential from ≡ Ok place →
        moved_from tree.nodes credential to place ≡ Ok moved → CanMove tree moved
    at paths (Root root) here now = absurd (cc)
    at paths (Entry parent old None) here now = absurd (cc)
    at paths (Entry parent old (Some node)) here now =
        let second = and_then-Ok (place_of tree.nodes credential to)
        (moved_to tree.nodes credential (length to) parent node) moved now in
        lands paths parent node old here second.0 second.1 second.2

-- ---- lines

pub lines-change-well : LinesChangeWell
lines-change-well world (forms.Open c path flags mode) stored bounded =
    opened-well world
    (opens (tree_of world.names.now) (credential_in world c) path flags mode (free_record world))
    stored.whole bounded.4 (λ node is.
    made-node (tree_of world.names.now) (credential_in world c) path File mode (free_record world)
    node stored.whole bounded.0 bounded.1 bounded.2 bounded.3 (free-record world)
    (opens-made (tree_of world.names.now) (credential_in world c) path flags mode
    (free_record world) node is))
lines-change-well world (forms.Mkdir c path mode) stored bounded =
    made-well world
    (makes (tree_of world.names.now) (credential_in world c) path mode (free_record world))
    stored.whole (λ node is.
    made-joins (tree_of world.names.now) (credential_in world c) path mode (free_record world) node
    stored.whole bounded.0 bounded.1 bounded.2 bounded.3 (free-record world) is)
lines-change-well world (forms.Unlink c path) stored bounded =
    removed-well world
    (unlinks (tree_of world.names.now) (credential_in world c) path) (λ node is.
    unlinked-leaves (tree_of world.names.now) (credential_in world c) path node stored.whole bounded
    is)
lines-change-well world (forms.Rmdir c path) stored bounded =
    removed-well world
    (removes (tree_of world.names.now) (credential_in world c) path) (λ node is.
    removed-leaves (tree_of world.names.now) (credential_in world c) path node stored.whole bounded
    is)
lines-change-well world (forms.Rename c from to) stored bounded =
    moved-well world
    (moves (tree_of world.names.now) (credential_in world c) from to) (λ moved is.
    renamed-can (tree_of world.names.now) (credential_in world c) from to moved stored.whole
    bounded.0 bounded.1 is)
lines-change-well world form stored bounded = absurd bounded
