-- The changes of a request make the tree of its step.
use Rattle.std.proofs.Common.{◌≡◌, ℕ, ◌+◌, Bool, true, false, not, Option, Some, None, List, []}
use Rattle.std.proofs.Common.{◌∷◌, refl, sym, ap, ◌∙◌, inl, inr, if◌then◌else◌}
use Rattle.std.specs.Prelude.{Result, Ok, Err, ◌==◌, ◌||◌, nat_lt, set}
use Rattle.std.specs.List.{list_any}
use Rattle.std.proofs.lemmas.Bool.{and_parts, eq-eqb, eqb-true}
use Rattle.cfs_cred.specs.declared.credential.Credential.{Credential}
use Rattle.cfs_cred.specs.declared.want.Want.TheVariants.{Search, Write}
use Rattle.cfs_dir.specs.declared.change.Change.TheVariants as changes
use Rattle.cfs_dir.specs.declared.kind.Kind.{Kind}
use Rattle.cfs_dir.specs.declared.kind.Kind.TheVariants.{Directory, File}
use Rattle.cfs_dir.specs.declared.moved.Moved.{Moved}
use Rattle.cfs_dir.specs.declared.node.Node.{Node}
use Rattle.cfs_dir.specs.declared.place.Place.{Place}
use Rattle.cfs_dir.specs.declared.place.Place.TheVariants.{Entry, Root}
use Rattle.cfs_dir.specs.declared.posix.Posix.{Posix}
use Rattle.cfs_dir.specs.declared.posix.Posix.TheVariants.{AlreadyExists, IsADirectory}
use Rattle.cfs_dir.specs.declared.posix.Posix.TheVariants.{PermissionDenied, TooManyFiles}
use Rattle.cfs_dir.specs.Change.{changed, changed_by}
use Rattle.cfs_dir.specs.Moved.{change_of, with_move}
use Rattle.cfs_dir.specs.Namespace.{Namespace, child_of, is_child, is_directory, node_at, placed}
use Rattle.cfs_dir.specs.Namespace.{with_node}
use Rattle.cfs_dir.specs.Rename.{is_node_there, move_refusal, moved_from, moved_to, moved_unless}
use Rattle.cfs_dir.specs.Rename.{paths_refusal, renamed, renamed_unless}
use Rattle.cfs_dir.specs.Step.{and_then, entered, has_right, looked_up, made, made_at, new_node}
use Rattle.cfs_dir.specs.Step.{path_refusal, place_of, walk, walk_from, walk_unless}
use Rattle.cfs_dir.specs.Tree.{IsTree}
use Rattle.cfs_dir.proofs.Found.{node_at-In}
use Rattle.cfs_dir.proofs.Grown.{is_child-parts}
use Rattle.cfs_dir.proofs.Members.{In, All-In, find-Some}
use Rattle.cfs_dir.proofs.Renaming.{with_move-itself}
use Rattle.cfs_grants.specs.declared.grant.Grant.{Grant}
use Rattle.cfs_grants.specs.Grants.{free_queue, grant_at}
use Rattle.cfs_requests.specs.declared.name_refusal.NameRefusal.{NameRefusal}
use Rattle.cfs_requests.specs.declared.opening.Opening.{Opening}
use Rattle.cfs_requests.specs.declared.opening.Opening.TheVariants.{Found, Made}
use Rattle.cfs_requests.specs.Looks.{makes, moves, opens, removes, unless_words, unlinks}
use Rattle.cfs_requests.specs.Opens.{found, found_when, has_access, made_or, opened, words_refusal}
use Rattle.cfs_requests.specs.Steps.{NameAnswer, Step, close_step, closes_queue, done, make_step}
use Rattle.cfs_requests.specs.Steps.{makes_directory, move_step, moves_node, open_step, opens_file}
use Rattle.cfs_requests.specs.Steps.{remove_step, removes_directory, unlinks_file}
use Rattle.cfs_words.specs.declared.flags.Flags.{Flags}
use Rattle.cfs_meaning.specs.Laws.{ChangesMakeSteps}
use Rattle.cfs_meaning.specs.NameSteps.{Order, made_changes, moved_changes, opening_changes}
use Rattle.cfs_meaning.specs.NameSteps.{removed_changes, stands}

-- ---- a node that is made has the next number

abbrev IsNext : Namespace → Result Node Posix → Type 0
IsNext tree (Ok node) = node.ino ≡ tree.next
IsNext tree (Err refusal) = Unit {0}

new-next : (tree : Namespace) (credential : Credential) (directory : Node) (name : List ℕ)
    (kind : Kind) (mode : ℕ) (rec : Option ℕ) →
    IsNext tree (new_node tree credential directory name kind mode rec)
new-next tree credential directory name kind mode None = tt
new-next tree credential directory name kind mode (Some rec) =
    by-test (nat_lt tree.next 4294967296)
  where
    by-test : (b : Bool) → IsNext tree (if b then Ok (record {
      ino = tree.next;
      parent = directory.ino;
      name = name;
      kind = kind;
      mode = mode;
      uid = credential.uid;
      gid = credential.gid;
      rec = rec;
    }) else Err TooManyFiles)
    by-test true = refl
    by-test false = tt

if-right : (tree : Namespace) (right : Bool) (found : Result Node Posix) → IsNext tree found →
    IsNext tree (if right then found else Err PermissionDenied)
if-right tree true found next = next
if-right tree false found next = tt

at-next : (tree : Namespace) (credential : Credential) (kind : Kind) (mode : ℕ)
    (rec : Option ℕ) (place : Place) → IsNext tree (made_at tree credential kind mode rec place)
at-next tree credential kind mode rec (Root root) = tt
at-next tree credential kind mode rec (Entry directory name (Some node)) = tt
at-next tree credential kind mode rec (Entry directory name None) =
    if-right tree (has_right credential directory Write) _
    (new-next tree credential directory name kind mode rec)

placed-next : (tree : Namespace) (credential : Credential) (kind : Kind) (mode : ℕ)
    (rec : Option ℕ) (place : Result Place Posix) →
    IsNext tree (and_then place (made_at tree credential kind mode rec))
placed-next tree credential kind mode rec (Err refusal) = tt
placed-next tree credential kind mode rec (Ok place) = at-next tree credential kind mode rec place

made-next : (tree : Namespace) (credential : Credential) (path : List (List ℕ)) (kind : Kind)
    (mode : ℕ) (rec : Option ℕ) → IsNext tree (made tree credential path kind mode rec)
made-next tree credential path kind mode rec =
    placed-next tree credential kind mode rec (place_of tree.nodes credential path)

abbrev OpensNext : Namespace → {E : Type 0} → Result Opening E → Type 0
OpensNext tree (Ok (Found node)) = Unit {0}
OpensNext tree (Ok (Made node)) = node.ino ≡ tree.next
OpensNext tree (Err refusal) = Unit {0}

when-found : (tree : Namespace) (credential : Credential) (flags : Flags) (node : Node) →
    OpensNext tree (found_when credential flags node)
when-found tree credential flags node =
    by-tests (is_directory node.kind) (not (has_access credential node flags))
  where
    by-tests : (directory denied : Bool) →
        OpensNext tree {E = Posix} (if directory then Err IsADirectory
        else if denied then Err PermissionDenied else Ok (Found node))
    by-tests true denied = tt
    by-tests false true = tt
    by-tests false false = tt

found-next : (tree : Namespace) (credential : Credential) (flags : Flags)
    (there : Result Node Posix) →
    OpensNext tree (and_then there (found_when credential flags))
found-next tree credential flags (Err refusal) = tt
found-next tree credential flags (Ok node) = when-found tree credential flags node

unless-exclusive : (tree : Namespace) (exclusive : Bool) (there : Result Opening Posix) →
    OpensNext tree there → OpensNext tree (if exclusive then Err AlreadyExists else there)
unless-exclusive tree true there next = tt
unless-exclusive tree false there next = next

or-next : (tree : Namespace) (exclusive : Bool) (there : Result Opening Posix)
    (new : Result Node Posix) → OpensNext tree there → IsNext tree new →
    OpensNext tree (made_or exclusive there new)
or-next tree exclusive there (Ok node) old next = next
or-next tree exclusive there (Err AlreadyExists) old next =
    unless-exclusive tree exclusive there old
or-next tree exclusive there (Err refusal) old next = tt

either-next : (tree : Namespace) (create : Bool) (one other : Result Opening Posix) →
    OpensNext tree one → OpensNext tree other → OpensNext tree (if create then one else other)
either-next tree true one other a b = a
either-next tree false one other a b = b

opened-next : (tree : Namespace) (credential : Credential) (path : List (List ℕ))
    (flags : Flags) (mode : ℕ) (rec : Option ℕ) →
    OpensNext tree (opened tree credential path flags mode rec)
opened-next tree credential path flags mode rec =
    let there : OpensNext tree (found tree credential path flags) =
    found-next tree credential flags (looked_up tree credential path) in
    either-next tree flags.create _ _
    (or-next tree flags.exclusive _ _ there (made-next tree credential path File mode rec)) there

words-open : (tree : Namespace) (words : Option Posix) (step : Result Opening Posix) →
    OpensNext tree step → OpensNext tree (unless_words words step)
words-open tree (Some refusal) step next = tt
words-open tree None (Ok (Found node)) next = tt
words-open tree None (Ok (Made node)) next = next
words-open tree None (Err refusal) next = tt

abbrev MakesNext : Namespace → Result Node NameRefusal → Type 0
MakesNext tree (Ok node) = node.ino ≡ tree.next
MakesNext tree (Err refusal) = Unit {0}

words-make : (tree : Namespace) (words : Option Posix) (step : Result Node Posix) →
    IsNext tree step → MakesNext tree (unless_words words step)
words-make tree (Some refusal) step next = tt
words-make tree None (Ok node) next = next
words-make tree None (Err refusal) next = tt

-- ---- a node that stands there already is not moved

-- what stands at a place is what the directory has of that name
abbrev IsThere : List Node → Result Place Posix → Type 0
IsThere nodes (Err refusal) = Unit {0}
IsThere nodes (Ok (Root root)) = Unit {0}
IsThere nodes (Ok (Entry directory name there)) = there ≡ child_of nodes directory.ino name

last-there : (nodes : List Node) (directory : Node) (name : List ℕ) (right : Bool) →
    IsThere nodes (if right then Ok (Entry directory name (child_of nodes directory.ino name))
    else Err PermissionDenied)
last-there nodes directory name true = refl
last-there nodes directory name false = tt

then-there : (nodes : List Node) (next : Node → Result Place Posix) →
    ((child : Node) → IsThere nodes (next child)) → (found : Result Node Posix) →
    IsThere nodes (and_then found next)
then-there nodes next there (Err refusal) = tt
then-there nodes next there (Ok child) = there child

walk-there : (nodes : List Node) (credential : Credential) (path : List (List ℕ))
    (directory : Node) → IsThere nodes (walk nodes credential directory path)
walk-there nodes credential [] directory = tt
walk-there nodes credential (name ∷ []) directory =
    last-there nodes directory name (has_right credential directory Search)
walk-there nodes credential (name ∷ next ∷ names) directory =
    then-there nodes (λ child. walk nodes credential child (next ∷ names))
    (λ child. walk-there nodes credential (next ∷ names) child)
    (entered nodes credential directory name)

from-there : (nodes : List Node) (credential : Credential) (path : List (List ℕ))
    (root : Option Node) → IsThere nodes (walk_from root nodes credential path)
from-there nodes credential path None = tt
from-there nodes credential path (Some root) = walk-there nodes credential path root

place-there : (nodes : List Node) (credential : Credential) (path : List (List ℕ)) →
    IsThere nodes (place_of nodes credential path)
place-there nodes credential path = unless-words (path_refusal path)
  where
    unless-words : (words : Option Posix) → IsThere nodes (walk_unless words nodes credential path)
    unless-words (Some refusal) = tt
    unless-words None = from-there nodes credential path (node_at nodes 0)

some-In : {X : Type 0} (p : X → Bool) (xs : List X) → list_any p xs ≡ true →
    (x : X) × In xs x × (p x ≡ true)
some-In p [] is = absurd (cc)
some-In {X} p (y ∷ ys) is = pick (p y) refl (some-In p ys) is
  where
    pick : (b : Bool) → p y ≡ b →
        (list_any p ys ≡ true → (x : X) × In ys x × (p x ≡ true)) → (b || list_any p ys) ≡ true →
        (x : X) × In (y ∷ ys) x × (p x ≡ true)
    pick true own rest now = (y, inl refl, own)
    pick false own rest now = let later = rest now in (later.0, inr later.1, later.2)

abbrev StandsStill : Namespace → {E : Type 0} → Result Moved E → Type 0
StandsStill tree (Ok moved) = stands tree.nodes moved.node ≡ true → with_move tree moved ≡ tree
StandsStill tree (Err refusal) = Unit {0}

-- one that goes elsewhere does not stand there
goes-away : (tree : Namespace) (node directory : Node) (name : List ℕ) (there : Option Node) →
    IsTree tree.nodes tree.next → In tree.nodes node →
    there ≡ child_of tree.nodes directory.ino name → is_node_there node there ≡ false →
    stands tree.nodes (record node { parent = directory.ino; name = name }) ≡ true → ⊥
goes-away tree node directory name there whole in_tree is other stood =
    let here = some-In _ tree.nodes stood in
    let n : Node = here.0 in
    let tests = and_parts (n.rec == node.rec) (is_child directory.ino name n) here.2 in
    let rec_is : n.rec ≡ node.rec = eqb-true n.rec node.rec tests.0 in
    let parts = is_child-parts directory.ino name n tests.1 in
    let both : Some n ≡ Some node =
    sym (node_at-In 0 tree.nodes n whole.ascending here.1) ∙ ap (node_at tree.nodes) rec_is
    ∙ node_at-In 0 tree.nodes node whole.ascending in_tree in
    let one : n ≡ node = cc in
    let stands_here : there ≡ Some node =
    is ∙ ap (λ i. child_of tree.nodes i name) (sym parts.0)
    ∙ ap (λ x. child_of tree.nodes n.parent x) (sym parts.1)
    ∙ All-In (λ m. child_of tree.nodes m.parent m.name ≡ Some m) tree.nodes n whole.name_once here.1
    ∙ both in
    let wrong : true ≡ false =
    sym (ap (is_node_there node) stands_here ∙ eq-eqb node.ino node.ino refl) ∙ other in
    absurd (cc)

unless-refused : (tree : Namespace) (refusal : Option Posix) (moved : Moved) →
    (stands tree.nodes moved.node ≡ true → ⊥) → StandsStill tree (moved_unless refusal moved)
unless-refused tree (Some refusal) moved never = tt
unless-refused tree None moved never = λ stood. absurd (never stood)

to-still : (tree : Namespace) (credential : Credential) (names : ℕ) (parent node : Node) →
    IsTree tree.nodes tree.next → In tree.nodes node → (place : Result Place Posix) →
    IsThere tree.nodes place →
    StandsStill tree (and_then place (moved_to tree.nodes credential names parent node))
to-still tree credential names parent node whole in_tree (Err refusal) is = tt
to-still tree credential names parent node whole in_tree (Ok (Root root)) is = tt
to-still tree credential names parent node whole in_tree (Ok (Entry directory name there)) is =
    by-test (is_node_there node there) refl
  where
    by-test : (b : Bool) → is_node_there node there ≡ b →
        StandsStill tree (if b then Ok (record { node = node; replaced = None })
        else moved_unless (move_refusal tree.nodes credential parent node directory there names)
        (record {
          node = record node { parent = directory.ino; name = name };
          replaced = there;
        }))
    by-test true same = λ stood. with_move-itself tree node whole in_tree
    by-test false other =
        unless-refused tree (move_refusal tree.nodes credential parent node directory there names) _
        (goes-away tree node directory name there whole in_tree is other)

from-still : (tree : Namespace) (credential : Credential) (to : List (List ℕ)) →
    IsTree tree.nodes tree.next → (place : Result Place Posix) → IsThere tree.nodes place →
    StandsStill tree (and_then place (moved_from tree.nodes credential to))
from-still tree credential to whole (Err refusal) is = tt
from-still tree credential to whole (Ok (Root root)) is = tt
from-still tree credential to whole (Ok (Entry parent name None)) is = tt
from-still tree credential to whole (Ok (Entry parent name (Some node))) is =
    to-still tree credential _ parent node whole
    (find-Some (is_child parent.ino name) tree.nodes node (sym is)).0
    (place_of tree.nodes credential to) (place-there tree.nodes credential to)

renamed-still : (tree : Namespace) (credential : Credential) (from to : List (List ℕ)) →
    IsTree tree.nodes tree.next → StandsStill tree (renamed tree credential from to)
renamed-still tree credential from to whole = unless-paths (paths_refusal from to)
  where
    unless-paths : (refusal : Option Posix) →
        StandsStill tree (renamed_unless refusal tree.nodes credential from to)
    unless-paths (Some refusal) = tt
    unless-paths None =
        from-still tree credential to whole (place_of tree.nodes credential from)
        (place-there tree.nodes credential from)

words-move : (tree : Namespace) (words : Option Posix) (step : Result Moved Posix) →
    StandsStill tree step → StandsStill tree (unless_words words step)
words-move tree (Some refusal) step still = tt
words-move tree None (Ok moved) still = still
words-move tree None (Err refusal) still = tt

-- ---- the steps

abbrev tree_in : Namespace → Step → Namespace
tree_in tree None = tree
tree_in tree (Some step) = step.1.tree

created : (tree : Namespace) (node : Node) → node.ino ≡ tree.next →
    changed tree (changes.Create node) ≡ with_node tree node
created tree node is = ap (λ n. record { nodes = placed node tree.nodes; next = n + 1 }) is

opens-so : (order : Order) (c : ℕ) (flags : Flags) (queue : Option ℕ)
    (found : Result Opening NameRefusal) (step : NameAnswer × Order) → OpensNext order.tree found →
    open_step order c flags queue found ≡ Some step →
    changed_by order.tree (opening_changes found) ≡ step.1.tree
opens-so order c flags queue (Err refusal) step next is = absurd (cc)
opens-so order c flags None (Ok opening) step next is = absurd (cc)
opens-so order c flags (Some queue) (Ok (Found node)) step next is = ap (tree_in order.tree) is
opens-so order c flags (Some queue) (Ok (Made node)) step next is =
    created order.tree node next ∙ ap (tree_in order.tree) is

makes-so : (order : Order) (found : Result Node NameRefusal) (step : NameAnswer × Order) →
    MakesNext order.tree found → make_step order found ≡ Some step →
    changed_by order.tree (made_changes found) ≡ step.1.tree
makes-so order (Err refusal) step next is = absurd (cc)
makes-so order (Ok node) step next is =
    created order.tree node next ∙ ap (tree_in order.tree) is

removes-so : (order : Order) (found : Result Node NameRefusal) (step : NameAnswer × Order) →
    remove_step order found ≡ Some step →
    changed_by order.tree (removed_changes found) ≡ step.1.tree
removes-so order (Err refusal) step is = absurd (cc)
removes-so order (Ok node) step is = ap (tree_in order.tree) is

moves-so : (order : Order) (found : Result Moved NameRefusal) (step : NameAnswer × Order) →
    StandsStill order.tree found → move_step order found ≡ Some step →
    changed_by order.tree (moved_changes order.tree.nodes found) ≡ step.1.tree
moves-so order (Err refusal) step still is = absurd (cc)
moves-so order (Ok moved) step still is =
    by-test (stands order.tree.nodes moved.node) refl ∙ ap (tree_in order.tree) is
  where
    by-test : (b : Bool) → stands order.tree.nodes moved.node ≡ b →
        changed_by order.tree (if b then [] else change_of moved ∷ [])
        ≡ with_move order.tree moved
    by-test true stood = sym (still stood)
    by-test false stood = refl

closes-so : (order : Order) (c queue : ℕ) (row : Option Grant) (step : NameAnswer × Order) →
    close_step order c queue row ≡ Some step → order.tree ≡ step.1.tree
closes-so order c queue None step is = absurd (cc)
closes-so order c queue (Some grant) step is = by-test (grant.caller == c) is
  where
    by-test : (b : Bool) →
        (if b then Some (done, record order { grants = set order.grants queue None })
        else None) ≡ Some step → order.tree ≡ step.1.tree
    by-test true e = ap (tree_in order.tree) e
    by-test false e = absurd (cc)

pub changes-make : ChangesMakeSteps
changes-make order after answer c (opens_file credential path flags mode) rec whole is =
    opens-so order c flags (free_queue order.grants)
    (opens order.tree credential path flags mode rec) (answer, after)
    (words-open order.tree (words_refusal flags path) _
    (opened-next order.tree credential path flags mode rec)) is
changes-make order after answer c (makes_directory credential path mode) rec whole is =
    makes-so order (makes order.tree credential path mode rec) (answer, after)
    (words-make order.tree (path_refusal path) _
    (made-next order.tree credential path Directory mode rec)) is
changes-make order after answer c (unlinks_file credential path) rec whole is =
    removes-so order (unlinks order.tree credential path) (answer, after) is
changes-make order after answer c (removes_directory credential path) rec whole is =
    removes-so order (removes order.tree credential path) (answer, after) is
changes-make order after answer c (moves_node credential from to) rec whole is =
    moves-so order (moves order.tree credential from to) (answer, after)
    (words-move order.tree (paths_refusal from to) _
    (renamed-still order.tree credential from to whole)) is
changes-make order after answer c (closes_queue queue) rec whole is =
    closes-so order c queue (grant_at order.grants queue) (answer, after) is
