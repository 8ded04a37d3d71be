-- A step does not rest on the record that was offered, but where a node was made in it.
use Rattle.std.proofs.Common.{◌≡◌, ℕ, Bool, true, false, Option, Some, None, List, refl, sym, ap}
use Rattle.std.proofs.Common.{◌∙◌, if◌then◌else◌}
use Rattle.std.specs.Prelude.{Result, Ok, Err, nat_lt}
use Rattle.cfs_cred.specs.declared.credential.Credential.{Credential}
use Rattle.cfs_cred.specs.declared.want.Want.TheVariants.{Write}
use Rattle.cfs_dir.specs.declared.kind.Kind.{Kind}
use Rattle.cfs_dir.specs.declared.kind.Kind.TheVariants.{File}
use Rattle.cfs_dir.specs.declared.node.Node.{Node}
use Rattle.cfs_dir.specs.declared.place.Place.{Place}
use Rattle.cfs_dir.specs.declared.place.Place.TheVariants.{Entry, Root}
use Rattle.cfs_dir.specs.declared.posix.Posix.{Posix}
use Rattle.cfs_dir.specs.declared.posix.Posix.TheVariants.{AlreadyExists, PermissionDenied}
use Rattle.cfs_dir.specs.declared.posix.Posix.TheVariants.{TooManyFiles}
use Rattle.cfs_dir.specs.Namespace.{Namespace}
use Rattle.cfs_dir.specs.Step.{and_then, has_right, made, made_at, new_node, place_of}
use Rattle.cfs_grants.specs.Grants.{free_queue}
use Rattle.cfs_requests.specs.declared.name_refusal.NameRefusal.{NameRefusal}
use Rattle.cfs_requests.specs.declared.opening.Opening.{Opening}
use Rattle.cfs_requests.specs.declared.opening.Opening.TheVariants.{Found, Made}
use Rattle.cfs_requests.specs.Looks.{makes, opens, unless_words}
use Rattle.cfs_requests.specs.Opens.{found, made_or, opened, words_refusal}
use Rattle.cfs_requests.specs.Steps.{NameAnswer, NameRequest, closes_queue, make_step}
use Rattle.cfs_requests.specs.Steps.{makes_directory, moves_node, open_step, opens_file}
use Rattle.cfs_requests.specs.Steps.{removes_directory, unlinks_file}
use Rattle.cfs_requests.proofs.Takes.{makes_takes, opens_takes}
use Rattle.cfs_words.specs.declared.flags.Flags.{Flags}
use Rattle.cfs_meaning.specs.NameSteps.{Order, changes_of, made_changes, opening_changes}
use Rattle.cfs_meaning.specs.NameSteps.{record_made, step_of}

-- ---- what is there already is there whatever record is offered

right-exists : (right : Bool) (one other : Result Node Posix) →
    (one ≡ Err AlreadyExists → other ≡ Err AlreadyExists) →
    (if right then one else Err PermissionDenied) ≡ Err AlreadyExists →
    (if right then other else Err PermissionDenied) ≡ Err AlreadyExists
right-exists true one other same is = same is
right-exists false one other same is = is

new-exists : (tree : Namespace) (credential : Credential) (directory : Node) (name : List ℕ)
    (kind : Kind) (mode : ℕ) (rec : Option ℕ) →
    new_node tree credential directory name kind mode rec ≡ Err AlreadyExists →
    new_node tree credential directory name kind mode None ≡ Err AlreadyExists
new-exists tree credential directory name kind mode None is = is
new-exists tree credential directory name kind mode (Some rec) is =
    by-test (nat_lt tree.next 4294967296) (record {
      ino = tree.next;
      parent = directory.ino;
      name = name;
      kind = kind;
      mode = mode;
      uid = credential.uid;
      gid = credential.gid;
      rec = rec;
    }) is
  where
    none : Result Node Posix
    none = new_node tree credential directory name kind mode None

    by-test : (b : Bool) (node : Node) →
        (if b then Ok node else Err TooManyFiles) ≡ Err AlreadyExists → none ≡ Err AlreadyExists
    by-test true node e = absurd (cc)
    by-test false node e = absurd (cc)

at-exists : (tree : Namespace) (credential : Credential) (kind : Kind) (mode : ℕ)
    (rec : Option ℕ) (place : Place) →
    made_at tree credential kind mode rec place ≡ Err AlreadyExists →
    made_at tree credential kind mode None place ≡ Err AlreadyExists
at-exists tree credential kind mode rec (Root root) is = is
at-exists tree credential kind mode rec (Entry directory name (Some node)) is = is
at-exists tree credential kind mode rec (Entry directory name None) is =
    right-exists (has_right credential directory Write) _ _
    (new-exists tree credential directory name kind mode rec) is

placed-exists : (tree : Namespace) (credential : Credential) (kind : Kind) (mode : ℕ)
    (rec : Option ℕ) (place : Result Place Posix) →
    and_then place (made_at tree credential kind mode rec) ≡ Err AlreadyExists →
    and_then place (made_at tree credential kind mode None) ≡ Err AlreadyExists
placed-exists tree credential kind mode rec (Err refusal) is = is
placed-exists tree credential kind mode rec (Ok place) is =
    at-exists tree credential kind mode rec place is

-- ---- so an open finds it

or-found : (exclusive : Bool) (there : Result Opening Posix) (one other : Result Node Posix)
    (node : Node) → (one ≡ Err AlreadyExists → other ≡ Err AlreadyExists) →
    made_or exclusive there one ≡ Ok (Found node) →
    made_or exclusive there other ≡ Ok (Found node)
or-found exclusive there (Ok new) other node same is = absurd (cc)
or-found exclusive there (Err AlreadyExists) other node same is =
    ap (made_or exclusive there) (same refl) ∙ is
or-found exclusive there (Err refusal) other node same is = absurd (cc)

if-found : (create : Bool) (there one other : Result Opening Posix) (node : Node) →
    (one ≡ Ok (Found node) → other ≡ Ok (Found node)) →
    (if create then one else there) ≡ Ok (Found node) →
    (if create then other else there) ≡ Ok (Found node)
if-found true there one other node same is = same is
if-found false there one other node same is = is

words-found : (words : Option Posix) (one other : Result Opening Posix) (node : Node) →
    (one ≡ Ok (Found node) → other ≡ Ok (Found node)) →
    unless_words words one ≡ Ok (Found node) → unless_words words other ≡ Ok (Found node)
words-found (Some refusal) one other node same is = absurd (cc)
words-found None (Err refusal) other node same is = absurd (cc)
words-found None (Ok (Made new)) other node same is = absurd (cc)
words-found None (Ok (Found there)) other node same is =
    let one : there ≡ node = cc in
    ap (unless_words None) (same (ap (λ n. Ok (Found n)) one))

opens-found : (tree : Namespace) (credential : Credential) (path : List (List ℕ)) (flags : Flags)
    (mode : ℕ) (rec : Option ℕ) (node : Node) →
    opens tree credential path flags mode rec ≡ Ok (Found node) →
    opens tree credential path flags mode None ≡ Ok (Found node)
opens-found tree credential path flags mode rec node is =
    words-found (words_refusal flags path) (opened tree credential path flags mode rec)
    (opened tree credential path flags mode None) node
    (if-found flags.create (found tree credential path flags) _ _ node
    (or-found flags.exclusive (found tree credential path flags)
    (made tree credential path File mode rec) (made tree credential path File mode None) node
    (placed-exists tree credential File mode rec (place_of tree.nodes credential path)))) is

-- ---- steps

open-made : (order : Order) (c : ℕ) (credential : Credential) (path : List (List ℕ))
    (flags : Flags) (mode : ℕ) (rec : Option ℕ) (step : NameAnswer × Order)
    (looked : Result Opening NameRefusal) →
    opens order.tree credential path flags mode rec ≡ looked →
    step_of order c (opens_file credential path flags mode) rec ≡ Some step →
    step_of order c (opens_file credential path flags mode) (record_made (opening_changes looked))
    ≡ Some step
open-made order c credential path flags mode rec step (Err refusal) looks is =
    let none : open_step order c flags (free_queue order.grants) (Err refusal) ≡ Some step =
    ap (open_step order c flags (free_queue order.grants)) (sym looks) ∙ is in
    absurd (cc)
open-made order c credential path flags mode rec step (Ok (Made node)) looks is =
    ap (step_of order c (opens_file credential path flags mode))
    (sym (opens_takes order.tree credential path flags mode rec node looks)) ∙ is
open-made order c credential path flags mode rec step (Ok (Found node)) looks is =
    ap (open_step order c flags (free_queue order.grants))
    (opens-found order.tree credential path flags mode rec node looks ∙ sym looks) ∙ is

make-made : (order : Order) (c : ℕ) (credential : Credential) (path : List (List ℕ)) (mode : ℕ)
    (rec : Option ℕ) (step : NameAnswer × Order) (looked : Result Node NameRefusal) →
    makes order.tree credential path mode rec ≡ looked →
    step_of order c (makes_directory credential path mode) rec ≡ Some step →
    step_of order c (makes_directory credential path mode) (record_made (made_changes looked))
    ≡ Some step
make-made order c credential path mode rec step (Err refusal) looks is =
    let none : make_step order (Err refusal) ≡ Some step =
    ap (make_step order) (sym looks) ∙ is in
    absurd (cc)
make-made order c credential path mode rec step (Ok node) looks is =
    ap (step_of order c (makes_directory credential path mode))
    (sym (makes_takes order.tree credential path mode rec node looks)) ∙ is

pub step-made : (order : Order) (c : ℕ) (request : NameRequest) (rec : Option ℕ)
    (step : NameAnswer × Order) → step_of order c request rec ≡ Some step →
    step_of order c request (record_made (changes_of order request rec)) ≡ Some step
step-made order c (opens_file credential path flags mode) rec step is =
    open-made order c credential path flags mode rec step _ refl is
step-made order c (makes_directory credential path mode) rec step is =
    make-made order c credential path mode rec step _ refl is
step-made order c (unlinks_file credential path) rec step is = is
step-made order c (removes_directory credential path) rec step is = is
step-made order c (moves_node credential from to) rec step is = is
step-made order c (closes_queue queue) rec step is = is
