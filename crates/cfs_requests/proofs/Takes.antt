-- A node that is made takes the record that is given.
use Rattle.std.proofs.Common.{◌≡◌, ℕ, List, Bool, true, false, cond, Option, Some, None, Result, Ok, Err, inl, inr, sym, ◌∙◌, ap}
use Rattle.std.specs.Prelude.{not, nat_lt}
use Rattle.std.proofs.lemmas.Bool.{cases_Bool, cond-true, cond-false}
use Rattle.cfs_cred.specs.declared.credential.Credential.{Credential}
use Rattle.cfs_cred.specs.declared.want.Want.TheVariants.{Write}
use Rattle.cfs_dir.specs.declared.kind.Kind.{Kind}
use Rattle.cfs_dir.specs.declared.kind.Kind.TheVariants.{Directory, File}
use Rattle.cfs_dir.specs.declared.node.Node.{Node}
use Rattle.cfs_dir.specs.declared.place.Place.{Place}
use Rattle.cfs_dir.specs.declared.place.Place.TheVariants.{Root, Entry}
use Rattle.cfs_dir.specs.declared.posix.Posix.{Posix}
use Rattle.cfs_dir.specs.declared.posix.Posix.TheVariants.{AlreadyExists, IsADirectory, PermissionDenied, TooManyFiles}
use Rattle.cfs_dir.specs.Namespace.{Namespace, is_directory}
use Rattle.cfs_dir.specs.Step.{and_then, has_right, looked_up, made, made_at, new_node, path_refusal, place_of}
use Rattle.cfs_requests.specs.declared.opening.Opening.{Opening}
use Rattle.cfs_requests.specs.declared.opening.Opening.TheVariants.{Found, Made}
use Rattle.cfs_requests.specs.Looks.{by_tree, makes, opens, unless_words}
use Rattle.cfs_requests.specs.Opens.{found, found_when, has_access, made_or, opened, words_refusal}
use Rattle.cfs_words.specs.declared.flags.Flags.{Flags}

new_takes : (namespace : Namespace) (credential : Credential) (directory : Node) (name : List ℕ) (kind : Kind) (mode : ℕ) (rec : Option ℕ) (node : Node) →
    new_node namespace credential directory name kind mode rec ≡ Ok node → rec ≡ Some node.rec
new_takes namespace credential directory name kind mode None node e = absurd (cc)
new_takes namespace credential directory name kind mode (Some rec) node e = elim (cases_Bool (nat_lt namespace.next 4294967296)) [
  | inl t ↦
      let new : Node = record { ino = namespace.next; parent = directory.ino; name = name; kind = kind; mode = mode; uid = credential.uid; gid = credential.gid; rec = rec } in
      let passed : Result Node Posix = Ok new in
      let failed : Result Node Posix = Err TooManyFiles in
      let is : passed ≡ Ok node = sym (cond-true (nat_lt namespace.next 4294967296) passed failed t) ∙ e in
      let same : new ≡ node = cc in
      ap (λ (n : Node). Some n.rec) same
  | inr f ↦
      let new : Node = record { ino = namespace.next; parent = directory.ino; name = name; kind = kind; mode = mode; uid = credential.uid; gid = credential.gid; rec = rec } in
      let passed : Result Node Posix = Ok new in
      let failed : Result Node Posix = Err TooManyFiles in
      let is : failed ≡ Ok node = sym (cond-false (nat_lt namespace.next 4294967296) passed failed f) ∙ e in
      absurd (cc)
]

at_takes : (namespace : Namespace) (credential : Credential) (kind : Kind) (mode : ℕ) (rec : Option ℕ) (place : Place) (node : Node) →
    made_at namespace credential kind mode rec place ≡ Ok node → rec ≡ Some node.rec
at_takes namespace credential kind mode rec (Root root) node e = absurd (cc)
at_takes namespace credential kind mode rec (Entry directory name (Some there)) node e = absurd (cc)
at_takes namespace credential kind mode rec (Entry directory name None) node e = elim (cases_Bool (has_right credential directory Write)) [
  | inl t ↦ new_takes namespace credential directory name kind mode rec node
      (sym (cond-true (has_right credential directory Write) (new_node namespace credential directory name kind mode rec) (Err PermissionDenied) t) ∙ e)
  | inr f ↦
      let failed : Result Node Posix = Err PermissionDenied in
      let is : failed ≡ Ok node = sym (cond-false (has_right credential directory Write) (new_node namespace credential directory name kind mode rec) (Err PermissionDenied) f) ∙ e in
      absurd (cc)
]

placed_takes : (namespace : Namespace) (credential : Credential) (kind : Kind) (mode : ℕ) (rec : Option ℕ) (place : Result Place Posix) (node : Node) →
    and_then place (made_at namespace credential kind mode rec) ≡ Ok node → rec ≡ Some node.rec
placed_takes namespace credential kind mode rec (Err refusal) node e = absurd (cc)
placed_takes namespace credential kind mode rec (Ok place) node e = at_takes namespace credential kind mode rec place node e

pub made_takes : (namespace : Namespace) (credential : Credential) (path : List (List ℕ)) (kind : Kind) (mode : ℕ) (rec : Option ℕ) (node : Node) →
    made namespace credential path kind mode rec ≡ Ok node → rec ≡ Some node.rec
made_takes namespace credential path kind mode rec node e =
    placed_takes namespace credential kind mode rec (place_of namespace.nodes credential path) node e

passed_by : {X : Type 0} (step : Result X Posix) (value : X) → by_tree step ≡ Ok value → step ≡ Ok value
passed_by (Ok value') value e = cc
passed_by (Err refusal) value e = absurd (cc)

pub passed_words : {X : Type 0} (words : Option Posix) (step : Result X Posix) (value : X) → unless_words words step ≡ Ok value → step ≡ Ok value
passed_words (Some refusal) step value e = absurd (cc)
passed_words None step value e = passed_by step value e

pub makes_takes : (namespace : Namespace) (credential : Credential) (path : List (List ℕ)) (mode : ℕ) (rec : Option ℕ) (node : Node) →
    makes namespace credential path mode rec ≡ Ok node → rec ≡ Some node.rec
makes_takes namespace credential path mode rec node e =
    made_takes namespace credential path Directory mode rec node
    (passed_words (path_refusal path) (made namespace credential path Directory mode rec) node e)

-- a refusal is no node
not_refused : (b : Bool) (refusal : Posix) (there : Result Opening Posix) (node : Node) →
    (there ≡ Ok (Made node) → ⊥) → cond b (Err refusal) there ≡ Ok (Made node) → ⊥
not_refused true refusal there node never e = cc
not_refused false refusal there node never e = never e

abbrev pub opened_when : Credential → Flags → Node → Result Opening Posix
opened_when credential flags there = cond (not (has_access credential there flags)) (Err PermissionDenied) (Ok (Found there))

found_when_found : (credential : Credential) (flags : Flags) (there node : Node) → found_when credential flags there ≡ Ok (Made node) → ⊥
found_when_found credential flags there node e = elim (cases_Bool (is_directory there.kind)) [
  | inl t ↦
      let none : Result Opening Posix = Err IsADirectory in
      let is : none ≡ Ok (Made node) = sym (cond-true (is_directory there.kind) none (opened_when credential flags there) t) ∙ e in
      cc
  | inr f ↦ elim (cases_Bool (not (has_access credential there flags))) [
    | inl t ↦
        let none : Result Opening Posix = Err PermissionDenied in
        let is : none ≡ Ok (Made node) =
        sym (cond-false (is_directory there.kind) (Err IsADirectory) (opened_when credential flags there) f
        ∙ cond-true (not (has_access credential there flags)) none (Ok (Found there)) t) ∙ e in
        cc
    | inr g ↦
        let found : Result Opening Posix = Ok (Found there) in
        let is : found ≡ Ok (Made node) =
        sym (cond-false (is_directory there.kind) (Err IsADirectory) (opened_when credential flags there) f
        ∙ cond-false (not (has_access credential there flags)) (Err PermissionDenied) found g) ∙ e in
        cc
  ]
]

found_at_found : (credential : Credential) (flags : Flags) (there : Result Node Posix) (node : Node) →
    and_then there (found_when credential flags) ≡ Ok (Made node) → ⊥
found_at_found credential flags (Err refusal) node e = cc
found_at_found credential flags (Ok there) node e = found_when_found credential flags there node e

made_or_takes : (exclusive : Bool) (there : Result Opening Posix) (made : Result Node Posix) (node : Node) →
    (there ≡ Ok (Made node) → ⊥) → made_or exclusive there made ≡ Ok (Made node) → made ≡ Ok node
made_or_takes exclusive there (Ok other) node never e = cc
made_or_takes exclusive there (Err AlreadyExists) node never e = absurd (not_refused exclusive AlreadyExists there node never e)
made_or_takes exclusive there (Err refusal) node never e = absurd (cc)

opened_takes : (namespace : Namespace) (credential : Credential) (path : List (List ℕ)) (flags : Flags) (mode : ℕ) (rec : Option ℕ) (node : Node) →
    opened namespace credential path flags mode rec ≡ Ok (Made node) → rec ≡ Some node.rec
opened_takes namespace credential path flags mode rec node e =
    let never = found_at_found credential flags (looked_up namespace credential path) node in
    elim (cases_Bool flags.create) [
      | inl t ↦
          let is : made_or flags.exclusive (found namespace credential path flags) (made namespace credential path File mode rec) ≡ Ok (Made node) =
          sym (cond-true flags.create (made_or flags.exclusive (found namespace credential path flags) (made namespace credential path File mode rec))
          (found namespace credential path flags) t) ∙ e in
          made_takes namespace credential path File mode rec node
          (made_or_takes flags.exclusive (found namespace credential path flags) (made namespace credential path File mode rec) node never is)
      | inr f ↦ absurd (never (sym (cond-false flags.create
          (made_or flags.exclusive (found namespace credential path flags) (made namespace credential path File mode rec))
          (found namespace credential path flags) f) ∙ e))
    ]

pub opens_takes : (namespace : Namespace) (credential : Credential) (path : List (List ℕ)) (flags : Flags) (mode : ℕ) (rec : Option ℕ) (node : Node) →
    opens namespace credential path flags mode rec ≡ Ok (Made node) → rec ≡ Some node.rec
opens_takes namespace credential path flags mode rec node e =
    opened_takes namespace credential path flags mode rec node
    (passed_words (words_refusal flags path) (opened namespace credential path flags mode rec) (Made node) e)
